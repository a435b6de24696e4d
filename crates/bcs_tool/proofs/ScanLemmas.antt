-- Bytes that are validated as they arrive: the answer to them, and the outcome of the run.
use Rattle.bcs_tool.proofs.Prelude.{◌≡◌, ◌⊎◌, ◌≤◌, ◌∙◌, ◌&&◌, ℕ, suc, Bool, true, false, List, [], Option, Some, None, Result, Ok, Err, arith, inl, inr, refl, subst, sym, true≢false, FrontGone, GoneTo, Trails, Stops, Accepts, DecodeFault, Stop, Entries, Shape, shape_of, Answers, IsAsked, count_line, scan_stopped, scanned, stop_line, GivesBytes, Asks, is_scan, is_unlimited, none, PrintsWithoutPlace, IsAskedBy, Answer, Asked, Outcome, Work, coding_of, is_raw, Coding, Hexadecimal, Base64, Raw, Command, Scan, Ends, FailsAt, HasLines, IfTold, PutsAnswer, Responds, Streams, once, AnswersScan, FaultOfScan, IsScanned, RefusesScan, Scans, Interruption, RunFault, Take, Write}
use Rattle.bcs_decode_spec.specs.declared.decode_fault.DecodeFault.TheVariants as decode_fault
use Rattle.bcs_tool_answers.specs.Places as places
use Rattle.bcs_io.specs.declared.taking.TakeFault.TheVariants as take_fault
use Rattle.bcs_tool_command_line.specs.declared.command.Command.TheVariants as command
use Rattle.bcs_tool.proofs.RunLemmas.{nothing_before}

-- ---- the answer

-- raw bytes represent themselves
given_raw : (coding : Coding) (input : List ℕ) → is_raw coding ≡ true → GivesBytes coding input input
given_raw Hexadecimal input is = cc
given_raw Base64 input is = cc
given_raw Raw input is = refl

module _ (work : Work) (registry : Entries) (s : Shape) (asks : Asks work registry s) (is : work.command ≡ Scan) (raw : is_raw (coding_of work) ≡ true) (unlimited : is_unlimited work ≡ true) where
  asked : (input : List ℕ) → IsAsked work input Scan registry s
  asked input = record { is_command = is; asks = asks; within = λ limited. absurd (true≢false (sym unlimited ∙ limited)) }

  given : (input : List ℕ) → GivesBytes (coding_of work) input input
  given input = given_raw (coding_of work) input raw

  pub counts : (front : Bool) → work.options.front ≡ front → (content left : Option (List ℕ)) (n : ℕ) → Scans front registry work.limits s content left (Ok n)
      → IfTold content (λ all. Answers work all 0 (count_line n))
  counts front of None left n told = tt
  counts true of (Some all) left n told =
      λ are. let h = told.2 are in scanned registry s all n h.0 (asked all) (given all) h.1 (λ whole. absurd (true≢false (sym of ∙ whole)))
  counts false of (Some all) left n told =
      λ are. let h = told.2 are in
      scanned registry s all n h.0 (asked all) (given all) (subst (λ (m : ℕ). Accepts registry work.limits s all m h.0) (sym told.1) h.1.accepted) (λ whole. told.1)

  pub stops_at : (front : Bool) → work.options.front ≡ front → (content left : Option (List ℕ)) (stop : Stop) → Scans front registry work.limits s content left (Err (decode_fault.Stop stop))
      → IfTold content (λ all. Answers work all 2 (stop_line stop.reason stop.place))
  stops_at front of None left stop told = tt
  stops_at true of (Some all) left stop told = λ are. scan_stopped registry s all stop.reason stop.place (asked all) (given all) (rw of (told are).0)
  stops_at false of (Some all) left stop told = λ are. scan_stopped registry s all stop.reason stop.place (asked all) (given all) (rw of (told are).0)

pub gone_at_stop : (front : Bool) (work : Work) (registry : Entries) (s : Shape) (content left : Option (List ℕ)) (stop : Stop)
    → Scans front registry work.limits s content left (Err (decode_fault.Stop stop)) → IfTold content (λ all. FrontGone all left)
gone_at_stop front work registry s None left stop told = tt
gone_at_stop true work registry s (Some all) left stop told = λ are. let g = (told are).1 in (g.0, g.2, g.3)
gone_at_stop false work registry s (Some all) left stop told = λ are. go (told are).2
  where
    go : (Stops registry work.limits s all stop.reason stop.place × GoneTo all left stop.place) ⊎ Trails registry work.limits s all left stop → FrontGone all left
    go (inl h) = (h.1.0, h.1.2, h.1.3)
    go (inr h) = (suc stop.place, omega (arith, h.after), h.gone)

pub gone_at_expectation : (front : Bool) (work : Work) (registry : Entries) (s : Shape) (content left : Option (List ℕ))
    → Scans front registry work.limits s content left (Err decode_fault.OutOfMemory) → IfTold content (λ all. FrontGone all left)
gone_at_expectation front work registry s None left told = tt
gone_at_expectation true work registry s (Some all) left told = λ _. told
gone_at_expectation false work registry s (Some all) left told = λ _. told

pub is_scanned : (work : Work) (content : Option (List ℕ)) (a : Answer) (status : ℕ) (output : List ℕ) → status ≤ 2 → PrintsWithoutPlace a status output
    → IfTold content (λ all. Answers work all status output) → IsScanned work content a
is_scanned work content a status output within prints told = record {
  below = omega (arith, within, prints.same_status);
  place = prints.no_place;
  told = go content told;
}
  where
    go : (c : Option (List ℕ)) → IfTold c (λ all. Answers work all status output) → IfTold c (λ all. Answers work all a.status a.output.items)
    go None told = tt
    go (Some all) told = λ are. rw prints.same_status (rw prints.same_output (told are))

-- such a job scans raw bytes
scan_raw : (c : Command) (raw : Bool) → (is_scan c && raw) ≡ true → (c ≡ command.Scan) × (raw ≡ true)
scan_raw command.Scan raw is = (refl, is)
scan_raw other raw is = cc

module _ (work : Work) (asked : Asked) (asks : IsAskedBy work asked) (streams : Streams work) where
  pub scanned_count : (content left : Option (List ℕ)) (n : ℕ) (a : Answer) → Scans work.options.front asked.registry work.limits (shape_of asked.format) content left (Ok n)
      → PrintsWithoutPlace a 0 (count_line n) → IsScanned work content a
  scanned_count content left n a told prints =
      let is = scan_raw work.command (is_raw (coding_of work)) streams.0 in
      is_scanned work content a 0 (count_line n) (omega arith) prints
      (counts work asked.registry (shape_of asked.format) asks.asks is.0 is.1 streams.0 work.options.front refl content left n told)

  pub scanned_refusal : {S : Type 0} (content : S → Option (List ℕ)) (has_stopped : S → Bool) (input input' : S) (fault : DecodeFault) (r : Result Answer Interruption)
      → Scans work.options.front asked.registry work.limits (shape_of asked.format) (content input) (content input') (Err fault)
      → (fault ≡ decode_fault.Read → has_stopped input' ≡ true) → RefusesScan fault r → AnswersScan content has_stopped work input input' r
  scanned_refusal content has_stopped input input' (decode_fault.Stop stop) (Ok a) told read refuses =
      let is = scan_raw work.command (is_raw (coding_of work)) streams.0 in
      is_scanned work (content input) a 2 (stop_line stop.reason stop.place) (omega arith) refuses
      (stops_at work asked.registry (shape_of asked.format) asks.asks is.0 is.1 streams.0 work.options.front refl (content input) (content input') stop told)
  scanned_refusal content has_stopped input input' (decode_fault.Stop stop) (Err e) told read refuses =
      let P : Interruption → Type 0 = λ i. AnswersScan content has_stopped work input input' (Err i) in
      subst P (sym refuses) (gone_at_stop work.options.front work asked.registry (shape_of asked.format) (content input) (content input') stop told, refl)
  scanned_refusal content has_stopped input input' decode_fault.Read (Ok a) told read refuses = absurd refuses
  scanned_refusal content has_stopped input input' decode_fault.Read (Err e) told read refuses =
      let P : Interruption → Type 0 = λ i. AnswersScan content has_stopped work input input' (Err i) in
      subst P (sym refuses) (read refl, refl)
  scanned_refusal content has_stopped input input' decode_fault.OutOfMemory (Ok a) told read refuses = absurd refuses
  scanned_refusal content has_stopped input input' decode_fault.OutOfMemory (Err e) told read refuses =
      let P : Interruption → Type 0 = λ i. AnswersScan content has_stopped work input input' (Err i) in
      subst P (sym refuses) (gone_at_expectation work.options.front work asked.registry (shape_of asked.format) (content input) (content input') told, refl)

-- ---- the run

module _ {S K : Type 0} (content : S → Option (List ℕ)) (has_stopped : S → Bool) (allowance : S → ℕ)
    (taken : K → Option (List ℕ)) (is_failed : K → Bool) (work : Work) (streams : Streams work) where
  whole : ¬ HasLines work
  whole lines = true≢false (sym lines.0 ∙ streams.1)

  pub scan_fails : (input input' : S) (out : K) (e : Interruption) → FaultOfScan content has_stopped input input' e.fault → e.answered ≡ 0
      → Ends content has_stopped allowance taken is_failed work input input' out out (Err e)
  scan_fails input input' out e of first = subst (λ (n : ℕ). FailsAt content has_stopped allowance taken is_failed work input input' out out e.fault n) (sym first) (go e.fault of)
    where
      go : (fault : RunFault) → FaultOfScan content has_stopped input input' fault → FailsAt content has_stopped allowance taken is_failed work input input' out out fault 0
      go (Take take_fault.Read) of = (streams.2, of, λ lines. absurd (whole lines), nothing_before content has_stopped allowance taken is_failed work input out)
      go (Take take_fault.TooLarge) of = absurd of
      go (Take take_fault.OutOfMemory) of = (inr (inr (streams, of)), λ lines. absurd (whole lines), nothing_before content has_stopped allowance taken is_failed work input out)
      go Write of = absurd of

  -- the answer was written, or a prefix of it
  pub put_scan : (input input' : S) (out out' : K) (answer : Answer) (result : Result Outcome Interruption) → IsScanned work (content input) answer
      → PutsAnswer taken is_failed answer out out' result → Ends content has_stopped allowance taken is_failed work input input' out out' result
  put_scan input input' out out' answer (Ok outcome) is puts = record {
    note = puts.note;
    below = omega (arith, puts.status, is.below);
    output = answer.output.items;
    put = puts.put;
    responds = inr (streams, responds (content input) is.told);
  }
    where
      responds : (c : Option (List ℕ)) → IfTold c (λ all. Answers work all answer.status answer.output.items)
          → IfTold c (λ all. Responds work all outcome.status answer.output.items outcome.place.items)
      responds None told = tt
      responds (Some all) told =
          λ are. subst (λ (status : ℕ). Responds work all status answer.output.items outcome.place.items) (sym puts.status)
          (once answer.status answer.output.items outcome.place.items whole (told are) (places.nothing (puts.place ∙ is.place)))
  put_scan input input' out out' answer (Err e) is puts =
      let P : Interruption → Type 0 = λ i. FailsAt content has_stopped allowance taken is_failed work input input' out out' i.fault i.answered in
      subst P (sym puts.0) (
        λ lines. absurd (whole lines),
        record {
          lines = [];
          statuses = [];
          before = [];
          many = refl;
          answers = none;
          status = answer.status;
          output = answer.output.items;
          next = inr (inr (streams, is.told));
          shown = puts.1.0;
          short = puts.1.1;
          put = puts.1.2;
          once = λ whole. refl;
        },
      )
