-- The outcome of a run, from the results of its steps.
use Rattle.bcs_tool.proofs.Prelude.{run_below, tally_status, ◌≡◌, ◌≤◌, ◌+◌, ◌++◌, ◌∙◌, ℕ, Bool, false, List, [], Option, Some, None, Result, Ok, Err, ap, append-nil, arith, inl, inr, length, refl, subst, sym, true≢false, IsErrAnd, Consumes, IsAtEnd, lines_of, ReadsInput, none, summary, tally_text, IsAnswer, Places, IsAskedBy, Answer, Asked, status_below, greatest_below, ReportsPlace, IsContent, size_limit, TakeFault, Outcome, Work, AllAnswered, IsTally, AreFirst, Ends, FailsAt, HasLines, IsAnswered, IsUnhurt, PutBefore, PutsAnswer, ReadsNoFurther, Responds, by_line, once, Interruption, Take, Tally, ◌==◌, if◌then◌else◌, true, run_status}
use Rattle.bcs_io.specs.Giving as source
use Rattle.bcs_io.proofs.GivingLemmas as giving
use Rattle.bcs_io.proofs.TakingLemmas as taking
use Rattle.bcs_io.specs.declared.taking.TakeFault.TheVariants as take_fault

-- some bytes may be the content
pub some_content : (content : Option (List ℕ)) → (bytes : List ℕ) × IsContent content bytes
some_content None = ([], tt)
some_content (Some bytes) = (bytes, refl)

-- bytes that were read up to the end are the content
pub whole_content : (old left : Option (List ℕ)) (bytes : List ℕ) → Consumes old left bytes → IsAtEnd left → IsContent old bytes
whole_content None left bytes taken end = tt
whole_content (Some xs) None bytes taken end = absurd taken
whole_content (Some xs) (Some ys) bytes taken end = sym (taken ∙ (ap (λ t. bytes ++ t) end ∙ append-nil bytes))

-- a job without `--lines` has no lines, and neither does one that reads no input
pub no_lines : (work : Work) → work.options.lines ≡ false → ¬ HasLines work
no_lines work whole lines = true≢false (sym lines.0 ∙ whole)

pub no_input_no_lines : (work : Work) → ¬ ReadsInput work → ¬ HasLines work
no_input_no_lines work refused lines = refused lines.1

pub reads_input : (work : Work) (asked : Asked) → IsAskedBy work asked → ReadsInput work
reads_input work asked is = (_, _, is.asks)

-- a fault that a `?` returns
pub handed_on : {A E : Type 0} (P : Result A E → Type 0) (r : Result A E) (e : E) → IsErrAnd r (λ x. x ≡ e) → P (Err e) → P r
handed_on P (Ok a) e h p = absurd h
handed_on P (Err x) e h p = subst (λ y. P (Err y)) (sym h) p

pub none_first : (content : Option (List ℕ)) → AreFirst content []
none_first None = tt
none_first (Some all) = (lines_of all, refl)

-- the text of a tally is the summary of its statuses
pub told_counts : (tally : Tally) (statuses : List ℕ) → IsTally tally statuses → tally_text tally.done tally.negative tally.refused ≡ summary statuses
told_counts tally statuses counted = rw counted.done (rw counted.negative (rw counted.refused refl))

-- the status of a run, from the counts
pub told_status : (json : Bool) (tally : Tally) (statuses : List ℕ) → IsTally tally statuses → tally_status json tally ≡ run_status json statuses
told_status false tally statuses counted = counted.status
told_status true tally statuses counted = ap (λ (n : ℕ). if n == 0 then 0 else 1) counted.negative

module _ {S K : Type 0} (content : S → Option (List ℕ)) (has_stopped : S → Bool) (allowance : S → ℕ)
    (taken : K → Option (List ℕ)) (is_failed : K → Bool) (work : Work) where
  -- nothing was written
  pub nothing_before : (input : S) (out : K) → PutBefore content has_stopped allowance taken is_failed work input out out 0
  nothing_before input out = record {
    lines = [];
    statuses = [];
    output = [];
    many = refl;
    first = none_first (content input);
    answers = none;
    put = taking.Took-nothing taken is_failed out;
    once = λ whole. (refl, refl);
  }

  -- the input wasn't read
  pub unread : (input : S) → ReadsNoFurther content has_stopped allowance taken is_failed work input input 0
  unread input lines = ([], giving.Gave-nothing content has_stopped allowance input, omega arith)

  -- memory ran out before the input was read, or after all of it
  pub no_memory : (input input' : S) (out : K) → IsUnhurt content has_stopped allowance taken is_failed work input input'
      → ReadsNoFurther content has_stopped allowance taken is_failed work input input' 0
      → Ends content has_stopped allowance taken is_failed work input input' out out (Err (record { fault = Take take_fault.OutOfMemory; answered = 0 }))
  no_memory input input' out unhurt no_further = (unhurt, no_further, nothing_before input out)

  pub unhurt_whole : (input input' : S) (bytes : List ℕ) → source.Gave content has_stopped allowance input input' bytes → length bytes ≤ size_limit → has_stopped input' ≡ false
      → IsUnhurt content has_stopped allowance taken is_failed work input input'
  unhurt_whole input input' bytes took within works = inr (inl (bytes, took, λ whole. (within, works)))

  -- the input couldn't be read
  pub not_taken : (input input' : S) (out : K) (fault : TakeFault) → ReadsInput work → ¬ HasLines work
      → (fault ≡ take_fault.Read → (bytes : List ℕ) × source.GaveThenFailed content has_stopped allowance input input' bytes × (length bytes ≤ size_limit))
      → (fault ≡ take_fault.TooLarge → (bytes : List ℕ) × source.Gave content has_stopped allowance input input' bytes × (length bytes ≡ size_limit + 1))
      → (fault ≡ take_fault.OutOfMemory → (bytes : List ℕ) × source.Gave content has_stopped allowance input input' bytes × (length bytes ≤ size_limit) × (has_stopped input' ≡ false))
      → Ends content has_stopped allowance taken is_failed work input input' out out (Err (record { fault = Take fault; answered = 0 }))
  not_taken input input' out take_fault.Read reads whole read large memory = (reads, (read refl).1.after, λ lines. absurd (whole lines), nothing_before input out)
  not_taken input input' out take_fault.TooLarge reads whole read large memory =
      let l = large refl in
      (reads, inl (whole, (l.0, l.2, l.1)), λ lines. absurd (whole lines), nothing_before input out)
  not_taken input input' out take_fault.OutOfMemory reads whole read large memory =
      let m = memory refl in no_memory input input' out (unhurt_whole input input' m.0 m.1 m.2 m.3) (λ lines. absurd (whole lines))

  -- one answer was written, or a prefix of it
  pub put_once : (input input' : S) (out out' : K) (answer : Answer) (bytes : List ℕ) (result : Result Outcome Interruption) → ¬ HasLines work
      → IsContent (content input) bytes → IsAnswer work bytes answer → PutsAnswer taken is_failed answer out out' result
      → Ends content has_stopped allowance taken is_failed work input input' out out' result
  put_once input input' out out' answer bytes (Ok outcome) whole known is puts =
      let P : ℕ → Type 0 = λ status. Responds work bytes status answer.output.items outcome.place.items in
      record {
        note = puts.note;
        below = omega (arith, puts.status, status_below work bytes answer.status answer.output.items is.0);
        output = answer.output.items;
        put = puts.put;
        responds = inl (
          bytes,
          known,
          subst P (sym puts.status)
              (once answer.status answer.output.items outcome.place.items whole is.0 (subst (λ (place : List ℕ). Places work bytes place) (sym puts.place) is.1)),
        );
      }
  put_once input input' out out' answer bytes (Err e) whole known is puts =
      let P : Interruption → Type 0 = λ i. FailsAt content has_stopped allowance taken is_failed work input input' out out' i.fault i.answered in
      subst P (sym puts.0) (
        λ lines. absurd (whole lines),
        record {
          lines = [];
          statuses = [];
          before = [];
          many = refl;
          answers = none;
          status = answer.status;
          output = answer.output.items;
          next = inr (inl (whole, (bytes, known, is.0)));
          shown = puts.1.0;
          short = puts.1.1;
          put = puts.1.2;
          once = λ whole. refl;
        },
      )

  -- all lines were answered, and the number of lines by status is reported
  pub tallied : (input : S) (out out' : K) (tally : Tally) (outcome : Outcome) → HasLines work → AllAnswered content has_stopped allowance taken is_failed work input out out' tally
      → outcome.status ≡ tally_status work.options.json_refusals tally → outcome.note.now ≡ [] → ReportsPlace work.options.quiet (tally_text tally.done tally.negative tally.refused) outcome.place.items
      → IsAnswered content has_stopped allowance taken is_failed work input out out' outcome
  tallied input out out' tally outcome lines all status note reports =
      let counted = all.counted in
      let same = status ∙ told_status work.options.json_refusals tally all.statuses counted in
      let text : tally_text tally.done tally.negative tally.refused ≡ summary all.statuses = told_counts tally all.statuses counted in
      let P : ℕ → Type 0 = λ status. Responds work all.bytes status all.output outcome.place.items in
      record {
        note = note;
        below = omega (arith, same, run_below work.options.json_refusals all.statuses (greatest_below work (lines_of all.bytes) all.statuses all.output all.answers));
        output = all.output;
        put = all.put;
        responds = inl (
          all.bytes,
          all.known,
          subst P (sym same) (by_line all.statuses all.output outcome.place.items lines all.answers
              (subst (λ (t : List ℕ). ReportsPlace work.options.quiet t outcome.place.items) text reports)),
        );
      }
