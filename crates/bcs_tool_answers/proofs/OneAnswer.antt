-- A job has at most one answer to an input.
use Rattle.bcs_tool_answers.proofs.Prelude.{◌≡◌, ◌∙◌, ◌⊎◌, ◌++◌, inl, inr, ℕ, List, codes, length, string_bytes, ap, refl, sym, subst, Entries, Grows, IsOrderly, Shape, Step, same_registry, SpellsPath, SpellsSteps, one_path, coding_of, Notation, Work, Command, Check, Encode, Decode, Normalise, IsExact, OneAnswer, json_fault_name, Answers, AnswersTexts, IsAsked, Lists, count_line, line_of, lists, printed, printed_none, printed_part, printed_place, refusal_line, stop_line, IsFormatWord, IsPathOf, IsRegistry, RefusesJobOf, RefusesFormatted, job_fault_name, JobFault}
use Rattle.bcs_move_types.specs.FaultNames.{move_refusal_name}
use Rattle.bcs_tool_command_line.specs.declared.command.Command.TheVariants as command
use Rattle.bcs_tool_answers.specs.Answers as answer
use Rattle.bcs_tool_answers.specs.Input as given
use Rattle.bcs_tool_answers.proofs.OneKind.{Decoded, Encoded, Normalised, Parted, Scanned, one_decoded, one_encoded, one_normalised, one_parted, one_scanned}
use Rattle.bcs_tool_answers.proofs.OnePair.{Agrees, one_pair}
use Rattle.bcs_tool_answers.proofs.OneRefusal.{not_checked, not_formatted, not_grown, not_parted, one_format_word, one_refusal, unlisted}

module _ (work : Work) (input : List ℕ) where
  -- ---- the answers of each command

  abbrev Compared : Entries → Shape → ℕ → List ℕ → Type 0
  Compared r f s p = AnswersTexts r work.limits f work.second.items input s p

  abbrev Valued : (Entries → Shape → ℕ → List ℕ → Type 0) → ℕ → List ℕ → Type 0
  Valued P s p = (r : Entries) × (f : Shape) × IsRegistry work.registry.items r × IsFormatWord r (string_bytes work.format) f × P r f s p

  abbrev Late : Command → ℕ → List ℕ → Type 0
  Late Check s p = (r : Entries) × IsRegistry work.registry.items r × (s ≡ 0) × (p ≡ count_line (length r))
  Late command.Grows s p = (r : Entries) × (n : Entries) × IsRegistry work.registry.items r × IsRegistry work.second.items n × Grows r n
      × (list : List ℕ) × Lists work.options.list list × (s ≡ 0) × (p ≡ list ++ line_of (codes "grows"))
  Late Encode s p = Valued (Encoded work input) s p
  Late Decode s p = Valued (Decoded work input) s p
  Late Normalise s p = Valued (Normalised work input) s p
  Late command.Same s p = Valued Compared s p
  Late command.Scan s p = Valued (Scanned work input) s p
  Late command.Part s p = (path : List Step) × SpellsSteps work.options.notation (string_bytes work.path) path × Valued (λ r f. Parted work input r f path) s p
  Late other s p = Unit {0}

  abbrev Early : Command → ℕ → List ℕ → Type 0
  Early c s p = (fault : JobFault) × (list : List ℕ) × RefusesJobOf c work fault × Lists (lists work fault) list × (s ≡ 2) × (p ≡ list ++ refusal_line (job_fault_name fault))

  valued : (P : Entries → Shape → ℕ → List ℕ → Type 0) (c : Command) (r : Entries) (f : Shape) (s : ℕ) (p : List ℕ) → IsAsked work input c r f → P r f s p → Valued P s p
  valued P c r f s p asked is = (r, f, asked.asks.is_registry, asked.asks.is_format, is)

  -- `part`, if its PATH gives these steps
  parted : (r : Entries) (f : Shape) (path : List Step) (s : ℕ) (p : List ℕ) → IsAsked work input command.Part r f
      → SpellsSteps work.options.notation (string_bytes work.path) path → Parted work input r f path s p → Late command.Part s p
  parted r f path s p asked spells is = (path, spells, valued (λ r f. Parted work input r f path) command.Part r f s p asked is)

  -- its PATH gives steps, since it is not refused
  spelled : (c : Command) (r : Entries) (f : Shape) → c ≡ command.Part → IsAsked work input c r f → (path : List Step) × SpellsSteps work.options.notation (string_bytes work.path) path
  spelled c r f is asked =
      let has = asked.asks.has_path in
      (has.0, subst (λ (k : Command). IsPathOf k work.options.notation (string_bytes work.path) has.0) (asked.is_command ∙ is) has.1)

  by : (c : Command) (s : ℕ) (p : List ℕ) → work.command ≡ c → Late c s p → Early work.command s p ⊎ Late work.command s p
  by c s p is late = inr (subst (λ k. Late k s p) (sym is) late)

  told : {s : ℕ} {p : List ℕ} → Answers work input s p → Early work.command s p ⊎ Late work.command s p
  told (answer.refused_early fault l h a) = inl (fault, l, h, a, refl, refl)
  told (answer.checked r c h) = by Check 0 (count_line (length r)) c (r, h, refl, refl)
  told (answer.grown r n l c h k g a) = by command.Grows 0 (l ++ line_of (codes "grows")) c (r, n, h, k, g, l, a, refl, refl)
  told (answer.shown r t c h k) = by command.Show 0 t c tt
  told (answer.exampled r f z t a h) = by command.Example z t a.is_command tt
  told (answer.described r f t a) = by command.Schema 0 t a.is_command tt
  told (answer.made r t is a) = by command.FromMove 0 (line_of t) is tt
  told (answer.unmade n is) = by command.FromMove 2 (refusal_line (move_refusal_name n)) is tt
  told (answer.encoded r f b a h) = by Encode 0 (printed (coding_of work) b) a.is_command (valued (Encoded work input) Encode r f 0 (printed (coding_of work) b) a (inl (b, h, refl, refl)))
  told (answer.normalised r f t a h) = by Normalise 0 (line_of t) a.is_command (valued (Normalised work input) Normalise r f 0 (line_of t) a (inl (t, h, refl, refl)))
  told (answer.refused c r f e (inl is) a h) = by Encode 2 (refusal_line (json_fault_name e)) (a.is_command ∙ is) (valued (Encoded work input) c r f 2 (refusal_line (json_fault_name e)) a (inr (e, h, refl, refl)))
  told (answer.refused c r f e (inr is) a h) = by Normalise 2 (refusal_line (json_fault_name e)) (a.is_command ∙ is) (valued (Normalised work input) c r f 2 (refusal_line (json_fault_name e)) a (inr (e, h, refl, refl)))
  told (answer.compared r f z o a h) = by command.Same z o a.is_command (valued Compared command.Same r f z o a h)
  told (answer.differed r f z o a h) = by command.Diff z o a.is_command tt
  told (answer.decoded r f b t a g h) = by Decode 0 (line_of t) a.is_command (valued (Decoded work input) Decode r f 0 (line_of t) a (inl (b, g, inl (t, h, refl, refl))))
  told (answer.stopped r f b e o a g h) = by Decode 2 (stop_line e o) a.is_command (valued (Decoded work input) Decode r f 2 (stop_line e o) a (inl (b, g, inr (inl (e, o, h, refl, refl)))))
  told (answer.too_nested r f b c a g h n) = by Decode 2 (refusal_line (codes "TooNested")) a.is_command (valued (Decoded work input) Decode r f 2 (refusal_line (codes "TooNested")) a (inl (b, g, inr (inr (c, h, n, refl, refl)))))
  told (answer.explained r f b t c a g h) = by command.Explain 0 t a.is_command tt
  told (answer.damaged r f b t e o a g h is) = by command.Explain 2 t a.is_command tt
  told (answer.no_bytes c r f (inl is) a h) = by Decode 2 (refusal_line (given.input_fault_name (coding_of work))) (a.is_command ∙ is) (valued (Decoded work input) c r f 2 (refusal_line (given.input_fault_name (coding_of work))) a (inr (h, refl, refl)))
  told (answer.no_bytes c r f (inr (inr (inl is))) a h) = by command.Explain 2 (refusal_line (given.input_fault_name (coding_of work))) (a.is_command ∙ is) tt
  told (answer.no_bytes c r f (inr (inr (inr (inr is)))) a h) = by command.Which 2 (refusal_line (given.input_fault_name (coding_of work))) (a.is_command ∙ is) tt
  told (answer.no_bytes c r f (inr (inr (inr (inl is)))) a h) =
      by command.Scan 2 (refusal_line (given.input_fault_name (coding_of work))) (a.is_command ∙ is) (valued (Scanned work input) c r f 2 (refusal_line (given.input_fault_name (coding_of work))) a (inr (h, refl, refl)))
  told (answer.no_bytes c r f (inr (inl is)) a h) =
      let path = spelled c r f is a in
      let own = subst (λ (k : Command). IsAsked work input k r f) is a in
      by command.Part 2 (refusal_line (given.input_fault_name (coding_of work))) own.is_command (parted r f path.0 2 (refusal_line (given.input_fault_name (coding_of work))) own path.1 (inr (h, refl, refl)))
  told (answer.sifted r f b z t a g h) = by command.Which z t a.is_command tt
  told (answer.unopened r f b t a g looks) = by command.Explain 2 t a.is_command tt
  told (answer.found r f path b n c x w a spells g h at has) =
      let own = printed_part work.options.range (coding_of work) (printed_place work.options.content x) w in
      by command.Part 0 own a.is_command
      (parted r f path 0 own a spells (inl (b, g, inl (n, c, h, inl (x, at, inl (w, has, refl, refl))))))
  told (answer.no_content r f path b n c x a spells g h at has) =
      by command.Part 2 (refusal_line (codes "NoContent")) a.is_command
      (parted r f path 2 (refusal_line (codes "NoContent")) a spells (inl (b, g, inl (n, c, h, inl (x, at, inr (has, refl, refl))))))
  told (answer.nowhere r f path b n c a spells g h at) =
      by command.Part 1 (printed_none (coding_of work)) a.is_command
      (parted r f path 1 (printed_none (coding_of work)) a spells (inl (b, g, inl (n, c, h, inr (at, refl, refl)))))
  told (answer.front_stopped r f b e o a g h) =
      let path = spelled command.Part r f refl a in
      by command.Part 2 (stop_line e o) a.is_command (parted r f path.0 2 (stop_line e o) a path.1 (inl (b, g, inr (e, o, h, refl, refl))))
  told (answer.scanned r f b n c a g h w) =
      by command.Scan 0 (count_line n) a.is_command (valued (Scanned work input) command.Scan r f 0 (count_line n) a (inl (b, g, inl (n, c, (h, w), refl, refl))))
  told (answer.scan_stopped r f b e o a g h) =
      by command.Scan 2 (stop_line e o) a.is_command (valued (Scanned work input) command.Scan r f 2 (stop_line e o) a (inl (b, g, inr (e, o, h, refl, refl))))

  -- ---- one answer for each command

  abbrev IsOne : (ℕ → List ℕ → Type 0) → Type 0
  IsOne P = (s z : ℕ) (p q : List ℕ) → P s p → P z q → Agrees s p z q

  one_valued : (P : Entries → Shape → ℕ → List ℕ → Type 0) → ((r : Entries) (f : Shape) → IsOrderly r → IsOne (P r f)) → IsOne (Valued P)
  one_valued P one s z p q (r, f, h, a, x) (n, g, k, b, y) =
      let same : n ≡ r = same_registry work.registry.items n r k.0 h.0 in
      let format : g ≡ f = one_format_word r (string_bytes work.format) g f (subst (λ (m : Entries). IsFormatWord m (string_bytes work.format) g) same b) a in
      one r f h.0.2.orderly s z p q x (subst (λ (i : Shape). P r i z q) format (subst (λ (m : Entries). P m g z q) same y))

  one_late : (c : Command) → IsExact c work.options.notation work.options.list → IsOne (Late c)
  one_late Check exact s z p q (r, h, hs, hp) (n, k, ks, kq) =
      (hs ∙ sym ks, hp ∙ ap (λ (m : Entries). count_line (length m)) (same_registry work.registry.items r n h.0 k.0) ∙ sym kq)
  one_late command.Grows exact s z p q (r, n, h, g, w, l, a, hs, hp) (r2, n2, k, i, x, m, b, ks, kq) =
      (hs ∙ sym ks, hp ∙ ap (λ (list : List ℕ). list ++ line_of (codes "grows")) (a exact ∙ sym (b exact)) ∙ sym kq)
  one_late Encode exact s z p q h k = one_valued (Encoded work input) (one_encoded work input) s z p q h k
  one_late Decode exact s z p q h k = one_valued (Decoded work input) (one_decoded work input) s z p q h k
  one_late Normalise exact s z p q h k = one_valued (Normalised work input) (one_normalised work input) s z p q h k
  one_late command.Same exact s z p q h k = one_valued Compared (λ r f. one_pair r work.limits f work.second.items input) s z p q h k
  one_late command.Part exact s z p q (path, spells, h) (other, also, k) =
      let by_path : (steps : List Step) → SpellsSteps work.options.notation (string_bytes work.path) steps → SpellsPath (string_bytes work.path) steps =
      λ steps is. subst (λ (n : Notation). SpellsSteps n (string_bytes work.path) steps) exact is in
      let same : other ≡ path = one_path (string_bytes work.path) other path (by_path other also) (by_path path spells) in
      one_valued (λ r f. Parted work input r f path) (λ r f orderly. one_parted work input r f orderly path) s z p q h
      (subst (λ (t : List Step). Valued (λ r f. Parted work input r f t) z q) same k)
  one_late command.Scan exact s z p q h k = one_valued (Scanned work input) (one_scanned work input) s z p q h k
  one_late other exact s z p q h k = absurd exact

  -- a job refused for its arguments has no other answer
  of_valued : (P : Entries → Shape → ℕ → List ℕ → Type 0) (fault : JobFault) (s : ℕ) (p : List ℕ) → RefusesFormatted work fault → Valued P s p → ⊥
  of_valued P fault s p h (r, f, is, a, x) = not_formatted work fault r f h is a

  not_late : (c : Command) (fault : JobFault) (s : ℕ) (p : List ℕ) → IsExact c work.options.notation work.options.list → RefusesJobOf c work fault → Late c s p → ⊥
  not_late Check fault s p exact h (r, is, ks, kq) = not_checked work fault r h is
  not_late command.Grows fault s p exact h (r, n, is, i, g, l, a, ks, kq) = not_grown work fault r n h is i g
  not_late Encode fault s p exact h k = of_valued (Encoded work input) fault s p h k
  not_late Decode fault s p exact h k = of_valued (Decoded work input) fault s p h k
  not_late Normalise fault s p exact h k = of_valued (Normalised work input) fault s p h k
  not_late command.Same fault s p exact h k = of_valued Compared fault s p h k
  not_late command.Scan fault s p exact h k = of_valued (Scanned work input) fault s p h k
  not_late command.Part fault s p exact h (path, spells, (r, f, is, a, x)) = not_parted work fault r f path h is a spells
  not_late other fault s p exact h k = absurd exact

  one_of_both : (c : Command) (s z : ℕ) (p q : List ℕ) → IsExact c work.options.notation work.options.list → Early c s p ⊎ Late c s p → Early c z q ⊎ Late c z q → Agrees s p z q
  one_of_both c s z p q exact (inl (e, l, h, a, hs, hp)) (inl (g, m, k, b, ks, kq)) =
      let none = a (unlisted c work e exact h) ∙ sym (b (unlisted c work g exact k)) in (
        hs ∙ sym ks,
        hp ∙ ap (λ (x : JobFault). l ++ refusal_line (job_fault_name x)) (one_refusal c work e g exact h k) ∙ ap (λ (text : List ℕ). text ++ refusal_line (job_fault_name g)) none ∙ sym kq,
      )
  one_of_both c s z p q exact (inl (e, l, h, a, hs, hp)) (inr k) = absurd (not_late c e z q exact h k)
  one_of_both c s z p q exact (inr h) (inl (g, m, k, b, ks, kq)) = absurd (not_late c g s p exact k h)
  one_of_both c s z p q exact (inr h) (inr k) = one_late c exact s z p q h k

pub one_answer : OneAnswer
one_answer work input s z p q exact h k = one_of_both work input work.command s z p q exact (told work input h) (told work input k)
