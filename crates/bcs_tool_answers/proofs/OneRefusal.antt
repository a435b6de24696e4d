-- The arguments of a job are refused for at most one reason, and then there is no other answer.
use Rattle.bcs_tool_answers.proofs.Prelude.{◌≡◌, ◌∙◌, inl, inr, ℕ, List, Option, Some, None, Result, Ok, Err, true, false, ap, refl, string_bytes, sym, subst, is_some, result_err, true≢false, Entries, container_at, growth_fault, Grows, IsFirstGrowthFault, Shape, RegistryFault, GrowthFault, fault_exactly, ok_exactly, IsLeastFault, one_fault, one_format_fault, same_format, same_registry, Step, SpellsSteps, Work, Command, IsExact, lists, IsFormatWord, IsPathOf, IsRegistry, ReadsInput, RefusesJobOf, RefusesCheck, RefusesEarly, RefusesFormatWord, RefusesFormatted, RefusesGrowth, RefusesPart, is_json_word, works_on_values, JobFault, BadPath, Registry, Growth}
use Rattle.bcs_tool_answers.proofs.NotationLemmas.{not_both_spelled}
use Rattle.bcs_tool_command_line.specs.declared.command.Command.TheVariants as command

-- ---- FORMAT

-- an argument that is JSON isn't a name
no_two_words : {A : Type 0} (word : List ℕ) → is_json_word word ≡ true → is_json_word word ≡ false → A
no_two_words word h k = absurd (true≢false (sym h ∙ k))

no_container : {A : Type 0} (registry : Entries) (word : List ℕ) → is_some (container_at word registry) ≡ true → container_at word registry ≡ None → A
no_container registry word h none = absurd (true≢false (sym h ∙ ap is_some none))

module _ (registry : Entries) (word : List ℕ) where
  pub one_format_word : (s t : Shape) → IsFormatWord registry word s → IsFormatWord registry word t → s ≡ t
  one_format_word s t (inl h) (inl k) = same_format word s t h.1 k.1
  one_format_word s t (inl h) (inr k) = no_two_words word h.0 k.0
  one_format_word s t (inr h) (inl k) = no_two_words word k.0 h.0
  one_format_word s t (inr h) (inr k) = h.2 ∙ sym k.2

  one_format_refusal : (e g : RegistryFault) → RefusesFormatWord registry word e → RefusesFormatWord registry word g → e ≡ g
  one_format_refusal e g (inl h) (inl k) = one_format_fault.0 registry word e g h.1 k.1
  one_format_refusal e g (inl h) (inr k) = no_two_words word h.0 k.0
  one_format_refusal e g (inr h) (inl k) = no_two_words word k.0 h.0
  one_format_refusal e g (inr h) (inr k) = h.2 ∙ sym k.2

  not_format : (e : RegistryFault) (s : Shape) → RefusesFormatWord registry word e → IsFormatWord registry word s → ⊥
  not_format e s (inl h) (inl k) = one_format_fault.1 registry word s e k.1 k.2 h.1
  not_format e s (inl h) (inr k) = no_two_words word h.0 k.0
  not_format e s (inr h) (inl k) = no_two_words word k.0 h.0
  not_format e s (inr h) (inr k) = no_container registry word k.1 h.1

-- ---- growth

abbrev verdict_of : Option GrowthFault → Result (Unit {0}) GrowthFault
verdict_of None = Ok tt
verdict_of (Some e) = Err e

verdict_back : (o : Option GrowthFault) → result_err (verdict_of o) ≡ o
verdict_back None = refl
verdict_back (Some e) = refl

module _ (older newer : Entries) where
  abbrev verdict : Result (Unit {0}) GrowthFault
  verdict = verdict_of (growth_fault older newer)

  one_growth_fault : (e g : GrowthFault) → IsFirstGrowthFault older newer e → IsFirstGrowthFault older newer g → e ≡ g
  one_growth_fault e g h k =
      let one = (fault_exactly older newer verdict (verdict_back (growth_fault older newer)) e).1 h in
      let other = (fault_exactly older newer verdict (verdict_back (growth_fault older newer)) g).1 k in
      let same : Err e ≡ Err g = sym one ∙ other in cc

  not_both : (e : GrowthFault) → IsFirstGrowthFault older newer e → Grows older newer → ⊥
  not_both e h k =
      let one = (fault_exactly older newer verdict (verdict_back (growth_fault older newer)) e).1 h in
      let ok = (ok_exactly older newer verdict (verdict_back (growth_fault older newer))).1 k in
      absurd cc

-- ---- the job

module _ (work : Work) where
  fault_of_text : (text : List ℕ) (registry : Entries) (e : RegistryFault) → IsRegistry text registry → IsLeastFault text e → ⊥
  fault_of_text text registry e is h = one_fault.1 text registry e is.0 is.1 h

  one_formatted : (e g : JobFault) → RefusesFormatted work e → RefusesFormatted work g → e ≡ g
  one_formatted (Registry e) (Registry g) (inl h) (inl k) = ap Registry (one_fault.0 work.registry.items e g h k)
  one_formatted (Registry e) (Registry g) (inl h) (inr (r, is, k)) = absurd (fault_of_text work.registry.items r e is h)
  one_formatted (Registry e) (Registry g) (inr (r, is, h)) (inl k) = absurd (fault_of_text work.registry.items r g is k)
  one_formatted (Registry e) (Registry g) (inr (r, is, h)) (inr (q, i, k)) =
      let same : q ≡ r = same_registry work.registry.items q r i.0 is.0 in
      ap Registry (one_format_refusal r (string_bytes work.format) e g h (subst (λ (m : Entries). RefusesFormatWord m (string_bytes work.format) g) same k))
  one_formatted (Registry e) (Growth g) h k = absurd k
  one_formatted (Growth e) (Registry g) h k = absurd h
  one_formatted (Growth e) (Growth g) h k = absurd h
  one_formatted (Registry e) BadPath h k = absurd k
  one_formatted (Growth e) BadPath h k = absurd h
  one_formatted BadPath g h k = absurd h

  one_check : (e g : JobFault) → RefusesCheck work e → RefusesCheck work g → e ≡ g
  one_check (Registry e) (Registry g) h k = ap Registry (one_fault.0 work.registry.items e g h k)
  one_check (Registry e) (Growth g) h k = absurd k
  one_check (Growth e) (Registry g) h k = absurd h
  one_check (Growth e) (Growth g) h k = absurd h
  one_check (Registry e) BadPath h k = absurd k
  one_check (Growth e) BadPath h k = absurd h
  one_check BadPath g h k = absurd h

  one_growth : (e g : JobFault) → RefusesGrowth work e → RefusesGrowth work g → e ≡ g
  one_growth (Registry e) (Registry g) (inl h) (inl k) = ap Registry (one_fault.0 work.registry.items e g h k)
  one_growth (Registry e) (Registry g) (inl h) (inr (r, is, k)) = absurd (fault_of_text work.registry.items r e is h)
  one_growth (Registry e) (Registry g) (inr (r, is, h)) (inl k) = absurd (fault_of_text work.registry.items r g is k)
  one_growth (Registry e) (Registry g) (inr (r, is, h)) (inr (q, i, k)) = ap Registry (one_fault.0 work.second.items e g h k)
  one_growth (Registry e) (Growth g) (inl h) (r, n, is, i, k) = absurd (fault_of_text work.registry.items r e is h)
  one_growth (Registry e) (Growth g) (inr (q, j, h)) (r, n, is, i, k) = absurd (fault_of_text work.second.items n e i h)
  one_growth (Growth e) (Registry g) (r, n, is, i, h) (inl k) = absurd (fault_of_text work.registry.items r g is k)
  one_growth (Growth e) (Registry g) (r, n, is, i, h) (inr (q, j, k)) = absurd (fault_of_text work.second.items n g i k)
  one_growth (Growth e) (Growth g) (r, n, is, i, h) (q, m, j, l, k) =
      let older : q ≡ r = same_registry work.registry.items q r j.0 is.0 in
      let newer : m ≡ n = same_registry work.second.items m n l.0 i.0 in
      ap Growth (one_growth_fault r n e g h (subst (λ (x : Entries). IsFirstGrowthFault r x g) newer (subst (λ (x : Entries). IsFirstGrowthFault x m g) older k)))
  one_growth (Registry e) BadPath h k = absurd k
  one_growth (Growth e) BadPath h k = absurd k
  one_growth BadPath g h k = absurd h

  pub not_formatted : (e : JobFault) (r : Entries) (s : Shape) → RefusesFormatted work e → IsRegistry work.registry.items r → IsFormatWord r (string_bytes work.format) s → ⊥
  not_formatted (Registry e) r s (inl h) is f = fault_of_text work.registry.items r e is h
  not_formatted (Registry e) r s (inr (q, i, h)) is f =
      let same : q ≡ r = same_registry work.registry.items q r i.0 is.0 in
      not_format r (string_bytes work.format) e s (subst (λ (m : Entries). RefusesFormatWord m (string_bytes work.format) e) same h) f
  not_formatted (Growth e) r s h is f = h
  not_formatted BadPath r s h is f = h

  one_part : (e g : JobFault) → RefusesPart work e → RefusesPart work g → e ≡ g
  one_part (Registry e) (Registry g) h k = one_formatted (Registry e) (Registry g) h k
  one_part (Registry e) BadPath h (r, s, is, f, never) = absurd (not_formatted (Registry e) r s h is f)
  one_part BadPath (Registry g) (r, s, is, f, never) k = absurd (not_formatted (Registry g) r s k is f)
  one_part BadPath BadPath h k = refl
  one_part (Registry e) (Growth g) h k = absurd k
  one_part BadPath (Growth g) h k = absurd k
  one_part (Growth e) g h k = absurd h

  pub not_parted : (e : JobFault) (r : Entries) (s : Shape) (path : List Step) → RefusesPart work e → IsRegistry work.registry.items r
      → IsFormatWord r (string_bytes work.format) s → SpellsSteps work.options.notation (string_bytes work.path) path → ⊥
  not_parted (Registry e) r s path h is f spells = not_formatted (Registry e) r s h is f
  not_parted BadPath r s path (q, g, i, j, never) is f spells = not_both_spelled work.options.notation (string_bytes work.path) path spells never
  not_parted (Growth e) r s path h is f spells = h

  pub not_checked : (e : JobFault) (r : Entries) → RefusesCheck work e → IsRegistry work.registry.items r → ⊥
  not_checked (Registry e) r h is = fault_of_text work.registry.items r e is h
  not_checked (Growth e) r h is = h
  not_checked BadPath r h is = h

  pub not_grown : (e : JobFault) (r n : Entries) → RefusesGrowth work e → IsRegistry work.registry.items r → IsRegistry work.second.items n → Grows r n → ⊥
  not_grown (Registry e) r n (inl h) is i g = fault_of_text work.registry.items r e is h
  not_grown (Registry e) r n (inr (q, j, h)) is i g = fault_of_text work.second.items n e i h
  not_grown (Growth e) r n (q, m, j, l, h) is i g =
      let older : q ≡ r = same_registry work.registry.items q r j.0 is.0 in
      let newer : m ≡ n = same_registry work.second.items m n l.0 i.0 in
      not_both r n e (subst (λ (x : Entries). IsFirstGrowthFault r x e) newer (subst (λ (x : Entries). IsFirstGrowthFault x m e) older h)) g
  not_grown BadPath r n h is i g = h

pub one_refusal : (c : Command) (work : Work) (e g : JobFault) → IsExact c work.options.notation work.options.list → RefusesJobOf c work e → RefusesJobOf c work g → e ≡ g
one_refusal command.Check work e g exact h k = one_check work e g h k
one_refusal command.Grows work e g exact h k = one_growth work e g h k
one_refusal command.Encode work e g exact h k = one_formatted work e g h k
one_refusal command.Decode work e g exact h k = one_formatted work e g h k
one_refusal command.Normalise work e g exact h k = one_formatted work e g h k
one_refusal command.Same work e g exact h k = one_formatted work e g h k
one_refusal command.Part work e g exact h k = one_part work e g h k
one_refusal command.Scan work e g exact h k = one_formatted work e g h k
one_refusal other work e g exact h k = absurd exact

-- no list comes before a refusal if the output is exact
pub unlisted : (c : Command) (work : Work) (e : JobFault) → IsExact c work.options.notation work.options.list → RefusesJobOf c work e → lists work e ≡ false
unlisted c work (Registry e) exact h = refl
unlisted c work BadPath exact h = refl
unlisted command.Grows work (Growth e) exact h = exact
unlisted command.Check work (Growth e) exact h = absurd h
unlisted command.Encode work (Growth e) exact h = absurd h
unlisted command.Decode work (Growth e) exact h = absurd h
unlisted command.Normalise work (Growth e) exact h = absurd h
unlisted command.Same work (Growth e) exact h = absurd h
unlisted command.Part work (Growth e) exact h = absurd h
unlisted command.Scan work (Growth e) exact h = absurd h
unlisted other work (Growth e) exact h = absurd exact

-- ---- the input

-- a command that reads an input works on values
module _ (work : Work) where
  pub reads_nothing : (c : Command) → work.command ≡ c → works_on_values c ≡ false → ReadsInput work → ⊥
  reads_nothing c is none reads = true≢false (sym (subst (λ (k : Command). works_on_values k ≡ true) is reads.2.command) ∙ none)

  not_valued : (fault : JobFault) → RefusesFormatted work fault → ReadsInput work → ⊥
  not_valued fault h (r, s, asks) = not_formatted work fault r s h asks.is_registry asks.is_format

  -- a job that is refused for its arguments reads no input
  refused_reads_nothing : (c : Command) (fault : JobFault) → work.command ≡ c → RefusesJobOf c work fault → ReadsInput work → ⊥
  refused_reads_nothing command.Encode fault is h reads = not_valued fault h reads
  refused_reads_nothing command.Decode fault is h reads = not_valued fault h reads
  refused_reads_nothing command.Explain fault is h reads = not_valued fault h reads
  refused_reads_nothing command.Normalise fault is h reads = not_valued fault h reads
  refused_reads_nothing command.Same fault is h reads = not_valued fault h reads
  refused_reads_nothing command.Diff fault is h reads = not_valued fault h reads
  refused_reads_nothing command.Scan fault is h reads = not_valued fault h reads
  refused_reads_nothing command.Which fault is h reads = not_valued fault h reads
  refused_reads_nothing command.Part fault is h (r, s, asks) =
      let has = asks.has_path in
      not_parted work fault r s has.0 h asks.is_registry asks.is_format (subst (λ (k : Command). IsPathOf k work.options.notation (string_bytes work.path) has.0) is has.1)
  refused_reads_nothing other fault is h reads = reads_nothing other is refl reads

  pub refusal_reads_nothing : (fault : JobFault) → RefusesEarly work fault → ReadsInput work → ⊥
  refusal_reads_nothing fault h reads = refused_reads_nothing work.command fault refl h reads
