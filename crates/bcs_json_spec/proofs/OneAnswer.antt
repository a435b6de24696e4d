-- Every text either denotes a value or is refused, for exactly one reason.
use Rattle.bcs_json_spec.proofs.Prelude.{◌≡◌, ◌∙◌, ◌⊎◌, inl, inr, ℕ, ◌≤◌, ◌<◌, List, Option, Some, None, Bool, true, false, refl, sym, subst, arith, is_utf8, cases_Bool, cases_lt, false≢true, none-some, IsUtf8-from_is_utf8, is_utf8-from_IsUtf8, Data, depth, read, Entries, IsOrderly, Shape, IsJson, IsNotJson, Fits, Bounds, distinct, Tree, length_limit, lengths_hold, of, TextDenotesOrIsRefused, Refuses, SpellsWithin, nesting_limit, IsReadAs, Denotes, SpelledBy, Misspells, RefusesText, JsonFault, NotJson, TooNested, TooManyNodes, TooLong, RepeatedKey, OutOfMemory}
use Rattle.bcs_registry_model.specs.Container as container
use Rattle.bcs_value_model.specs.Tree as tree
use Rattle.bcs_encode_spec.specs.Refused as encode
use Rattle.bcs_encode_spec.specs.declared.fault.EncodeFault.TheVariants as encode_fault
use Rattle.bcs_json_spec.proofs.Fitting.{spelled_fits}
use Rattle.bcs_json_spec.proofs.TextLaws.{same_read}
use Rattle.bcs_json_spec.proofs.Exact.{is_walk_fault}
use Rattle.bcs_json_spec.proofs.Verdict.{one_tree, one_verdict, walk_fault}

module _ (registry : Entries) (limits : Bounds) (s : Shape) (text : List ℕ) where
  abbrev Answer : Type 0
  Answer = ((t : Tree) × Denotes registry limits s text t) ⊎ ((e : JsonFault) × RefusesText registry limits s text e)

  -- ---- an answer exists

  pub misspelled : (e : JsonFault) → is_walk_fault e ≡ true → Misspells registry limits s text e → RefusesText registry limits s text e
  misspelled NotJson is h = absurd (false≢true is)
  misspelled TooNested is h = absurd (false≢true is)
  misspelled TooManyNodes is h = absurd (false≢true is)
  misspelled TooLong is h = absurd (false≢true is)
  misspelled RepeatedKey is h = absurd (false≢true is)
  misspelled OutOfMemory is h = absurd (false≢true is)
  misspelled _ is h = h

  -- what is spelled fits and isn't too deep, so three checks are left
  spelled : IsOrderly registry → (d : Data) → IsReadAs text d → (t : Tree) → SpellsWithin registry limits.depth (of s) d t → Answer
  spelled orderly d is t w =
      let fit : Fits registry s t = spelled_fits registry s d t orderly w.0 in
      let by : SpelledBy registry limits s text t = record { read = d; is = is; spells = w } in
      elim (cases_lt limits.nodes (tree.nodes t)) [
        | inl many ↦ inr (TooManyNodes, (t, by, (fit, w.1, many)))
        | inr few ↦ elim (cases_Bool (lengths_hold length_limit registry t (container.of s))) [
          | inr long ↦ inr (TooLong, (t, by, (fit, w.1, few, λ h. false≢true (sym long ∙ h))))
          | inl short ↦ elim (cases_Bool (distinct t)) [
            | inr repeated ↦ inr (RepeatedKey, (t, by, (record { fit = fit; depth_holds = w.1; nodes_hold = few; lengths = short }, λ h. false≢true (sym repeated ∙ h))))
            | inl differ ↦ inl (t, record { read = d; is = is; spells = w.0; sound = record { fit = fit; distinct = differ; depth_holds = w.1; nodes_hold = few; lengths = short } })
          ]
        ]
      ]

  read_as : IsOrderly registry → (d : Data) → IsJson text d → Answer
  read_as orderly d is = elim (cases_lt nesting_limit (depth d)) [
    | inl nested ↦ inr (TooNested, (d, is, nested))
    | inr within ↦ elim (one_verdict registry limits.depth (of s) d).some [
      | inl w ↦ spelled orderly d (is, within) w.0 w.1
      | inr h ↦ inr (h.0, misspelled h.0 (walk_fault registry limits.depth (of s) d h.0 h.1) (d, (is, within), h.1))
    ]
  ]

  some_answer : IsOrderly registry → (b : Bool) → is_utf8 text ≡ b → (o : Option Data) → read text ≡ o → Answer
  some_answer orderly false broken o is = inr (NotJson, λ d h. false≢true (sym broken ∙ is_utf8-from_IsUtf8 text h.0))
  some_answer orderly true utf8 None is = inr (NotJson, λ d h. none-some d (sym is ∙ h.1))
  some_answer orderly true utf8 (Some d) is = read_as orderly d (IsUtf8-from_is_utf8 text utf8, is)

  -- ---- at most one reason

  -- the value has too many nodes, or a length that is too long, or a repeated key
  abbrev Unsound : Tree → JsonFault → Type 0
  Unsound t e =
      (encode.RefusesValue registry limits s t encode_fault.TooManyNodes × (e ≡ TooManyNodes))
      ⊎ ((encode.RefusesValue registry limits s t encode_fault.TooLong × (e ≡ TooLong)) ⊎ (encode.RefusesValue registry limits s t encode_fault.RepeatedKey × (e ≡ RepeatedKey)))

  -- the JSON spells no value, or one that isn't sound
  abbrev Validated : Data → JsonFault → Type 0
  Validated d e = Refuses registry limits.depth (of s) d e ⊎ ((t : Tree) × SpellsWithin registry limits.depth (of s) d t × Unsound t e)

  -- it nests too deep, or is validated
  abbrev Looked : Data → JsonFault → Type 0
  Looked d e = ((nesting_limit < depth d) × (e ≡ TooNested)) ⊎ ((depth d ≤ nesting_limit) × Validated d e)

  -- the text isn't JSON, or what is read is checked further
  abbrev Reads : JsonFault → Type 0
  Reads e = (IsNotJson text × (e ≡ NotJson)) ⊎ ((d : Data) × IsJson text d × Looked d e)

  spells_none : (e : JsonFault) → Misspells registry limits s text e → Reads e
  spells_none e h = inr (h.0, h.1.0, inr (h.1.1, inl h.2))

  spells_unsound : (e : JsonFault) (t : Tree) → SpelledBy registry limits s text t → Unsound t e → Reads e
  spells_unsound e t w h = inr (w.read, w.is.0, inr (w.is.1, inr (t, w.spells, h)))

  reads : (e : JsonFault) → RefusesText registry limits s text e → Reads e
  reads NotJson h = inl (h, refl)
  reads TooNested h = inr (h.0, h.1, inl (h.2, refl))
  reads TooManyNodes h = spells_unsound TooManyNodes h.0 h.1 (inl (h.2, refl))
  reads TooLong h = spells_unsound TooLong h.0 h.1 (inr (inl (h.2, refl)))
  reads RepeatedKey h = spells_unsound RepeatedKey h.0 h.1 (inr (inr (h.2, refl)))
  reads OutOfMemory h = absurd h
  reads e h = spells_none e h

  unsound_once : (t : Tree) (e g : JsonFault) → Unsound t e → Unsound t g → e ≡ g
  unsound_once t e g (inl h) (inl k) = h.1 ∙ sym k.1
  unsound_once t e g (inl h) (inr (inl k)) = absurd (omega (arith, h.0.2, k.0.2))
  unsound_once t e g (inl h) (inr (inr k)) = let few = k.0.0.nodes_hold in absurd (omega (arith, h.0.2, few))
  unsound_once t e g (inr (inl h)) (inl k) = absurd (omega (arith, h.0.2, k.0.2))
  unsound_once t e g (inr (inl h)) (inr (inl k)) = h.1 ∙ sym k.1
  unsound_once t e g (inr (inl h)) (inr (inr k)) = absurd (h.0.3 k.0.0.lengths)
  unsound_once t e g (inr (inr h)) (inl k) = let few = h.0.0.nodes_hold in absurd (omega (arith, few, k.0.2))
  unsound_once t e g (inr (inr h)) (inr (inl k)) = absurd (k.0.3 h.0.0.lengths)
  unsound_once t e g (inr (inr h)) (inr (inr k)) = h.1 ∙ sym k.1

  validated_once : (d : Data) (e g : JsonFault) → Validated d e → Validated d g → e ≡ g
  validated_once d e g (inl h) (inl k) = (one_verdict registry limits.depth (of s) d).once e g h k
  validated_once d e g (inl h) (inr k) = absurd ((one_verdict registry limits.depth (of s) d).not_both k.0 e k.1 h)
  validated_once d e g (inr h) (inl k) = absurd ((one_verdict registry limits.depth (of s) d).not_both h.0 g h.1 k)
  validated_once d e g (inr h) (inr k) = unsound_once h.0 e g h.2 (subst (λ t. Unsound t g) (one_tree registry (of s) d k.0 h.0 k.1.0 h.1.0) k.2)

  looked_once : (d : Data) (e g : JsonFault) → Looked d e → Looked d g → e ≡ g
  looked_once d e g (inl h) (inl k) = h.1 ∙ sym k.1
  looked_once d e g (inl h) (inr k) = absurd (omega (arith, h.0, k.0))
  looked_once d e g (inr h) (inl k) = absurd (omega (arith, h.0, k.0))
  looked_once d e g (inr h) (inr k) = validated_once d e g h.1 k.1

  reads_once : (e g : JsonFault) → Reads e → Reads g → e ≡ g
  reads_once e g (inl h) (inl k) = h.1 ∙ sym k.1
  reads_once e g (inl h) (inr k) = absurd (h.0 k.0 k.1)
  reads_once e g (inr h) (inl k) = absurd (k.0 h.0 h.1)
  reads_once e g (inr h) (inr k) = looked_once h.0 e g h.2 (subst (λ d. Looked d g) (same_read text k.0 h.0 k.1 h.1) k.2)

pub text_denotes_or_is_refused : TextDenotesOrIsRefused
text_denotes_or_is_refused registry limits s text orderly = record {
  some = some_answer registry limits s text orderly (is_utf8 text) refl (read text) refl;
  once = λ e g h k. reads_once registry limits s text e g (reads registry limits s text e h) (reads registry limits s text g k);
}
