-- What a canonical form is printed as denotes this form, and nests no deeper than the JSON that it was read from.
use Rattle.bcs_json_spec.proofs.Prelude.{◌≤◌, ℕ, List, sym, subst, arith, depth, Entries, IsOrderly, Shape, IsWellFormed, Bounds, Tree, has_one_form, IsForm, IsSound, IsJson, of, shown, nesting_limit, Denotes, SpelledBy}
use Rattle.bcs_registry_model.specs.Container as container
use Rattle.bcs_json_spec.proofs.SameDepth.{shown_is_read_back}

module _ (registry : Entries) (limits : Bounds) (s : Shape) (well : IsWellFormed registry) (orderly : IsOrderly registry) where
  -- a text that is read as the JSON of a sound value denotes it
  pub shown_denotes : (t : Tree) → IsSound registry limits s t → (text : List ℕ) → IsJson text (shown registry t (of s)) → depth (shown registry t (of s)) ≤ nesting_limit
      → Denotes registry limits s text t
  shown_denotes t sound text is low =
      record { read = shown registry t (of s); is = (is, low); spells = (shown_is_read_back registry s t well orderly sound.fit).spells; sound = sound }

  -- the canonical form of a sound value is sound
  pub form_is_sound : (t form : Tree) → IsSound registry limits s t → IsForm registry (container.of s) t form → IsSound registry limits s form
  form_is_sound t form sound is =
      let one = has_one_form registry (container.of s) t sound.fit sound.distinct in
      subst (IsSound registry limits s) (sym (one.1.only form is)) (one.1.sound limits sound)

  -- its JSON nests no deeper than the JSON that spelled the value
  pub form_nests : (text : List ℕ) (t form : Tree) → SpelledBy registry limits s text t → IsForm registry (container.of s) t form → depth (shown registry form (of s)) ≤ nesting_limit
  form_nests text t form spelled is =
      let low = (shown_is_read_back registry s form well orderly is.fit).lowest t spelled.read is.is_same spelled.spells.0 in
      omega (arith, low, spelled.is.1)
