-- The slots of a struct's fields, and the refusal of a struct in the loop over its members.
use Rattle.std.specs.Prelude.{◌≡◌, ℕ, suc, List, [], ◌∷◌, Option, Some, None, map, slice_get, string_bytes, take}
use Rattle.json.specs.Token.{Token}
use Rattle.bcs_registry_model.specs.declared.format.Format.{Format}
use Rattle.bcs_registry_model.specs.declared.named.Named.{Named}
use Rattle.bcs_value_model.specs.declared.value.Value.{Value}
use Rattle.bcs_json_spec.specs.Place.{member}
use Rattle.bcs_json_spec.specs.declared.json_fault.JsonFault.TheVariants.{MissingField, UnknownField}
use Rattle.bcs_json_reader.specs.declared.refusal.Refusal.{Refusal}
use Rattle.bcs_json_passing.specs.Passing.{IsHere, IsNamePassed, IsRefusal, IsWithin, OthersPassed}
use Rattle.bcs_json_passing.specs.declared.given_up.GivenUp.{GivenUp}

-- how many slots come before the first empty one
abbrev pub first_empty : List (Option Value) → ℕ
first_empty [] = 0
first_empty (None ∷ os) = 0
first_empty (Some v ∷ os) = suc (first_empty os)

-- the names of the first fields
abbrev pub first_names : ℕ → List (Named Format) → List (List ℕ)
first_names n fs = map (λ f. string_bytes f.name) (take n fs)

-- the member of the first field without a value is refused, and no later member belongs to it or to a field before it
pub record IsFieldRefused (fs : List (Named Format)) (os : List (Option Value)) (place depth : ℕ) (ts rest : List Token) (g : GivenUp) (e : Refusal) : Type 0 where
  pub first : first_empty os ≡ place
  pub field : Named Format
  pub at : slice_get fs place ≡ Some field
  pub inner : Refusal
  pub was : IsRefusal g inner
  pub within : IsWithin (member (string_bytes field.name)) inner e
  pub others : OthersPassed (first_names (suc place) fs) depth ts rest

-- a member `name`, whose value begins the tokens, isn't one of the fields up to the first without a value
pub record IsNameRefused (fs : List (Named Format)) (os : List (Option Value)) (name : List ℕ) (depth : ℕ) (ts rest : List Token) (e : Refusal) : Type 0 where
  pub missing : (f : Named Format) → slice_get fs (first_empty os) ≡ Some f → IsNamePassed (first_names (suc (first_empty os)) fs) name depth ts rest × IsHere MissingField e
  pub unknown : slice_get fs (first_empty os) ≡ None → IsNamePassed (map (λ f. string_bytes f.name) fs) name depth ts rest × IsHere UnknownField e
