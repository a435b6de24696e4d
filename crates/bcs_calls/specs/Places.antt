-- The answers of calls that report where something is refused.
use Rattle.std.specs.Prelude.{◌≡◌, ◌≢◌, ◌++◌, ◌∷◌, Bool, ℕ, List, [], Some, None, false, true}
use Rattle.std.specs.List.{All}
use Rattle.bcs_registry_model.specs.Container.{Entries}
use Rattle.bcs_registry_model.specs.Shape.{Shape}
use Rattle.bcs_registry_model.specs.declared.fault.RegistryFault.{RegistryFault}
use Rattle.bcs_registry.specs.Faults.{IsLeastFault}
use Rattle.bcs_value_model.specs.Limits.{Bounds}
use Rattle.bcs_value_model.specs.Tree.{Tree}
use Rattle.bcs_decode_spec.specs.declared.stop.Stop.{Stop}
use Rattle.bcs_json_spec.specs.Place.{PointerStep}
use Rattle.bcs_json_spec.specs.Texts.{Denotes, MisspellsAt, RefusesText}
use Rattle.bcs_json_spec.specs.declared.json_fault.JsonFault.{JsonFault}
use Rattle.bcs_json_spec.specs.declared.json_fault.JsonFault.TheVariants.{NotJson, TooNested, TooManyNodes, TooLong, RepeatedKey}
use Rattle.bcs_display_errors.specs.Pointers.{pointer}
use Rattle.bcs_display_pieces.specs.EndsAt.{EndsAt}
use Rattle.bcs_calls.specs.Answers.{plain, with_fault, with_stop}
use Rattle.bcs_calls.specs.Output.{Puts}
use Rattle.bcs_calls.specs.Registries.{IsRegistry}
use Rattle.bcs_calls.specs.declared.answer.Answer.{Answer}
use Rattle.bcs_calls.specs.declared.fault.Fault.TheVariants.{Registry, Text}
use Rattle.bcs_calls.specs.declared.status.Status.TheVariants.{Memory, No}

-- whether this fault refuses a document as a whole
abbrev pub is_of_whole : JsonFault → Bool
is_of_whole NotJson = true
is_of_whole TooNested = true
is_of_whole TooManyNodes = true
is_of_whole TooLong = true
is_of_whole RepeatedKey = true
is_of_whole e = false

-- the byte isn't the one that ends a place
abbrev pub IsNoNul : ℕ → Type 0
IsNoNul byte = byte ≢ 0

-- the bytes are this place, a NUL, and a message without one, so the last NUL ends the place
abbrev pub IsParted : List ℕ → List ℕ → Type 0
IsParted place b = (message : List ℕ) × All IsNoNul message × (b ≡ (place ++ (0 ∷ [])) ++ message)

module _ (registry : Entries) (limits : Bounds) (s : Shape) where
  -- the bytes are the JSON Pointer to where the document is refused with this fault, which is empty if it is refused as a whole
  pub data IsWhere (text b : List ℕ) (e : JsonFault) : Type 0 where
    placed : (path : List PointerStep) → MisspellsAt registry limits s text path e → b ≡ pointer path → IsWhere text b e
    whole : RefusesText registry limits s text e → is_of_whole e ≡ true → b ≡ [] → IsWhere text b e

  -- the bytes are that JSON Pointer and a message
  abbrev pub IsTextRefusal : List ℕ → List ℕ → JsonFault → Type 0
  IsTextRefusal text b e = (place : List ℕ) × IsWhere text place e × IsParted place b

  -- the document is refused, and the call returns why, and where and a message; or it represents a value; or memory ran out
  pub data AnswersTextRefusal (text old new : List ℕ) (a : Answer) : Type 0 where
    told : (e : JsonFault) (b : List ℕ) (x : Answer) → RefusesText registry limits s text e → IsTextRefusal text b e → Puts b old new x
        → a ≡ with_fault (Text e) x → AnswersTextRefusal text old new a
    stands : (t : Tree) → Denotes registry limits s text t → a ≡ plain No → AnswersTextRefusal text old new a
    no_memory : a ≡ plain Memory → AnswersTextRefusal text old new a

  -- the bytes stop being a value, and the call returns why, and where and a message; or they are one; or memory ran out
  pub data AnswersStopRefusal (bytes old new : List ℕ) (a : Answer) : Type 0 where
    told : (x : Stop) (place b : List ℕ) (y : Answer) → EndsAt registry limits s bytes (Some x) → IsParted place b → Puts b old new y
        → a ≡ with_stop (Some x) y → AnswersStopRefusal bytes old new a
    stands : EndsAt registry limits s bytes None → a ≡ plain No → AnswersStopRefusal bytes old new a
    no_memory : a ≡ plain Memory → AnswersStopRefusal bytes old new a

-- the JSON of a registry is refused, and the call returns why, and where and a message; or it represents one; or memory ran out
pub data AnswersRegistryRefusal (text old new : List ℕ) (a : Answer) : Type 0 where
  told : (e : RegistryFault) (place b : List ℕ) (x : Answer) → IsLeastFault text e → IsParted place b → Puts b old new x
      → a ≡ with_fault (Registry e) x → AnswersRegistryRefusal text old new a
  stands : (r : Entries) → IsRegistry text r → a ≡ plain No → AnswersRegistryRefusal text old new a
  no_memory : a ≡ plain Memory → AnswersRegistryRefusal text old new a
