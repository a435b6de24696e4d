-- The answer to the name of a part.
use Rattle.std.specs.Prelude.{◌≡◌, ◌==◌, ℕ, Bool, false, true, IsUtf8, List, if◌then◌else◌}
use Rattle.bcs_registry_model.specs.Container.{Entries}
use Rattle.bcs_registry_model.specs.Shape.{Shape}
use Rattle.bcs_value_model.specs.Limits.{Bounds}
use Rattle.bcs_decode_spec.specs.Stopping.{Stops}
use Rattle.bcs_decode_spec.specs.declared.reason.Reason.{Reason}
use Rattle.bcs_part_names.specs.Names.{is_name}
use Rattle.bcs_part_names.specs.Pointers.{is_pointer}
use Rattle.bcs_calls.specs.Answers.{plain, refusal, stop_at}
use Rattle.bcs_calls.specs.Parts.{AnswersSteps, Steps}
use Rattle.bcs_calls.specs.declared.answer.Answer.{Answer}
use Rattle.bcs_calls.specs.declared.fault.Fault.TheVariants.{BadPath}
use Rattle.bcs_calls.specs.declared.status.Status.TheVariants.{Memory, Path}

-- the text is valid in the notation with this number
abbrev pub is_in_notation : ℕ → List ℕ → Bool
is_in_notation n text = if n == 1 then is_name text else (if n == 2 then is_pointer text else false)

-- the bytes are UTF-8 and valid in the notation with this number
abbrev pub MayName : ℕ → List ℕ → Type 0
MayName n name = IsUtf8 name × (is_in_notation n name ≡ true)

-- the name is refused; or this is the answer to some steps, not proved to be those of the name; or memory ran out
pub data AnswersNamed (registry : Entries) (limits : Bounds) (s : Shape) (b : List ℕ) (n : ℕ) (name : List ℕ) (a : Answer) : Type 0 where
  refused : (MayName n name → ⊥) → a ≡ refusal Path BadPath → AnswersNamed registry limits s b n name a
  stepped : MayName n name → (steps : Steps) → AnswersSteps registry limits s b steps a → AnswersNamed registry limits s b n name a
  no_memory : a ≡ plain Memory → AnswersNamed registry limits s b n name a

-- the name is refused; or the input stops being a value; or memory ran out
pub data RefusesName (registry : Entries) (limits : Bounds) (s : Shape) (b : List ℕ) (n : ℕ) (name : List ℕ) (a : Answer) : Type 0 where
  no_name : (MayName n name → ⊥) → a ≡ refusal Path BadPath → RefusesName registry limits s b n name a
  no_value : MayName n name → (e : Reason) (o : ℕ) → Stops registry limits s b e o → a ≡ stop_at e o → RefusesName registry limits s b n name a
  out_of_memory : a ≡ plain Memory → RefusesName registry limits s b n name a
