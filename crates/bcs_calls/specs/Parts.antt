-- The answer to a path into the bytes of a value.
use Rattle.std.specs.Prelude.{◌≡◌, ℕ, IsUtf8, List, Option, Some, None, drop, length, take}
use Rattle.bcs_registry_model.specs.Container.{Entries, of}
use Rattle.bcs_registry_model.specs.Shape.{Shape}
use Rattle.bcs_value_model.specs.Limits.{Bounds}
use Rattle.bcs_value_model.specs.Tree.{Tree}
use Rattle.bcs_encode_spec.specs.Plain.{plain as bytes_of}
use Rattle.bcs_decode_spec.specs.Accepting.{Accepts}
use Rattle.bcs_decode_spec.specs.Stopping.{Stops}
use Rattle.bcs_decode_spec.specs.declared.reason.Reason.{Reason}
use Rattle.bcs_decode_parts.specs.Parts.{Part, Step, part_at}
use Rattle.bcs_decode_parts.specs.Path.{SpellsNoPath, SpellsPath}
use Rattle.bcs_calls.specs.Answers.{placed, plain, refusal, stop_at}
use Rattle.bcs_calls.specs.declared.answer.Answer.{Answer}
use Rattle.bcs_calls.specs.declared.fault.Fault.TheVariants.{BadPath}
use Rattle.bcs_calls.specs.declared.status.Status.TheVariants.{Memory, No, Path}

abbrev pub Steps : Type 0
Steps = List Step

-- the path is UTF-8 and represents these steps
abbrev pub IsPath : List ℕ → Steps → Type 0
IsPath path steps = IsUtf8 path × SpellsPath path steps

-- the path isn't UTF-8, or represents no steps; or memory ran out
pub data RefusesPath (path : List ℕ) (a : Answer) : Type 0 where
  no_text : (IsUtf8 path → ⊥) → a ≡ refusal Path BadPath → RefusesPath path a
  no_path : SpellsNoPath path → a ≡ refusal Path BadPath → RefusesPath path a
  no_memory : a ≡ plain Memory → RefusesPath path a

-- the answer reports the part's place and its length, and the input has the part's bytes there; or there is no part
abbrev pub Finds : Entries → List ℕ → Option Part → Answer → Type 0
Finds registry b (Some x) a =
    (a ≡ placed x.place (length (bytes_of registry x.value x.content)))
    × (bytes_of registry x.value x.content ≡ take (length (bytes_of registry x.value x.content)) (drop x.place b))
Finds registry b None a = a ≡ plain No

module _ (registry : Entries) (limits : Bounds) (s : Shape) (b : List ℕ) where
  -- the input starts with a value, and this is the answer for the part that the steps lead to; or it stops being a value
  pub data AnswersSteps (steps : Steps) (a : Answer) : Type 0 where
    found : (n : ℕ) (c : Tree) → Accepts registry limits s b n c → Finds registry b (part_at registry steps (of s) c) a → AnswersSteps steps a
    stopped : (e : Reason) (o : ℕ) → Stops registry limits s b e o → a ≡ stop_at e o → AnswersSteps steps a

  -- the path is refused; or this is the answer to its steps; or memory ran out
  pub data AnswersPart (path : List ℕ) (a : Answer) : Type 0 where
    refused : RefusesPath path a → AnswersPart path a
    stepped : (steps : Steps) → IsPath path steps → AnswersSteps steps a → AnswersPart path a
    out_of_memory : a ≡ plain Memory → AnswersPart path a
