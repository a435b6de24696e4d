-- The answers of calls that make registries from modules.
use Rattle.std.specs.Prelude.{◌≡◌, ◌++◌, ◌∷◌, ◌⊎◌, ℕ, List, []}
use Rattle.bcs_move.specs.Made.{WritesSome}
use Rattle.bcs_move_types.specs.declared.refusal.MoveRefusalName.{MoveRefusalName}
use Rattle.bcs_calls.specs.Answers.{plain, refusal, with_fault}
use Rattle.bcs_calls.specs.Output.{Puts}
use Rattle.bcs_calls.specs.Places.{IsParted}
use Rattle.bcs_calls.specs.declared.answer.Answer.{Answer}
use Rattle.bcs_calls.specs.declared.fault.Fault.TheVariants.{Move}
use Rattle.bcs_calls.specs.declared.status.Status.TheVariants.{Memory, No, Refused}

-- nothing, or a line feed and a line
abbrev pub IsNextLine : List ℕ → Type 0
IsNextLine b = (b ≡ []) ⊎ ((line : List ℕ) × (b ≡ 10 ∷ line))

-- the text is the JSON of some well-formed registry, with a line of notes or without
abbrev pub WritesWithNotes : List ℕ → Type 0
WritesWithNotes text = (json : List ℕ) × (notes : List ℕ) × WritesSome json × IsNextLine notes × (text ≡ json ++ notes)

-- the call returns such a text; or the modules or a type are refused; or memory ran out
pub data AnswersModules (old new : List ℕ) (a : Answer) : Type 0 where
  made : (text : List ℕ) → WritesWithNotes text → Puts text old new a → AnswersModules old new a
  refused : (name : MoveRefusalName) → a ≡ refusal Refused (Move name) → AnswersModules old new a
  no_memory : a ≡ plain Memory → AnswersModules old new a

-- the modules or a type are refused, and the call returns why, and where and a message; or they aren't; or memory ran out
pub data AnswersModulesRefusal (old new : List ℕ) (a : Answer) : Type 0 where
  told : (name : MoveRefusalName) (place b : List ℕ) (x : Answer) → IsParted place b → Puts b old new x → a ≡ with_fault (Move name) x
      → AnswersModulesRefusal old new a
  stands : a ≡ plain No → AnswersModulesRefusal old new a
  no_memory : a ≡ plain Memory → AnswersModulesRefusal old new a
