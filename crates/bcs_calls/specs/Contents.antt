-- The answer to the name of a part whose content is requested.
use Rattle.std.specs.Prelude.{◌≡◌, ◌+◌, ℕ, zero, suc, List, Option, Some, None, drop, length, take}
use Rattle.bcs_registry_model.specs.Container.{Entries, of}
use Rattle.bcs_registry_model.specs.Shape.{Shape}
use Rattle.bcs_value_model.specs.Limits.{Bounds}
use Rattle.bcs_value_model.specs.Tree.{Tree}
use Rattle.bcs_decode_spec.specs.Accepting.{Accepts}
use Rattle.bcs_decode_spec.specs.Stopping.{Stops}
use Rattle.bcs_decode_spec.specs.declared.reason.Reason.{Reason}
use Rattle.bcs_decode_parts.specs.Parts.{Part, part_at}
use Rattle.bcs_part_names.specs.Contents.{content_bytes, length_bytes}
use Rattle.bcs_calls.specs.Answers.{placed, plain, refusal, stop_at}
use Rattle.bcs_calls.specs.NamedParts.{MayName}
use Rattle.bcs_calls.specs.Parts.{IsPath, Steps}
use Rattle.bcs_calls.specs.declared.answer.Answer.{Answer}
use Rattle.bcs_calls.specs.declared.fault.Fault.TheVariants.{BadPath, NoContent}
use Rattle.bcs_calls.specs.declared.status.Status.TheVariants.{Memory, No, Path, Refused}

-- in notation 0, the name is a path and represents these steps; in any other, it is valid, and any steps may be its own
abbrev pub MayLead : ℕ → List ℕ → Steps → Type 0
MayLead zero name steps = IsPath name steps
MayLead (suc n) name steps = MayName (suc n) name

-- the content comes right after the bytes of its length
abbrev pub content_place : Part → ℕ
content_place x = x.place + length (length_bytes x.content x.value)

-- the answer reports the place and the length of the content, and the input has its bytes there; or the part has no content
abbrev pub FindsContentOf : List ℕ → Part → Option (List ℕ) → Answer → Type 0
FindsContentOf b x (Some content) a = (a ≡ placed (content_place x) (length content)) × (content ≡ take (length content) (drop (content_place x) b))
FindsContentOf b x None a = a ≡ refusal Refused NoContent

-- the same for a part that may not exist
abbrev pub FindsContent : List ℕ → Option Part → Answer → Type 0
FindsContent b (Some x) a = FindsContentOf b x (content_bytes x.content x.value) a
FindsContent b None a = a ≡ plain No

module _ (registry : Entries) (limits : Bounds) (s : Shape) (b : List ℕ) where
  -- the input starts with a value, and this is the answer for the part that the steps lead to; or it stops being a value
  pub data AnswersContentAt (steps : Steps) (a : Answer) : Type 0 where
    found : (n : ℕ) (c : Tree) → Accepts registry limits s b n c → FindsContent b (part_at registry steps (of s) c) a → AnswersContentAt steps a
    stopped : (e : Reason) (o : ℕ) → Stops registry limits s b e o → a ≡ stop_at e o → AnswersContentAt steps a

  -- the name is refused; or this is the answer to its steps; or memory ran out
  pub data AnswersContent (n : ℕ) (name : List ℕ) (a : Answer) : Type 0 where
    refused : ((steps : Steps) → MayLead n name steps → ⊥) → a ≡ refusal Path BadPath → AnswersContent n name a
    stepped : (steps : Steps) → MayLead n name steps → AnswersContentAt steps a → AnswersContent n name a
    no_memory : a ≡ plain Memory → AnswersContent n name a
