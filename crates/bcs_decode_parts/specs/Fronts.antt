-- A value at the start of bytes, and where a step in it leads.
use Rattle.std.specs.Prelude.{◌≡◌, ◌≤◌, ℕ, List, ◌++◌, length, Option, Some, None}
use Rattle.std.specs.Borrow.{Bor}
use Rattle.bcs_registry_model.specs.Container.{Entries, Content, of, nothing, Choice, choice_at, payload_shape}
use Rattle.bcs_registry_model.specs.View.{payload_of}
use Rattle.bcs_registry_model.specs.declared.variant_format.VariantFormat.{VariantFormat}
use Rattle.bcs_value_model.specs.Tree.{Tree, nodes}
use Rattle.bcs_encode_spec.specs.Plain.{plain}
use Rattle.bcs_decode_spec.specs.Accepting.{IsDecodable}
use Rattle.bcs_decode_parts.specs.declared.ahead.Ahead.{Ahead}
use Rattle.bcs_decode_parts.specs.declared.here.Reached.{Reached}
use Rattle.bcs_decode_parts.specs.Here.{content_of}
use Rattle.bcs_decode_parts.specs.Parts.{Step, Part, step_at}

-- a value within the limits is ahead, and the bytes `after` follow it
pub record Fronts (registry : Entries) (ahead : Ahead) (f : Content) (t : Tree) (after : List ℕ) : Type 0 where
  pub good : IsDecodable registry ahead.depth f t
  pub few : nodes t ≤ ahead.nodes
  pub is : ahead.bytes.now ≡ plain registry t f ++ after

-- the result is these bytes
abbrev pub IsRest : List ℕ → Option (Bor (List ℕ)) → Type 0
IsRest after None = ⊥
IsRest after (Some r) = r.now ≡ after

-- the result is the number and the bytes after it
abbrev pub IsNumber : ℕ → List ℕ → Option (ℕ × Bor (List ℕ)) → Type 0
IsNumber n after None = ⊥
IsNumber n after (Some r) = (r.0 ≡ n) × (r.1.now ≡ after)

-- the result is the contents of variant `n` and the bytes after its number, or `None` if there is no such variant
abbrev pub IsChosen : ℕ → List Choice → List ℕ → Option (Bor VariantFormat × Bor (List ℕ)) → Type 0
IsChosen n cs after None = choice_at n cs ≡ nothing
IsChosen n cs after (Some r) = (choice_at n cs ≡ of (payload_shape (payload_of r.0.now))) × (r.1.now ≡ after)

-- `r` has skipped the bytes up to the part's place, and the part is ahead of it
pub record Reaches (registry : Entries) (bytes : List ℕ) (x : Part) (r : Reached) : Type 0 where
  pub before : List ℕ
  pub after : List ℕ
  pub content : content_of r.here ≡ x.content
  pub place : length before ≡ x.place
  pub is : bytes ≡ before ++ r.ahead.bytes.now
  pub stands : Fronts registry r.ahead x.content x.value after

-- the part exists and was reached, or doesn't exist
abbrev pub LeadsTo : Entries → List ℕ → Option Part → Option Reached → Type 0
LeadsTo registry bytes None None = Unit {0}
LeadsTo registry bytes (Some x) (Some r) = Reaches registry bytes x r
LeadsTo registry bytes None (Some r) = ⊥
LeadsTo registry bytes (Some x) None = ⊥

-- for every value that may be ahead, `result` is the result of taking the step in it
abbrev pub StepsTo : Entries → Ahead → Step → Content → Option Reached → Type 0
StepsTo registry ahead s f result = (t : Tree) (after : List ℕ) → Fronts registry ahead f t after → LeadsTo registry ahead.bytes.now (step_at registry s f t) result
