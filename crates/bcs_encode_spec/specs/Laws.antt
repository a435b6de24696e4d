-- Laws about the bytes of values and about canonical forms.
use Rattle.std.specs.Prelude.{◌≡◌, ◌↔◌, ◌⊎◌, IsTrue, false, ℕ, List, ◌++◌}
use Rattle.bcs_registry_model.specs.Shape.{Shape}
use Rattle.bcs_registry_model.specs.Container.{Entries, Content}
use Rattle.bcs_registry_model.specs.Grows.{Grows}
use Rattle.bcs_value_model.specs.Tree.{Tree, depth, nodes}
use Rattle.bcs_value_model.specs.Fits.{fits}
use Rattle.bcs_value_model.specs.Same.{Same, HasDistinctKeys}
use Rattle.bcs_value_model.specs.Limits.{Bounds}
use Rattle.bcs_encode_spec.specs.Plain.{plain}
use Rattle.bcs_encode_spec.specs.Canonical.{IsCanonical}
use Rattle.bcs_encode_spec.specs.Lengths.{lengths_hold}
use Rattle.bcs_encode_spec.specs.Sound.{IsSoundAt, IsSound}
use Rattle.bcs_encode_spec.specs.Refused.{RefusesValue}
use Rattle.bcs_encode_spec.specs.Encodes.{IsForm, Encodes}
use Rattle.bcs_encode_spec.specs.declared.fault.EncodeFault.{EncodeFault}

-- the bytes of a fitting tree are never a prefix of those of another one
abbrev pub PrefixFree : Type 0
PrefixFree = (registry : Entries) (f : Content) (a b : Tree) (r s : List ℕ)
    → IsTrue (fits false registry a f) → IsTrue (fits false registry b f)
    → plain registry a f ++ r ≡ plain registry b f ++ s → (a ≡ b) × (r ≡ s)

-- c is the only canonical form of t, its keys are distinct, and its depth, nodes and lengths are those of t
pub record IsOneForm (registry : Entries) (f : Content) (t c : Tree) : Type 0 where
  pub is_form : IsForm registry f t c
  pub only : (d : Tree) → IsForm registry f t d → d ≡ c
  pub distinct : HasDistinctKeys c
  pub same_depth : depth c ≡ depth t
  pub same_nodes : nodes c ≡ nodes t
  pub same_lengths : (limit : ℕ) → lengths_hold limit registry c f ≡ lengths_hold limit registry t f
  -- so it is sound within the same limits as t
  pub sound : (limits : Bounds) → IsSoundAt registry limits f t → IsSoundAt registry limits f c

-- each fitting tree with distinct keys has exactly one canonical form
abbrev pub OneCanonicalForm : Type 0
OneCanonicalForm = (registry : Entries) (f : Content) (t : Tree)
    → IsTrue (fits false registry t f) → HasDistinctKeys t → (c : Tree) × IsOneForm registry f t c

-- sound trees are the same value exactly if their encodings are equal
abbrev pub BytesDecide : Type 0
BytesDecide = (registry : Entries) (limits : Bounds) (s : Shape) (v w : Tree) (b c : List ℕ)
    → Encodes registry limits s v b → Encodes registry limits s w c → Same v w ↔ (b ≡ c)

-- a tree is refused for at most one reason
abbrev pub OneRefusal : Type 0
OneRefusal = (registry : Entries) (limits : Bounds) (s : Shape) (t : Tree) (a b : EncodeFault)
    → RefusesValue registry limits s t a → RefusesValue registry limits s t b → a ≡ b

-- each tree is either sound or refused, and never both
abbrev pub RefusedOrSound : Type 0
RefusedOrSound = (registry : Entries) (limits : Bounds) (s : Shape) (t : Tree)
    → (IsSound registry limits s t ⊎ ((reason : EncodeFault) × RefusesValue registry limits s t reason))
    × ((reason : EncodeFault) → IsSound registry limits s t → RefusesValue registry limits s t reason → ⊥)

-- a sound tree stays sound when the registry grows
abbrev pub GrowthKeepsSoundness : Type 0
GrowthKeepsSoundness = (older newer : Entries) (limits : Bounds) (f : Content) (t : Tree)
    → Grows older newer → IsSoundAt older limits f t → IsSoundAt newer limits f t

-- a fitting tree keeps its bytes
abbrev pub GrowthKeepsBytes : Type 0
GrowthKeepsBytes = (older newer : Entries) (f : Content) (t : Tree)
    → Grows older newer → IsTrue (fits false older t f) → plain newer t f ≡ plain older t f

-- a canonical tree stays canonical
abbrev pub GrowthKeepsOrder : Type 0
GrowthKeepsOrder = (older newer : Entries) (f : Content) (t : Tree)
    → Grows older newer → IsTrue (fits false older t f) → IsCanonical older t f → IsCanonical newer t f

-- so a tree keeps its encoding
abbrev pub GrowthKeepsEncodings : Type 0
GrowthKeepsEncodings = (older newer : Entries) (limits : Bounds) (s : Shape) (t : Tree) (b : List ℕ)
    → Grows older newer → Encodes older limits s t b → Encodes newer limits s t b
