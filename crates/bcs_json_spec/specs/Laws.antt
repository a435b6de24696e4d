-- Laws of spelling, refusals and printing.
use Rattle.std.specs.Prelude.{◌≡◌, ◌≤◌, ◌↔◌, ◌⊎◌, ℕ, List}
use Rattle.serde_json.specs.Data.{Data}
use Rattle.serde_json.specs.Data as json
use Rattle.bcs_registry_model.specs.Container.{Entries}
use Rattle.bcs_registry_model.specs.Shape.{Shape}
use Rattle.bcs_registry_model.specs.Grows.{Grows}
use Rattle.bcs_registry_model.specs.Ranges.{IsOrderly}
use Rattle.bcs_registry_model.specs.WellFormed.{IsWellFormed}
use Rattle.bcs_registry_json.specs.Text.{WritesRegistry}
use Rattle.bcs_value_model.specs.Fits.{Fits}
use Rattle.bcs_value_model.specs.Limits.{Bounds}
use Rattle.bcs_value_model.specs.Same.{Same}
use Rattle.bcs_value_model.specs.Tree.{Tree}
use Rattle.bcs_json_spec.specs.ArraySpells.{ArraySpells}
use Rattle.bcs_json_spec.specs.JsonContent.{JsonContent, of}
use Rattle.bcs_json_spec.specs.Place.{PointerStep, IsRefusedAlone, RefusesAt, value}
use Rattle.bcs_json_spec.specs.Refuses.{Refuses}
use Rattle.bcs_json_spec.specs.Shown.{shown}
use Rattle.bcs_json_spec.specs.Spells.{Spells, SpellsWithin}
use Rattle.bcs_json_spec.specs.Texts.{Denotes, RefusesText}
use Rattle.bcs_json_spec.specs.Headline.{HasBytes, Normalises, ShowsBytes}
use Rattle.bcs_json_spec.specs.declared.json_fault.JsonFault.{JsonFault}

-- ---- of JSON

-- JSON spells at most one tree
abbrev pub OneTree : Type 0
OneTree = (registry : Entries) (f : JsonContent) (j : Data) (t u : Tree) → Spells registry t f j → Spells registry u f j → t ≡ u

-- within a limit of open containers, JSON either spells a tree or is refused, for exactly one reason
pub record HasOneVerdict (registry : Entries) (d : ℕ) (f : JsonContent) (j : Data) : Type 0 where
  pub some : ((t : Tree) × SpellsWithin registry d f j t) ⊎ ((e : JsonFault) × Refuses registry d f j e)
  pub not_both : (t : Tree) (e : JsonFault) → SpellsWithin registry d f j t → Refuses registry d f j e → ⊥
  pub once : (e g : JsonFault) → Refuses registry d f j e → Refuses registry d f j g → e ≡ g

abbrev pub OneVerdict : Type 0
OneVerdict = (registry : Entries) (d : ℕ) (f : JsonContent) (j : Data) → HasOneVerdict registry d f j

-- if JSON spells a tree, the tree fits the format
abbrev pub SpelledFits : Type 0
SpelledFits = (registry : Entries) (s : Shape) (j : Data) (t : Tree) → IsOrderly registry → Spells registry t (of s) j → Fits registry s t

-- ---- of places

-- refused JSON has at most one place
abbrev pub OnePlace : Type 0
OnePlace = (registry : Entries) (d : ℕ) (f : JsonContent) (j : Data) (path way : List PointerStep) (e g : JsonFault)
    → RefusesAt registry d f j path e → RefusesAt registry d f j way g → path ≡ way

-- the JSON at the place has the fault of the whole, and no part of it is refused
abbrev pub PlaceIsRefusedAlone : Type 0
PlaceIsRefusedAlone = (registry : Entries) (d : ℕ) (f : JsonContent) (j : Data) (path : List PointerStep) (e : JsonFault)
    → RefusesAt registry d f j path e → IsRefusedAlone registry e path d (value f) j

-- refused JSON has a place
abbrev pub SomePlace : Type 0
SomePlace = (registry : Entries) (d : ℕ) (f : JsonContent) (j : Data) (e : JsonFault) → Refuses registry d f j e → (path : List PointerStep) × RefusesAt registry d f j path e

-- ---- of printing

-- the JSON that a tree is printed as nests no deeper than any JSON that spells it
abbrev pub ShownIsLowest : Type 0
ShownIsLowest = (registry : Entries) (s : Shape) (j : Data) (t : Tree) → IsOrderly registry → Spells registry t (of s) j → json.depth (shown registry t (of s)) ≤ json.depth j

-- the JSON of a value spells it, and nests no deeper than any JSON that spells an equal value
pub record IsReadBack (registry : Entries) (s : Shape) (c : Tree) : Type 0 where
  pub spells : Spells registry c (of s) (shown registry c (of s))
  pub lowest : (v : Tree) (j : Data) → Same v c → Spells registry v (of s) j → json.depth (shown registry c (of s)) ≤ json.depth j

abbrev pub ShownIsReadBack : Type 0
ShownIsReadBack = (registry : Entries) (s : Shape) (c : Tree) → IsWellFormed registry → IsOrderly registry → Fits registry s c → IsReadBack registry s c

-- a value is printed the same in every registry that its registry grows to
abbrev pub GrowthKeepsShowing : Type 0
GrowthKeepsShowing = (older newer : Entries) (s : Shape) (t : Tree) → Grows older newer → Fits older s t → shown newer t (of s) ≡ shown older t (of s)

-- ---- of texts

-- a text denotes at most one value
abbrev pub DenotesOnce : Type 0
DenotesOnce = (registry : Entries) (limits : Bounds) (s : Shape) (text : List ℕ) (t u : Tree)
    → Denotes registry limits s text t → Denotes registry limits s text u → t ≡ u

-- a text that denotes a value isn't refused
abbrev pub DenotedIsNotRefused : Type 0
DenotedIsNotRefused = (registry : Entries) (limits : Bounds) (s : Shape) (text : List ℕ) (t : Tree) (e : JsonFault)
    → Denotes registry limits s text t → RefusesText registry limits s text e → ⊥

-- ---- of the older definition

-- what the older definition allows is still allowed
abbrev pub ArraySpellingStillSpells : Type 0
ArraySpellingStillSpells = (registry : Entries) (f : JsonContent) (j : Data) (t : Tree) → ArraySpells registry t f j → Spells registry t f j

-- ---- of growth

-- what JSON spells in a registry, it spells in every well-formed registry that this one grows to
abbrev pub GrowthKeepsSpelling : Type 0
GrowthKeepsSpelling = (older newer : Entries) (f : JsonContent) (j : Data) (t : Tree)
    → IsWellFormed newer → Grows older newer → Spells older t f j → Spells newer t f j

-- and so does what a text denotes
abbrev pub GrowthKeepsDenoting : Type 0
GrowthKeepsDenoting = (older newer : Entries) (limits : Bounds) (s : Shape) (text : List ℕ) (t : Tree)
    → IsWellFormed newer → Grows older newer → Denotes older limits s text t → Denotes newer limits s text t

-- ---- of refusals

-- a text either denotes a value or is refused, for exactly one reason
pub record HasOneAnswer (registry : Entries) (limits : Bounds) (s : Shape) (text : List ℕ) : Type 0 where
  pub some : ((t : Tree) × Denotes registry limits s text t) ⊎ ((e : JsonFault) × RefusesText registry limits s text e)
  pub once : (e g : JsonFault) → RefusesText registry limits s text e → RefusesText registry limits s text g → e ≡ g

-- this holds for every text, in an orderly registry
abbrev pub TextDenotesOrIsRefused : Type 0
TextDenotesOrIsRefused = (registry : Entries) (limits : Bounds) (s : Shape) (text : List ℕ) → IsOrderly registry → HasOneAnswer registry limits s text

-- ---- the headline

-- texts denote equal values (maps are finite maps) exactly if their bytes are equal
abbrev pub EqualValuesEqualBytes : Type 0
EqualValuesEqualBytes = (registry : Entries) (limits : Bounds) (s : Shape) (first second : List ℕ) (v w : Tree) (b c : List ℕ)
    → Denotes registry limits s first v → Denotes registry limits s second w
    → HasBytes registry limits s first b → HasBytes registry limits s second c → Same v w ↔ (b ≡ c)

-- normalising a normal form gives the same text
abbrev pub NormalTextIsStable : Type 0
NormalTextIsStable = (registry : Entries) (limits : Bounds) (s : Shape) (text out again : List ℕ)
    → Normalises registry limits s text out → Normalises registry limits s out again → again ≡ out

-- decoding bytes to a text and encoding it gives the same bytes
abbrev pub ShownBytesComeBack : Type 0
ShownBytesComeBack = (registry : Entries) (limits : Bounds) (s : Shape) (bytes text again : List ℕ)
    → ShowsBytes registry limits s bytes text → HasBytes registry limits s text bytes × (HasBytes registry limits s text again → again ≡ bytes)

-- every value that a text denotes has a normal form, in a well-formed registry that was read from a text
abbrev pub SomeNormalText : Type 0
SomeNormalText = (written : List ℕ) (registry : Entries) (limits : Bounds) (s : Shape) → WritesRegistry written registry → IsWellFormed registry
    → (text : List ℕ) (t : Tree) → Denotes registry limits s text t → (out : List ℕ) × Normalises registry limits s text out
