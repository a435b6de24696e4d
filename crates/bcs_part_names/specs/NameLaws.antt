-- Laws of names.
use Rattle.std.specs.Prelude.{◌≡◌, ◌≢◌, ◌<◌, ◌^◌, ℕ, List, [], Some, length}
use Rattle.std.specs.List.{All}
use Rattle.hex.specs.Hex.{IsBytes}
use Rattle.bcs_part_labels.specs.Labels.{label as label_of}
use Rattle.bcs_part_names.specs.Names.{NameStep, entry_key, entry_value, field, inside, item, key, label_len, name_steps, name_text, variant}

-- the text is a whole label
abbrev pub IsLabel : List ℕ → Type 0
IsLabel text = (text ≢ []) × (label_len text ≡ length text)

abbrev pub IsStep : NameStep → Type 0
IsStep (field label) = IsLabel label
IsStep (variant label) = IsLabel label
IsStep inside = Unit {0}
IsStep (item n) = n < 2 ^ 64
IsStep (key bytes) = IsBytes bytes
IsStep (entry_value n) = n < 2 ^ 64
IsStep (entry_key n) = n < 2 ^ 64

-- every list of steps comes back from its name
abbrev pub NamesComeBack : Type 0
NamesComeBack = (steps : List NameStep) → All IsStep steps → name_steps (name_text steps) ≡ Some steps

-- and every name is that of its steps: no two names have the same steps
abbrev pub NamesAreExact : Type 0
NamesAreExact = (name : List ℕ) (steps : List NameStep) → name_steps name ≡ Some steps → name_text steps ≡ name

-- the label of any name is a label, so that a printed name can be read
abbrev pub LabelsAreLabels : Type 0
LabelsAreLabels = (name : List ℕ) → IsLabel (label_of name)
