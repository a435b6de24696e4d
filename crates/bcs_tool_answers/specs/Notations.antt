-- The steps that an argument gives, as PATH or as names or a pointer in its place.
use Rattle.std.specs.Prelude.{◌≡◌, ℕ, List, true, false}
use Rattle.bcs_decode_parts.specs.Parts.{Step}
use Rattle.bcs_decode_parts.specs.Path.{SpellsNoPath, SpellsPath}
use Rattle.bcs_part_names.specs.Names.{is_name}
use Rattle.bcs_part_names.specs.Pointers.{is_pointer}
use Rattle.bcs_tool_command_line.specs.declared.notation.Notation.{Notation}
use Rattle.bcs_tool_command_line.specs.declared.notation.Notation.TheVariants.{Path, Names, Pointer}

-- the steps of PATH. For valid names or a valid pointer, any steps: which part they mean is for display, and isn't
-- specified
abbrev pub SpellsSteps : Notation → List ℕ → List Step → Type 0
SpellsSteps Path word path = SpellsPath word path
SpellsSteps Names word path = is_name word ≡ true
SpellsSteps Pointer word path = is_pointer word ≡ true

-- the argument is invalid: it gives no steps
abbrev pub SpellsNoSteps : Notation → List ℕ → Type 0
SpellsNoSteps Path word = SpellsNoPath word
SpellsNoSteps Names word = is_name word ≡ false
SpellsNoSteps Pointer word = is_pointer word ≡ false
