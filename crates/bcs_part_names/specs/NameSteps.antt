-- The specification's view of a `NameStep`.
use Rattle.std.specs.Prelude.{List, map}
use Rattle.bcs_part_names.specs.Names as names
use Rattle.bcs_part_names.specs.declared.name_step.NameStep.{NameStep}
use Rattle.bcs_part_names.specs.declared.name_step.NameStep.TheVariants.{Field, Variant, Inside, Item, Key, EntryValue, EntryKey}

abbrev pub named : NameStep → names.NameStep
named (Field label) = names.field label.now
named (Variant label) = names.variant label.now
named Inside = names.inside
named (Item n) = names.item n
named (Key bytes) = names.key bytes.items
named (EntryValue n) = names.entry_value n
named (EntryKey n) = names.entry_key n

abbrev pub all_named : List NameStep → List names.NameStep
all_named = map named
