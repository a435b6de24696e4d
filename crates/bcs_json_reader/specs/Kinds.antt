-- JSON, taken apart by its kind.
use Rattle.std.specs.Prelude.{Option, Some, None, codes, string_bytes}
use Rattle.serde_json.specs.Data.{Data, null, string, array, object, no_members, member}
use Rattle.serde_json.specs.View.{view, items_view}
use Rattle.bcs_json_reader.specs.declared.objects.EnumJson.{EnumJson}
use Rattle.bcs_json_reader.specs.declared.objects.EnumJson.TheVariants.{Name, Member}
use Rattle.bcs_json_reader.specs.declared.arrays.ListJson.{ListJson}
use Rattle.bcs_json_reader.specs.declared.arrays.ListJson.TheVariants.{Array, Text}

-- the JSON of an option with this content, or of an empty one
abbrev pub option_json : Option Data → Data
option_json None = null
option_json (Some part) = object (member (codes "some") part no_members)

-- the JSON of a list: an array, or a string
abbrev pub list_json : ListJson → Data
list_json (Array elements) = array (items_view elements.items)
list_json (Text text) = string (string_bytes text)

-- the JSON of an enum: the name of a variant, alone or with the payload
abbrev pub enum_json : EnumJson → Data
enum_json (Name name) = string (string_bytes name)
enum_json (Member name part) = object (member (string_bytes name) (view part) no_members)
