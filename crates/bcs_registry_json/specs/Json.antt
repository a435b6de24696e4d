-- The JSON value that serde_json parses from a document.
use Rattle.std.specs.Prelude.{◌≡◌, ℕ, List, Some, IsUtf8}
use Rattle.serde_json.specs.Data.{Data}
use Rattle.serde_json.specs.Read.{read}

-- the document is UTF-8, and is parsed as d
abbrev pub IsJson : List ℕ → Data → Type 0
IsJson text d = IsUtf8 text × (read text ≡ Some d)

-- the document isn't JSON
abbrev pub IsNotJson : List ℕ → Type 0
IsNotJson text = (d : Data) → ¬ IsJson text d
