-- The arguments that clap found.
use Rattle.std.specs.Prelude.{List, [], Option, Bool, codes, is_some, unwrap_or}
use Rattle.std.specs.Str.{bytes_eq}
use Rattle.clap.specs.Words.{Row, Text, first_of}

-- the text of a word, which is empty where there is none
abbrev pub text_or_empty : Option Text → Text
text_or_empty word = unwrap_or word []

-- clap gives an option without a value the text `true` where it was used, and `false` else
abbrev pub is_set : Text → List Row → Bool
is_set name found = bytes_eq (text_or_empty (first_of name found)) (codes "true")

-- whether an argument has a value
abbrev pub has_value : Text → List Row → Bool
has_value name found = is_some (first_of name found)
