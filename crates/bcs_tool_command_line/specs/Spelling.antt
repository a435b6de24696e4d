-- Arguments as clap gets them.
use Rattle.std.specs.Prelude.{◌&&◌, List, [], ◌∷◌, Bool, codes, not, true, if◌then◌else◌}
use Rattle.std.specs.Str.{bytes_eq}
use Rattle.clap.specs.Words.{Text}

-- whether options may still come: not after `--`
abbrev pub may_be_option : Bool → Text → Bool
may_be_option goes_on word = goes_on && not (bytes_eq word (codes "--"))

-- `--color` without a value means `--color=always`. clap would use the next argument as its value
abbrev pub spelled_word : Bool → Text → Text
spelled_word may_be word = if may_be && bytes_eq word (codes "--color") then codes "--color=always" else word

-- the arguments in full, if options may come among them
unfoldable pub spelled_from : Bool → List Text → List Text
spelled_from goes_on [] = []
spelled_from goes_on (word ∷ words) = spelled_word (may_be_option goes_on word) word ∷ spelled_from (may_be_option goes_on word) words

abbrev pub spelled : List Text → List Text
spelled words = spelled_from true words
