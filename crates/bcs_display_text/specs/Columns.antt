-- Text in columns.
use Rattle.std.specs.Prelude.{ℕ, ◌-◌, List, ◌++◌, length, replicate}

-- N spaces
abbrev pub blanks : ℕ → List ℕ
blanks n = replicate n 32

-- `text` padded on the right to `width`; unchanged if it is longer
abbrev pub left_in : ℕ → List ℕ → List ℕ
left_in width text = text ++ blanks (width - length text)

-- `text` padded on the left to `width`; unchanged if it is longer
abbrev pub right_in : ℕ → List ℕ → List ℕ
right_in width text = blanks (width - length text) ++ text
