-- Laws about the lines of a text.
use Rattle.std.specs.Prelude.{◌≡◌, ◌⊎◌, ℕ, List, [], ◌∷◌, ◌++◌, All}
use Rattle.bcs_io.specs.Lines.{lines_of, HasNoLineFeed}

-- the lines, each followed by a line feed
abbrev pub ended : List (List ℕ) → List ℕ
ended [] = []
ended (l ∷ ls) = l ++ 10 ∷ ended ls

-- the lines, each followed by a line feed, are the text, possibly with one more line feed at its end
abbrev pub LinesGiveTextBack : Type 0
LinesGiveTextBack = (text : List ℕ) → (ended (lines_of text) ≡ text) ⊎ (ended (lines_of text) ≡ text ++ 10 ∷ [])

abbrev pub LinesHaveNoLineFeed : Type 0
LinesHaveNoLineFeed = (text : List ℕ) → All HasNoLineFeed (lines_of text)
