-- Terminal color codes: `ESC [`, the parameters of the color and `m` before the text, and `ESC [0m` after it (ECMA-48,
-- SGR).
use Rattle.std.specs.Prelude.{ℕ, List, [], ◌∷◌, ◌++◌, codes}
use Rattle.bcs_display_text.specs.declared.style.Paint.{Paint}
use Rattle.bcs_display_text.specs.declared.style.Paint.TheVariants.{Colored, Plain}

-- the bytes that switch the color on
abbrev pub color_on : Paint → List ℕ → List ℕ
color_on Plain color = []
color_on Colored color = 27 ∷ 91 ∷ color ++ codes "m"

-- the bytes that reset it
abbrev pub color_off : Paint → List ℕ
color_off Plain = []
color_off Colored = 27 ∷ codes "[0m"
