-- The path to a place in a JSON document, as a JSON Pointer (RFC 6901).
use Rattle.std.specs.Prelude.{ℕ, List, ◌∷◌, decimal, flat_map}
use Rattle.bcs_json_spec.specs.Place.{PointerStep, item, member}
use Rattle.bcs_display_mistakes.specs.Marked.{marked}

-- a step: `/`, followed by a decimal number or a name
abbrev pub pointer_step : PointerStep → List ℕ
pointer_step (item n) = 47 ∷ decimal n
pointer_step (member name) = 47 ∷ marked name

-- the steps one after the other; empty for the whole document
abbrev pub pointer : List PointerStep → List ℕ
pointer = flat_map pointer_step
