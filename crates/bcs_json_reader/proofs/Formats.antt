-- Formats that contain formats, and how many levels these have.
use Rattle.bcs_json_reader.proofs.Prelude.{◌≡◌, ℕ, zero, suc, ◌≤◌, List, [], ◌∷◌, map, drop, Result, ap, sym, subst, arith, field_shapes, shape_of, formats_shapes, field_of, levels, shapes_levels, Format, Named, JsonFault, Read, Reports}

-- replaces a reading by an equal one
pub reports_as : {X A : Type 0} (v : X → A) (r : Result X JsonFault) (x y : Read A) → x ≡ y → Reports v r y → Reports v r x
reports_as v r x y h t = subst (Reports v r) (sym h) t

-- ---- levels

pub levels_here : (fs : List Format) (i : ℕ) (f : Format) (gs : List Format) → drop i fs ≡ f ∷ gs → levels (shape_of f) ≤ shapes_levels (formats_shapes fs)
levels_here fs zero f gs h = let same = ap (λ hs. shapes_levels (formats_shapes hs)) h in omega (arith, same)
levels_here [] (suc i) f gs h = absurd cc
levels_here (g ∷ fs) (suc i) f gs h = omega (arith, levels_here fs i f gs h)

pub field_levels_here : (fs : List (Named Format)) (i : ℕ) (f : Named Format) (gs : List (Named Format)) → drop i fs ≡ f ∷ gs
    → levels (shape_of f.value) ≤ shapes_levels (field_shapes (map field_of fs))
field_levels_here fs zero f gs h = let same = ap (λ hs. shapes_levels (field_shapes (map field_of hs))) h in omega (arith, same)
field_levels_here [] (suc i) f gs h = absurd cc
field_levels_here (g ∷ fs) (suc i) f gs h = omega (arith, field_levels_here fs i f gs h)
