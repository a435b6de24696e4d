-- Conjunctions of two tests.
use Rattle.bcs_registry_json.proofs.Prelude.{◌≡◌, ◌&&◌, ◌||◌, Bool, true, false, refl}

pub and-false_left : (a b : Bool) → a ≡ false → (a && b) ≡ false
and-false_left a b h = rw h

pub and-false_right : (a b : Bool) → b ≡ false → (a && b) ≡ false
and-false_right true b h = h
and-false_right false b h = refl

pub and-true_parts : (a b : Bool) → (a && b) ≡ true → (a ≡ true) × (b ≡ true)
and-true_parts true b h = (refl, h)
and-true_parts false b h = absurd cc

pub or-true_right : (a b : Bool) → b ≡ true → (a || b) ≡ true
or-true_right true b h = refl
or-true_right false b h = h
