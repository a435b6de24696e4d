-- Skipping a value that contains values, in the steps in which a source is read.
use Rattle.bcs_decode_source.proofs.Prelude.{◌≡◌, ℕ, zero, suc, Bool, true, false, if◌then◌else◌, List, Ok, Err, refl, ap, Shape, Entries, shape_of, Reason, Parser, chain, give, node, fail_here, skipping, skip, unsupported_here, chained_bare, flag_node, option_node, unsupported_leaf}
use Rattle.bcs_registry_model.specs.declared.format.Format as format

module _ (registry : Entries) (d : ℕ) (f : format.Format) (p m : ℕ) (b : List ℕ) where
  -- replaces the shape by an equal one
  pub past_shape : (s : Shape) → shape_of f ≡ s → skip registry d (shape_of f) p m b ≡ skip registry d s p m b
  past_shape s h = ap (λ (s : Shape). skip registry d s p m b) h

-- the content of an option, if there is one
abbrev pub held_past : Parser (Unit {0}) → Bool → Parser (Unit {0})
held_past f some = if some then chain f (λ _. give tt) else give tt

pub some_is : (f : Parser (Unit {0})) (some : Bool) (p m : ℕ) (b : List ℕ) → some ≡ true → held_past f some p m b ≡ f p m b
some_is f some p m b is = rw is (chained_bare f p m b)

pub absent_is : (f : Parser (Unit {0})) (some : Bool) (p m : ℕ) (b : List ℕ) → some ≡ false → held_past f some p m b ≡ Ok (tt, p, m, b)
unfolding give
absent_is f some p m b is = rw is refl

pub option_on : (f : Parser (Unit {0})) (p m : ℕ) (b : List ℕ) (some : Bool) (q l : ℕ) (c : List ℕ) → flag_node p m b ≡ Ok (some, q, l, c) → option_node skipping f p m b ≡ held_past f some q l c
unfolding option_node chain
option_on f p m b some q l c h = rw h refl

-- an unsupported format stops at the same place, whether or not a value is built
pub unsupported_is : (p m : ℕ) (b : List ℕ) (e : Reason × ℕ) → unsupported_leaf p m b ≡ Err e → unsupported_here p m b ≡ Err e
unfolding node unsupported_here chain give fail_here
unsupported_is p zero b e h = cc
unsupported_is p (suc m) b e h = cc
