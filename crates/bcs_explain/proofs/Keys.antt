-- A key is read like any value, and then compared with the one before it.
use Rattle.bcs_explain.proofs.Prelude.{◌≡◌, ℕ, ◌-◌, List, take, Option, Ok, Err, refl, Reason, Parser, give, key_after, key_here}

pub key_err : (f : Parser (Unit {0})) (last : Option (List ℕ)) (p m : ℕ) (b : List ℕ) (e : Reason × ℕ) → f p m b ≡ Err e → key_here f last p m b ≡ Err e
unfolding key_here
key_err f last p m b e h = rw h refl

pub key_wrong : (f : Parser (Unit {0})) (last : Option (List ℕ)) (p m : ℕ) (b : List ℕ) (t : Unit {0}) (q l : ℕ) (c bytes : List ℕ) (e : Reason × ℕ) → f p m b ≡ Ok (t, q, l, c) → bytes ≡ take (q - p) b
    → ((i j : ℕ) (r : List ℕ) → key_after last bytes p i j r ≡ Err e) → key_here f last p m b ≡ Err e
unfolding key_here
key_wrong f last p m b t q l c bytes e h is wrong = rw (h, ← is, wrong q l c) refl

pub key_right : (f : Parser (Unit {0})) (last : Option (List ℕ)) (p m : ℕ) (b : List ℕ) (t : Unit {0}) (q l : ℕ) (c bytes : List ℕ) → f p m b ≡ Ok (t, q, l, c) → bytes ≡ take (q - p) b
    → ((i j : ℕ) (r : List ℕ) → key_after last bytes p i j r ≡ Ok (tt, i, j, r)) → key_here f last p m b ≡ Ok ((t, bytes), q, l, c)
unfolding key_here give
key_right f last p m b t q l c bytes h is right = rw (h, ← is, right q l c) refl
