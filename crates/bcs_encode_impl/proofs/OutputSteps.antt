-- Single steps of an output.
use Rattle.bcs_encode_impl.proofs.Prelude.{◌≡◌, ℕ, ◌∷◌, [], ◌++◌, Bool, true, false, List, Result, Ok, Err, if◌then◌else◌, refl, sym, ap, subst, ◌∙◌, OnErr, is_ok, true≢false, ltb-true, w8, holds_unsigned, le, width_of, Width, W1, chain, unsigned_written, le-w8, NotOfFormat, RepeatedKey, is_told, Extent, Incomplete}

-- the encoding of a one-byte number
pub byte_written : (w : Width) (n : ℕ) (b : List ℕ) → w ≡ W1 → holds_unsigned (width_of w) n ≡ true → unsigned_written (width_of w) n b ≡ Ok (b ++ (n ∷ []))
byte_written w n b is holds =
    let held : holds_unsigned w8 n ≡ true = subst (λ (x : Width). holds_unsigned (width_of x) n ≡ true) is holds in
    ap (λ (x : Width). unsigned_written (width_of x) n b) is
    ∙ ap (λ (t : Bool). if t then Ok (b ++ le w8 n) else Err NotOfFormat) held
    ∙ ap (λ (x : List ℕ). Ok (b ++ x)) (le-w8 n (ltb-true n 256 held))

-- appending to other bytes, or a fault
pub chosen_behind : (differ : Bool) (b c : List ℕ) → (if differ then Ok (b ++ c) else Err RepeatedKey) ≡ chain (if differ then Ok c else Err RepeatedKey) (λ d. Ok (b ++ d))
chosen_behind true b c = refl
chosen_behind false b c = refl

-- if a step gives up, its operation failed
pub failed : {A E : Type 0} (r : Result A E) (P : Type 0) (old new : Extent) (done : Bool) → done ≡ is_ok r → new ≡ (if done then old else Incomplete) → OnErr r P
    → is_told old ≡ true → is_told new ≡ false → P
failed (Ok a) P old new done is extent h told untold =
    absurd (true≢false (sym told ∙ sym (ap is_told (extent ∙ ap (λ (b : Bool). if b then old else Incomplete) is)) ∙ untold))
failed (Err e) P old new done is extent h told untold = h
