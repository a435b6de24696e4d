-- A buffer that is filled in several calls.
use Rattle.bcs_io.proofs.Prelude.{◌≡◌, ℕ, ◌+◌, ◌≤◌, List, ◌++◌, length, take, length-take-le, sym, ap, ◌∙◌, take-append-le, take-append-add, put_mid, post_of}

-- a call appends more bytes
pub filled_more : (a k n : ℕ) (xs ys : List ℕ) → a ≤ length xs → n ≤ length ys → take (a + n) (put_mid a k xs ys) ≡ take a xs ++ take n ys
filled_more a k n xs ys h le =
    let front : length (take a xs) ≡ a = length-take-le a xs h in
    ap (λ (i : ℕ). take (i + n) (put_mid a k xs ys)) (sym front) ∙ take-append-add (take a xs) (ys ++ post_of a k xs) n
    ∙ ap (λ (l : List ℕ). take a xs ++ l) (take-append-le n ys (post_of a k xs) le)
