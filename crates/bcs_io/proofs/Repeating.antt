-- Copies of one byte, some of them in a buffer.
use Rattle.bcs_io.proofs.Prelude.{◌≡◌, ℕ, ◌+◌, ◌-◌, ◌≤◌, List, ◌++◌, take, replicate, sym, ap, ◌∙◌, arith, subst, replicate-append-replicate, length-replicate, take-append_seam}

-- of m copies, n are at the start of a buffer, and the others remain
pub replicate_front : (m n byte : ℕ) (tail : List ℕ) → n ≤ m → replicate m byte ≡ take n (replicate n byte ++ tail) ++ replicate (m - n) byte
replicate_front m n byte tail h =
    let all : m ≡ n + (m - n) = omega arith in
    let front : take n (replicate n byte ++ tail) ≡ replicate n byte =
    subst (λ k. take k (replicate n byte ++ tail) ≡ replicate n byte) (length-replicate n byte) (take-append_seam (replicate n byte) tail) in
    ap (λ k. replicate k byte) all ∙ sym (replicate-append-replicate n (m - n) byte) ∙ ap (λ xs. xs ++ replicate (m - n) byte) (sym front)
