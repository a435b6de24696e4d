-- The keys of a map, in the buffer `kept`.
use Rattle.bcs_decode_source.proofs.Prelude.{◌≡◌, ℕ, ◌+◌, ◌-◌, ◌≤◌, List, length, take, drop, take-take, Option, Some, None, refl, sym, ap, ◌∙◌, arith, drop-take, Span, Stands, last_bytes, key_of}
use Rattle.std.specs.List.{slice_range}

pub Stands-begun : (last : Option Span) (begun n : ℕ) → Stands last begun n → begun ≤ n
Stands-begun None begun n h = h
Stands-begun (Some s) begun n h = omega (arith, h.0, h.1, h.2)

pub Stands-more : (last : Option Span) (begun n m : ℕ) → n ≤ m → Stands last begun n → Stands last begun m
Stands-more None begun n m more h = omega arith
Stands-more (Some s) begun n m more h = (h.0, h.1, omega (arith, h.2))

-- a range within a prefix
slice_front : (xs ys : List ℕ) (i j : ℕ) → i ≤ j → j ≤ length xs → take (length xs) ys ≡ xs → slice_range ys i j ≡ slice_range xs i j
slice_front xs ys i j low high front =
    let n = length xs - i in
    let whole : i + n ≡ length xs = omega arith in
    let less : j - i ≤ n = omega arith in
    sym (take-take (j - i) n (drop i ys) less) ∙ ap (take (j - i)) (sym (drop-take i n ys) ∙ ap (drop i) (ap (λ k. take k ys) whole ∙ front))

-- bytes that are appended later don't change the last key
pub last_kept : (last : Option Span) (begun : ℕ) (xs ys : List ℕ) → Stands last begun (length xs) → take (length xs) ys ≡ xs → last_bytes last ys ≡ last_bytes last xs
last_kept None begun xs ys h front = refl
last_kept (Some s) begun xs ys h front = ap Some (slice_front xs ys s.from s.to h.1 h.2 front)

pub same_key : (last : Option Span) (kept key : List ℕ) → last_bytes last kept ≡ Some key → key_of last kept ≡ key
same_key None kept key h = absurd cc
same_key (Some s) kept key h = cc
