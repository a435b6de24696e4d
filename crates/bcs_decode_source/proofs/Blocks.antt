-- Reading a byte string in blocks.
use Rattle.bcs_decode_source.proofs.Prelude.{◌≡◌, ℕ, ◌+◌, ◌-◌, ◌≤◌, true, List, [], ◌++◌, length, drop, length-append, take-add, take, take_all, length-drop, append_assoc, Option, Ok, Err, inl, inr, refl, sym, ap, ◌∙◌, arith, le-ltb, lt-ltb, cases_lt, drop-drop, drop_all, drop_at, take_at, append-nil, DecodeFault, Progress, Read, follow, give, bytes_here, is_told, rest_of, FindsFault}
use Rattle.bcs_decode_source.proofs.SourceSteps.{FindsFault-whole}

abbrev pub with_front : List ℕ → Read (List ℕ) → Read (List ℕ)
with_front xs r = follow r (λ ys. give (xs ++ ys))

pub bytes_split : (k n p m : ℕ) (b : List ℕ) → k ≤ n → bytes_here n p m b ≡ follow (bytes_here k p m b) (λ xs q l c. with_front xs (bytes_here (n - k) q l c))
unfolding bytes_here give
bytes_split k n p m b h = elim (cases_lt (length b) k) [
  | inl short ↦ rw (lt-ltb (length b) k short, lt-ltb (length b) n (omega arith)) refl
  | inr long ↦ rw (le-ltb (length b) k long) (elim (cases_lt (length b) n) [
    | inl few ↦
        let rest = length-drop k b in
        let far : p + k + length (drop k b) ≡ p + length b = omega arith in
        rw (lt-ltb (length b) n few, lt-ltb (length (drop k b)) (n - k) (omega arith), far) refl
    | inr all ↦
        let rest = length-drop k b in
        let whole : k + (n - k) ≡ n = omega arith in
        let far : p + k + (n - k) ≡ p + n = omega arith in
        rw (le-ltb (length b) n all, le-ltb (length (drop k b)) (n - k) (omega arith), far, drop-drop (n - k) k b, ← take-add k (n - k) b, whole) refl
  ])
]

-- the blocks read so far, if the content is known
abbrev pub BytesSoFar : ℕ → List ℕ → Option (List ℕ) → Progress → Option (List ℕ) → Progress → Type 0
BytesSoFar n xs c p d q = is_told c ≡ true → (bytes_here n p.place p.nodes (rest_of c) ≡ with_front xs (bytes_here (n - length xs) q.place q.nodes (rest_of d))) × (is_told d ≡ true)

with_none : (r : Read (List ℕ)) → with_front [] r ≡ r
unfolding give
with_none (Ok x) = refl
with_none (Err e) = refl

with_more : (xs ys : List ℕ) (r : Read (List ℕ)) → with_front xs (with_front ys r) ≡ with_front (xs ++ ys) r
unfolding give
with_more xs ys (Ok x) = ap (λ l. Ok (l, x.1, x.2, x.3)) (sym (append_assoc xs ys x.0))
with_more xs ys (Err e) = refl

pub bytes_none : (n : ℕ) (c : Option (List ℕ)) (p : Progress) → BytesSoFar n [] c p c p
bytes_none n c p told =
    let all : n - 0 ≡ n = omega arith in
    (rw all (sym (with_none (bytes_here n p.place p.nodes (rest_of c)))), told)

pub bytes_more : (n k : ℕ) (xs ys : List ℕ) (c d e : Option (List ℕ)) (p q r : Progress) → k ≤ n - length xs → length xs ≤ n → length ys ≡ k → BytesSoFar n xs c p d q
    → (is_told d ≡ true → (bytes_here k q.place q.nodes (rest_of d) ≡ Ok (ys, r.place, r.nodes, rest_of e)) × (is_told e ≡ true)) → BytesSoFar n (xs ++ ys) c p e r
bytes_more n k xs ys c d e p q r few within long h j told =
    let a = h told in
    let b = j a.1 in
    let all = length-append xs ys in
    let left : n - length xs - k ≡ n - length (xs ++ ys) = omega arith in (
      a.0 ∙ ap (with_front xs) (bytes_split k (n - length xs) q.place q.nodes (rest_of d) few ∙ ap (λ s. follow s (λ zs o l t. with_front zs (bytes_here (n - length xs - k) o l t))) b.0)
          ∙ with_more xs ys (bytes_here (n - length xs - k) r.place r.nodes (rest_of e))
          ∙ ap (λ i. with_front (xs ++ ys) (bytes_here i r.place r.nodes (rest_of e))) left,
      b.1,
    )

pub bytes_done : (n : ℕ) (xs : List ℕ) (c d : Option (List ℕ)) (p q : Progress) → n ≤ length xs → BytesSoFar n xs c p d q
    → is_told c ≡ true → (bytes_here n p.place p.nodes (rest_of c) ≡ Ok (xs, q.place, q.nodes, rest_of d)) × (is_told d ≡ true)
unfolding bytes_here give
bytes_done n xs c d p q all h told =
    let a = h told in
    let none : n - length xs ≡ 0 = omega arith in
    let far : q.place + 0 ≡ q.place = omega arith in
    (a.0 ∙ rw (none, le-ltb (length (rest_of d)) 0 (omega arith), far, append-nil xs) refl, a.1)

pub bytes_refused : (x : DecodeFault) (n k : ℕ) (xs : List ℕ) (c d : Option (List ℕ)) (p q : Progress) → k ≤ n - length xs → BytesSoFar n xs c p d q
    → FindsFault x d q (bytes_here k) → FindsFault x c p (bytes_here n)
bytes_refused x n k xs c d p q few h =
    FindsFault-whole x c d p q (bytes_here n) (bytes_here k) (λ told. (h told).1)
    (λ e o told stop. (h told).0 ∙ ap (with_front xs) (bytes_split k (n - length xs) q.place q.nodes (rest_of d) few ∙ ap (λ s. follow s (λ zs o' l t. with_front zs (bytes_here (n - length xs - k) o' l t))) stop))

-- a vector whose tail has been filled
pub tail_filled : (vs xs buf zs : List ℕ) (s n : ℕ) → s ≡ length vs → xs ≡ vs ++ zs → length buf ≡ length zs → n ≡ length xs
    → take n (take s xs ++ (buf ++ drop (length buf) (drop s xs)) ++ drop (length (take s xs ++ (buf ++ drop (length buf) (drop s xs)))) xs) ≡ vs ++ buf
tail_filled vs xs buf zs s n start is same all =
    let front : take s xs ≡ vs = ap (take s) is ∙ take_at vs zs s (sym start) in
    let behind : drop s xs ≡ zs = ap (drop s) is ∙ drop_at vs zs s (sym start) in
    let none : drop (length buf) zs ≡ [] = drop_all (length buf) zs (omega (arith, same)) in
    let long : length xs ≡ length (vs ++ buf) = ap length is ∙ length-append vs zs ∙ ap (λ k. length vs + k) (sym same) ∙ sym (length-append vs buf) in
    let over : drop (length (vs ++ buf)) xs ≡ [] = drop_all (length (vs ++ buf)) xs (omega (arith, long)) in
    rw (front, behind, none, append-nil buf, over, append-nil (vs ++ buf)) (take_all n (vs ++ buf) (omega (arith, all, long)))
