-- Skipping bytes in blocks.
use Rattle.bcs_decode_source.proofs.Prelude.{◌≡◌, ℕ, ◌+◌, ◌-◌, ◌≤◌, List, length, take, length-take, Ok, Err, inl, inr, refl, ap, ◌∙◌, arith, le-ltb, lt-ltb, cases_lt, Reason, Read, follow, chain, give, bytes_here, bytes_run}
use Rattle.bcs_decode_source.proofs.Blocks.{with_front, bytes_split}

abbrev bare : Read (List ℕ) → Read (Unit {0})
bare r = follow r (λ _. give tt)

without : (xs : List ℕ) (r : Read (List ℕ)) → bare (with_front xs r) ≡ bare r
unfolding give
without xs (Ok x) = refl
without xs (Err e) = refl

past : (n : ℕ) (r : Read (List ℕ)) → bare (follow r (λ xs q l c. with_front xs (bytes_here n q l c))) ≡ follow r (λ _. bytes_run n)
unfolding bytes_run chain
past n (Ok x) = without x.0 (bytes_here n x.1 x.2 x.3)
past n (Err e) = refl

module _ (k n p m : ℕ) (b : List ℕ) (few : k ≤ n) where
  bytes_block : bytes_run n p m b ≡ follow (bytes_here k p m b) (λ _. bytes_run (n - k))
  unfolding bytes_run chain
  bytes_block = ap bare (bytes_split k n p m b few) ∙ past (n - k) (bytes_here k p m b)

  pub bytes_on : (xs : List ℕ) (q l : ℕ) (t : List ℕ) → bytes_here k p m b ≡ Ok (xs, q, l, t) → bytes_run n p m b ≡ bytes_run (n - k) q l t
  bytes_on xs q l t h = bytes_block ∙ rw h refl

  pub bytes_end_early : (e : Reason × ℕ) → bytes_here k p m b ≡ Err e → bytes_run n p m b ≡ Err e
  bytes_end_early e h = bytes_block ∙ rw h refl

pub bytes_end : (n p m : ℕ) (b : List ℕ) → n ≡ 0 → bytes_run n p m b ≡ Ok (tt, p, m, b)
unfolding bytes_run chain bytes_here give
bytes_end n p m b none =
    let place : p + 0 ≡ p = omega arith in
    rw (none, le-ltb (length b) 0 (omega arith), place) refl

-- ---- which bytes were skipped

module _ (n p m : ℕ) (b : List ℕ) where
  pub bytes_were : (q l : ℕ) (t : List ℕ) → bytes_run n p m b ≡ Ok (tt, q, l, t) → (bytes_here n p m b ≡ Ok (take n b, q, l, t)) × (length (take n b) ≡ n)
  unfolding bytes_run chain bytes_here give
  bytes_were q l t h = elim (cases_lt (length b) n) [
    | inl short ↦ absurd (let none = rw (lt-ltb (length b) n short) at h in cc)
    | inr long ↦
        let read = rw (le-ltb (length b) n long) at h in
        (rw (le-ltb (length b) n long) (ap (λ r. follow r (λ _. give (take n b))) read), omega (arith, length-take n b))
  ]

  pub bytes_were_not : (e : Reason × ℕ) → bytes_run n p m b ≡ Err e → bytes_here n p m b ≡ Err e
  unfolding bytes_run chain bytes_here give
  bytes_were_not e h = elim (cases_lt (length b) n) [
    | inl short ↦ (let stop = rw (lt-ltb (length b) n short) at h in rw (lt-ltb (length b) n short) (ap (λ r. follow r (λ _. give (take n b))) stop))
    | inr long ↦ absurd (let none = rw (le-ltb (length b) n long) at h in cc)
  ]
