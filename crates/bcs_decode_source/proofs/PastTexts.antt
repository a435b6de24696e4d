-- Validating strings in blocks.
use Rattle.bcs_decode_source.proofs.Prelude.{◌≡◌, ℕ, ◌+◌, ◌-◌, ◌<◌, ◌≤◌, true, List, [], ◌++◌, length, take, drop, take_all, take-add, length-append, length-take, length-drop, append_assoc, slice_range, IsUtf8, Option, Ok, Err, inl, inr, refl, sym, ap, subst, ◌∙◌, arith, ◌⊎◌, append-nil, IsUtf8-append, IsUtf8-nil, utf8_valid_len, BadUtf8, DecodeFault, chain, give, bytes_here, text_here, Progress, is_told, rest_of, FindsFault, bytes_run, text_run, BeginsNoText}
use Rattle.bcs_decode_source.proofs.Blocks.{with_front, BytesSoFar, bytes_none, bytes_more, bytes_refused}
use Rattle.bcs_decode_source.proofs.Chains.{text_right, text_wrong}
use Rattle.bcs_decode_source.proofs.SourceSteps.{FindsFault-whole}
use Rattle.bcs_decode_source.proofs.StreamedRows.{Found}
use Rattle.bcs_decode_source.proofs.PastBlocks.{bytes_were, bytes_were_not}
use Rattle.bcs_decode_source.proofs.Utf8Fronts.{nothing_behind, no_text_more, text_ends}

-- of a string of `n` bytes, `done` were read; the first `good` are valid UTF-8, and the others begin no valid string
-- and are at the start of the block
pub record TextSoFar (n good done : ℕ) (block : List ℕ) (c : Option (List ℕ)) (p : Progress) (d : Option (List ℕ)) (q : Progress) : Type 0 where
  pub front : List ℕ
  pub text : IsUtf8 front
  pub size : length front ≡ good
  pub order : good ≤ done
  pub within : done ≤ n
  pub held : length (take (done - good) block) ≡ done - good
  pub behind : BeginsNoText (take (done - good) block)
  pub far : q.place ≡ p.place + done
  pub sees : BytesSoFar n (front ++ take (done - good) block) c p d q

pub text_none : (n : ℕ) (block : List ℕ) (c : Option (List ℕ)) (p : Progress) → TextSoFar n 0 0 block c p c p
text_none n block c p = record {
  front = [];
  text = IsUtf8-nil;
  size = refl;
  order = omega arith;
  within = omega arith;
  held = refl;
  behind = nothing_behind (take 0 block) refl;
  far = omega arith;
  sees = bytes_none n c p;
}

-- carried-over bytes followed by new ones, split into valid UTF-8 and a rest
joined : (front old new : List ℕ) (held size valid : ℕ) → take held new ≡ take held old → valid ≤ held + size
    → (front ++ take held old) ++ slice_range new held (held + size) ≡ (front ++ take valid new) ++ slice_range new valid (held + size)
joined front old new held size valid same few =
    let cut : held + size - held ≡ size = omega arith in
    let whole : valid + (held + size - valid) ≡ held + size = omega arith in
    append_assoc front (take held old) (slice_range new held (held + size))
    ∙ ap (λ l. front ++ (l ++ slice_range new held (held + size))) (sym same)
    ∙ ap (λ i. front ++ (take held new ++ take i (drop held new))) cut
    ∙ ap (λ l. front ++ l) (sym (take-add held size new) ∙ ap (λ i. take i new) (sym whole) ∙ take-add valid (held + size - valid) new)
    ∙ sym (append_assoc front (take valid new) (slice_range new valid (held + size)))

module _ (n good done : ℕ) (block : List ℕ) (c d : Option (List ℕ)) (p q : Progress) (h : TextSoFar n good done block c p d q) where
  long : length (h.front ++ take (done - good) block) ≡ done
  long = length-append h.front (take (done - good) block) ∙ omega (arith, h.size, h.held, h.order)

  -- a block was read, and `valid` bytes of carried-over and new ones together are valid
  pub text_more : (size valid : ℕ) (new moved : List ℕ) (e : Option (List ℕ)) (r : Progress) → size ≤ n - done → (done - good) + size ≤ length new → take (done - good) new ≡ take (done - good) block
      → valid ≤ (done - good) + size → IsUtf8 (take valid new) → take ((done - good) + size - valid) moved ≡ slice_range new valid ((done - good) + size)
      → BeginsNoText (slice_range new valid ((done - good) + size)) → r.place ≡ q.place + size
      → (is_told d ≡ true → (bytes_here size q.place q.nodes (rest_of d) ≡ Ok (slice_range new (done - good) ((done - good) + size), r.place, r.nodes, rest_of e)) × (is_told e ≡ true))
      → TextSoFar n (good + valid) (done + size) moved c p e r
  text_more size valid new moved e r few room same low right is none far read =
      let part : length (slice_range new (done - good) ((done - good) + size)) ≡ size = omega (arith, length-take ((done - good) + size - (done - good)) (drop (done - good) new), length-drop (done - good) new) in
      let rest : length (slice_range new valid ((done - good) + size)) ≡ (done - good) + size - valid = omega (arith, length-take ((done - good) + size - valid) (drop valid new), length-drop valid new) in
      let left : (done + size) - (good + valid) ≡ (done - good) + size - valid = omega (arith, h.order) in
      record {
        front = h.front ++ take valid new;
        text = IsUtf8-append h.front (take valid new) h.text right;
        size = length-append h.front (take valid new) ∙ omega (arith, h.size, length-take valid new);
        order = omega (arith, h.order);
        within = omega (arith, h.within);
        held = ap (λ i. length (take i moved)) left ∙ ap length is ∙ rest ∙ omega (arith, h.order);
        behind = subst (λ i. BeginsNoText (take i moved)) (sym left) (subst BeginsNoText (sym is) none);
        far = omega (arith, h.far);
        sees = subst (λ l. BytesSoFar n l c p e r) (joined h.front block new (done - good) size valid same low ∙ ap (λ l. (h.front ++ take valid new) ++ l) (sym is) ∙ ap (λ i. (h.front ++ take valid new) ++ take i moved) (sym left))
            (bytes_more n size (h.front ++ take (done - good) block) (slice_range new (done - good) ((done - good) + size)) c d e p q r (omega (arith, long)) (omega (arith, long, h.within)) part h.sees read);
      }

  -- reading a block fails
  pub text_refused : (x : DecodeFault) (size : ℕ) → size ≤ n - done → FindsFault x d q (bytes_here size) → FindsFault x c p (text_run n)
  unfolding text_run text_here chain
  text_refused x size few refused =
      FindsFault-whole x c c p p (text_run n) (bytes_here n) (λ told. told) (λ e o told stop. rw stop refl)
      (bytes_refused x n size (h.front ++ take (done - good) block) c d p q (omega (arith, long)) h.sees refused)

  -- the remaining bytes are missing
  pub text_cut : (x : DecodeFault) → FindsFault x d q (bytes_run (n - done)) → FindsFault x c p (text_run n)
  unfolding text_run text_here chain
  text_cut x refused =
      FindsFault-whole x c d p q (text_run n) (bytes_run (n - done)) (λ told. (h.sees told).1)
      (λ e o told stop.
      (let left : n - length (h.front ++ take (done - good) block) ≡ n - done = omega (arith, long) in
      let none : bytes_here (n - length (h.front ++ take (done - good) block)) q.place q.nodes (rest_of d) ≡ Err (e, o) = rw left (bytes_were_not (n - done) q.place q.nodes (rest_of d) (e, o) stop) in
      let whole = (h.sees told).0 ∙ ap (with_front (h.front ++ take (done - good) block)) none in
      rw whole refl)) refused

  module _ (e : Option (List ℕ)) (r : Progress) (others : is_told d ≡ true → (bytes_run (n - done) q.place q.nodes (rest_of d) ≡ Ok (tt, r.place, r.nodes, rest_of e)) × (is_told e ≡ true)) where
    -- the bytes of the string that haven't been read
    abbrev tail : List ℕ
    tail = take (n - done) (rest_of d)

    read_all : is_told c ≡ true → (bytes_here n p.place p.nodes (rest_of c) ≡ Ok ((h.front ++ take (done - good) block) ++ tail, r.place, r.nodes, rest_of e)) × (length tail ≡ n - done)
    unfolding give
    read_all told =
        let left : n - length (h.front ++ take (done - good) block) ≡ n - done = omega (arith, long) in
        let were = bytes_were (n - done) q.place q.nodes (rest_of d) r.place r.nodes (rest_of e) (others (h.sees told).1).0 in
        ((h.sees told).0 ∙ rw (left, were.0) refl, were.1)

    pub text_good : good ≡ n → Found tt (text_run n) c e p r
    unfolding text_run chain give
    text_good all told =
        let read = read_all told in
        let none : (h.front ++ take (done - good) block) ++ tail ≡ h.front =
        append_assoc h.front (take (done - good) block) tail
        ∙ rw (empty (take (done - good) block) (omega (arith, h.held, h.within)), empty tail (omega (arith, read.1, h.order, h.within))) (append-nil h.front) in
        let right = text_right n p.place p.nodes (rest_of c) _ r.place r.nodes (rest_of e) read.0 (subst IsUtf8 (sym none) h.text) in
        (rw right refl, (others (h.sees told).1).1)
      where
        empty : (s : List ℕ) → length s ≡ 0 → s ≡ []
        empty s zero_long = sym (take_all 0 s (omega arith))

    pub text_bad : good < n → (done ≡ n) ⊎ (3 < done - good) → is_told c ≡ true → text_run n p.place p.nodes (rest_of c) ≡ Err (BadUtf8, p.place + good)
    unfolding text_run chain
    text_bad some ends told =
        let read = read_all told in
        let behind : BeginsNoText (take (done - good) block ++ tail) = elim ends [
          | inl all ↦ subst BeginsNoText (sym (ap (λ l. take (done - good) block ++ l) (sym (take_all 0 tail (omega (arith, read.1, all)))) ∙ append-nil (take (done - good) block))) h.behind
          | inr many ↦ no_text_more (take (done - good) block) tail (omega (arith, h.held)) h.behind
        ] in
        let more : 0 < length (take (done - good) block ++ tail) = omega (arith, length-append (take (done - good) block) tail, h.held, read.1, h.order, h.within) in
        let bad = text_ends h.front (take (done - good) block ++ tail) h.text behind more in
        let whole = append_assoc h.front (take (done - good) block) tail in
        let wrong = text_wrong n p.place p.nodes (rest_of c) (h.front ++ (take (done - good) block ++ tail)) r.place r.nodes (rest_of e) (read.0 ∙ ap (λ l. Ok (l, r.place, r.nodes, rest_of e)) whole) bad.0 in
        let place : p.place + utf8_valid_len (h.front ++ (take (done - good) block ++ tail)) ≡ p.place + good = omega (arith, bad.1, h.size) in
        rw (wrong, place) refl
