-- A text is refused for at most one reason, and two texts have at most one answer.
use Rattle.bcs_tool_answers.proofs.Prelude.{◌≡◌, ◌∙◌, ◌⊎◌, inl, inr, ℕ, List, Bool, true, false, codes, ap, refl, sym, subst, true≢false, Entries, IsOrderly, Shape, Tree, Bounds, json_fault_name, Compares, Denotes, RefusesText, JsonFault, text_denotes_or_is_refused, denoted_is_not_refused, denotes_once, AnswersTexts, different, equal, first_refused, line_of, refusal_line, second_refused}
use Rattle.bcs_value_model.specs.Same.{Same}

-- the same status and the same output
abbrev pub Agrees : ℕ → List ℕ → ℕ → List ℕ → Type 0
Agrees s p z q = (s ≡ z) × (p ≡ q)

-- the answer to two texts that denote values
abbrev word_of : Bool → List ℕ
word_of true = line_of (codes "equal")
word_of false = line_of (codes "different")

abbrev status_of : Bool → ℕ
status_of true = 0
status_of false = 1

module _ (r : Entries) (limits : Bounds) (f : Shape) where
  -- ---- one text

  abbrev pub Refused : List ℕ → ℕ → List ℕ → Type 0
  Refused words s p = (e : JsonFault) × RefusesText r limits f words e × (s ≡ 2) × (p ≡ refusal_line (json_fault_name e))

  pub not_both : (words : List ℕ) (t : Tree) (s : ℕ) (p : List ℕ) → Denotes r limits f words t → Refused words s p → ⊥
  not_both words t s p d h = denoted_is_not_refused r limits f words t h.0 d h.1

  pub one_refused : IsOrderly r → (words : List ℕ) (s z : ℕ) (p q : List ℕ) → Refused words s p → Refused words z q → Agrees s p z q
  one_refused orderly words s z p q (e, h, hs, hp) (g, k, ks, kq) =
      let same : e ≡ g = (text_denotes_or_is_refused r limits f words orderly).once e g h k in
      (hs ∙ sym ks, hp ∙ ap (λ (x : JsonFault). refusal_line (json_fault_name x)) same ∙ sym kq)

  -- ---- two texts

  module _ (first second : List ℕ) where
    abbrev Compared : ℕ → List ℕ → Type 0
    Compared s p = ((b : Bool) × Compares r limits f first second b × (s ≡ status_of b) × (p ≡ word_of b))
        ⊎ (Refused first s p
        ⊎ ((t : Tree) × Denotes r limits f first t × Refused second s p))

    compared_by : {s : ℕ} {p : List ℕ} → AnswersTexts r limits f first second s p → Compared s p
    compared_by (equal h) = inl (true, h, refl, refl)
    compared_by (different h) = inl (false, h, refl, refl)
    compared_by (first_refused e h) = inr (inl (e, h, refl, refl))
    compared_by (second_refused t e d h) = inr (inr (t, d, (e, h, refl, refl)))

    differ : Compares r limits f first second true → Compares r limits f first second false → ⊥
    differ h k =
        let one : h.one ≡ k.one = denotes_once r limits f first h.one k.one h.one_denoted k.one_denoted in
        let other : h.other ≡ k.other = denotes_once r limits f second h.other k.other h.other_denoted k.other_denoted in
        let same : Same k.one k.other = subst (λ (t : Tree). Same k.one t) other (subst (λ (t : Tree). Same t h.other) one (h.same.0 refl)) in
        true≢false (sym (k.same.1 same))

    one_verdict : (b c : Bool) → Compares r limits f first second b → Compares r limits f first second c → b ≡ c
    one_verdict true true h k = refl
    one_verdict false false h k = refl
    one_verdict true false h k = absurd (differ h k)
    one_verdict false true h k = absurd (differ k h)

    one_compared : IsOrderly r → (s z : ℕ) (p q : List ℕ) → Compared s p → Compared z q → Agrees s p z q
    one_compared orderly s z p q (inl (b, h, hs, hp)) (inl (c, k, ks, kq)) =
        let same = one_verdict b c h k in (hs ∙ ap status_of same ∙ sym ks, hp ∙ ap word_of same ∙ sym kq)
    one_compared orderly s z p q (inl (b, h, hs, hp)) (inr (inl k)) = absurd (not_both first h.one z q h.one_denoted k)
    one_compared orderly s z p q (inl (b, h, hs, hp)) (inr (inr (t, d, k))) = absurd (not_both second h.other z q h.other_denoted k)
    one_compared orderly s z p q (inr (inl h)) (inl (c, k, ks, kq)) = absurd (not_both first k.one s p k.one_denoted h)
    one_compared orderly s z p q (inr (inl h)) (inr (inl k)) = one_refused orderly first s z p q h k
    one_compared orderly s z p q (inr (inl h)) (inr (inr (t, d, k))) = absurd (not_both first t s p d h)
    one_compared orderly s z p q (inr (inr (t, d, h))) (inl (c, k, ks, kq)) = absurd (not_both second k.other s p k.other_denoted h)
    one_compared orderly s z p q (inr (inr (t, d, h))) (inr (inl k)) = absurd (not_both first t z q d k)
    one_compared orderly s z p q (inr (inr (t, d, h))) (inr (inr (u, e, k))) = one_refused orderly second s z p q h k

    pub one_pair : IsOrderly r → (s z : ℕ) (p q : List ℕ) → AnswersTexts r limits f first second s p → AnswersTexts r limits f first second z q → Agrees s p z q
    one_pair orderly s z p q h k = one_compared orderly s z p q (compared_by h) (compared_by k)
