-- Opening a container: its layout is determined before its contents are skipped.
use Rattle.bcs_decode_slice.proofs.Prelude.{◌≡◌, ℕ, ◌≤◌, List, Ok, Err, refl, ap, ◌∙◌, Shape, Entries, Choice, Content, of, one_of, nothing, choice_at, Reason, UnknownVariant, Read, follow, chain, give, fail, fail_here, choice_here, named_here, value_here, skipping, skip, variant_past, chosen_here, opened_here}
use Rattle.bcs_decode_spec.proofs.ScalarSteps.{bare}
use Rattle.bcs_decode_spec.proofs.PartSteps.{content_past, content_shape, content_nothing, variant_is}

module _ (p m : ℕ) (b : List ℕ) where
  pub opened_struct : (k : Content) (s : Shape) → k ≡ of s → opened_here k p m b ≡ Ok (s, p, m, b)
  unfolding opened_here give
  opened_struct k s is = rw is refl

  pub opened_stop : (k : Content) (cs : List Choice) (e : Reason × ℕ) → k ≡ one_of cs → variant_past p m b ≡ Err e → opened_here k p m b ≡ Err e
  unfolding opened_here chain
  opened_stop k cs e is h = rw (is, h) refl

  pub opened_unknown : (k : Content) (cs : List Choice) (start n q l : ℕ) (c : List ℕ) → k ≡ one_of cs → variant_past p m b ≡ Ok ((start, n), q, l, c) → choice_at n cs ≡ nothing → opened_here k p m b ≡ Err (UnknownVariant, start)
  unfolding opened_here chain chosen_here fail
  opened_unknown k cs start n q l c is h none = rw (is, h, none) refl

  pub opened_variant : (k : Content) (cs : List Choice) (start n q l : ℕ) (c : List ℕ) (s : Shape) → k ≡ one_of cs → variant_past p m b ≡ Ok ((start, n), q, l, c) → choice_at n cs ≡ of s → opened_here k p m b ≡ Ok (s, q, l, c)
  unfolding opened_here chain chosen_here give
  opened_variant k cs start n q l c s is h chosen = rw (is, h, chosen) refl

-- ---- skipping what was opened

module _ (registry : Entries) (d : ℕ) where
  chosen_is : (start : ℕ) (k : Content) (p m : ℕ) (b : List ℕ) → chain (choice_here skipping (named_here skipping registry d) start k) (λ _. give tt) p m b ≡ follow (chosen_here start k p m b) (λ s. skip registry d s)
  unfolding chain choice_here chosen_here value_here give fail
  chosen_is start (of s) p m b = bare (skip registry d s p m b)
  chosen_is start (one_of cs) p m b = refl
  chosen_is start nothing p m b = refl

  numbered_is : (cs : List Choice) (r : Read (ℕ × ℕ)) → follow r (λ x. chain (choice_here skipping (named_here skipping registry d) x.0 (choice_at x.1 cs)) (λ _. give tt))
      ≡ follow (follow r (λ x. chosen_here x.0 (choice_at x.1 cs))) (λ s. skip registry d s)
  numbered_is cs (Ok x) = chosen_is x.0.0 (choice_at x.0.1 cs) x.1 x.2 x.3
  numbered_is cs (Err e) = refl

  opened_is : (k : Content) (p m : ℕ) (b : List ℕ) → content_past registry d k p m b ≡ follow (opened_here k p m b) (λ s. skip registry d s)
  unfolding opened_here chain give fail_here
  opened_is (of s) p m b = content_shape registry d p m b s
  opened_is (one_of cs) p m b = variant_is registry d p m b cs ∙ numbered_is cs (variant_past p m b)
  opened_is nothing p m b = content_nothing registry d p m b

  pub content_stop : (k : Content) (p m : ℕ) (b : List ℕ) (e : Reason × ℕ) → opened_here k p m b ≡ Err e → content_past registry d k p m b ≡ Err e
  content_stop k p m b e h = opened_is k p m b ∙ rw h refl

  pub content_on : (k : Content) (p m : ℕ) (b : List ℕ) (s : Shape) (q l : ℕ) (c : List ℕ) → opened_here k p m b ≡ Ok (s, q, l, c) → content_past registry d k p m b ≡ skip registry d s q l c
  content_on k p m b s q l c h = opened_is k p m b ∙ rw h refl
