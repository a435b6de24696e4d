-- Answers to lines, with refusals as JSON or unchanged.
use Rattle.bcs_tool_answers.proofs.Prelude.{◌≡◌, ◌≢◌, ◌<◌, ◌∙◌, ◌⊎◌, [], ℕ, List, Bool, true, false, true≢false, arith, codes, ◌++◌, eqb_tells, inl, inr, refl, subst, sym, All-nil, HasForm, InForm, IsJsonRefusal, place_digits, place_member, refusal_name, IsPrintable}

module _ (json : Bool) (Answer : ℕ → List ℕ → Type 0) where
  pub form_below : (status : ℕ) (output : List ℕ) → ((s : ℕ) (p : List ℕ) → Answer s p → s < 3) → InForm json Answer status output → status < 3
  form_below status output below (text, answer, form) = below status text answer

  -- without JSON, refusals are unchanged
  pub as_answered : (status : ℕ) (output : List ℕ) → json ≡ false → InForm json Answer status output → Answer status output
  as_answered status output plain (text, answer, inl h) = subst (Answer status) (sym h.1) answer
  as_answered status output plain (text, answer, inr h) = absurd (true≢false (sym h.0 ∙ plain))

  -- each answer has a form
  pub some_form : (status : ℕ) (text : List ℕ) → Answer status text → (output : List ℕ) × InForm json Answer status output
  some_form status text answer = by_form json refl
    where
      by_status : json ≡ true → ((output : List ℕ) × InForm json Answer status output)
      by_status is = elim (eqb_tells status 2) [
        | inl two ↦ (
          codes "{\"refused\":\"" ++ (refusal_name text ++ (codes "\"" ++ (place_member (place_digits text) ++ ([] ++ codes "}\n")))),
          (text, answer, inr (is, two.1, ([], All-nil IsPrintable, refl))),
        )
        | inr other ↦ (text, (text, answer, inl (λ e. other.1, refl)))
      ]

      by_form : (b : Bool) → json ≡ b → (output : List ℕ) × InForm json Answer status output
      by_form true is = by_status is
      by_form false is = (text, (text, answer, inl (λ e. absurd (true≢false (sym e ∙ is)), refl)))
