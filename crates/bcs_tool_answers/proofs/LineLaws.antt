-- The lines of an input have exactly one answer each.
use Rattle.bcs_tool_answers.proofs.Prelude.{◌≡◌, ◌<◌, ◌≤◌, ◌++◌, ◌∷◌, ◌∙◌, ◌==◌, [], ℕ, List, false, ap, ap₂, cond, inl, inr, length, refl, subst, sym, All, cases_Bool, All-nil, All-cons, All-head, All-tail, AreBytes, lines_of, onto, IsExact, OneAnswerALine, SomeAnswerALine, Answers, AnswersAll, AnswersLine, run_status, size_limit, Work}
use Rattle.bcs_tool_answers.specs.LineAnswers as all
use Rattle.bcs_tool_answers.proofs.FormLemmas.{as_answered, some_form}
use Rattle.bcs_tool_answers.proofs.OneAnswer.{one_answer}
use Rattle.bcs_tool_answers.proofs.SomeAnswer.{some_answer}

module _ (work : Work) where
  -- ---- at most one

  -- the answers to the lines, by recursion on the lines
  abbrev InTurn : List (List ℕ) → List ℕ → List ℕ → Type 0
  InTurn [] statuses outputs = (statuses ≡ []) × (outputs ≡ [])
  InTurn (l ∷ ls) statuses outputs = (s : ℕ) × (ss : List ℕ) × (o : List ℕ) × (os : List ℕ) × AnswersLine work l s o × AnswersAll work ls ss os
      × (statuses ≡ s ∷ ss) × (outputs ≡ o ++ os)

  in_turn : {lines : List (List ℕ)} {statuses outputs : List ℕ} → AnswersAll work lines statuses outputs → InTurn lines statuses outputs
  in_turn all.none = (refl, refl)
  in_turn (all.next l ls s ss o os h more) = (s, ss, o, os, h, more, refl, refl)

  pub one_for_all : (lines : List (List ℕ)) (statuses others outputs again : List ℕ) → IsExact work.command work.options.notation work.options.list → work.options.json_refusals ≡ false → AnswersAll work lines statuses outputs
      → AnswersAll work lines others again → (statuses ≡ others) × (outputs ≡ again)
  one_for_all [] statuses others outputs again exact plain h k =
      let p = in_turn h in
      let q = in_turn k in
      (p.0 ∙ sym q.0, p.1 ∙ sym q.1)
  one_for_all (l ∷ ls) statuses others outputs again exact plain h k =
      let p = in_turn h in
      let q = in_turn k in
      let one = as_answered work.options.json_refusals (Answers work l) p.0 p.2 plain p.4 in
      let other = as_answered work.options.json_refusals (Answers work l) q.0 q.2 plain q.4 in
      let first = one_answer work l p.0 q.0 p.2 q.2 exact one other in
      let behind = one_for_all ls p.1 q.1 p.3 q.3 exact plain p.5 q.5 in (
        p.6 ∙ ap₂ (λ (x : ℕ) (xs : List ℕ). x ∷ xs) first.0 behind.0 ∙ sym q.6,
        p.7 ∙ ap₂ (λ (xs ys : List ℕ). xs ++ ys) first.1 behind.1 ∙ sym q.7,
      )

  -- ---- at least one

  some_for_all : (lines : List (List ℕ)) → All AreBytes lines → All (λ line. length line ≤ size_limit) lines
      → (statuses : List ℕ) × (outputs : List ℕ) × AnswersAll work lines statuses outputs
  some_for_all [] are within = ([], [], all.none)
  some_for_all (l ∷ ls) are within =
      let answer = some_answer work l (All-head AreBytes l ls are) (λ _. All-head (λ line. length line ≤ size_limit) l ls within) in
      let first = some_form work.options.json_refusals (Answers work l) answer.0 answer.1 answer.2 in
      let behind = some_for_all ls (All-tail AreBytes l ls are) (All-tail (λ line. length line ≤ size_limit) l ls within) in
      (answer.0 ∷ behind.0, first.0 ++ behind.1, all.next l ls answer.0 behind.0 first.0 behind.1 first.1 behind.2)

-- a byte put before lines of bytes gives lines of bytes
bytes-onto : (c : ℕ) (ls : List (List ℕ)) → c < 256 → All AreBytes ls → All AreBytes (onto c ls)
bytes-onto c [] is are = All-cons AreBytes (c ∷ []) [] (All-cons (λ x. x < 256) c [] is (All-nil (λ x. x < 256))) (All-nil AreBytes)
bytes-onto c (l ∷ ls) is are =
    All-cons AreBytes (c ∷ l) ls (All-cons (λ x. x < 256) c l is (All-head AreBytes l ls are)) (All-tail AreBytes l ls are)

-- the lines of a text of bytes are bytes
bytes_of_lines : (text : List ℕ) → AreBytes text → All AreBytes (lines_of text)
bytes_of_lines [] are = All-nil AreBytes
bytes_of_lines (c ∷ cs) are =
    let rest = bytes_of_lines cs (All-tail (λ x. x < 256) c cs are) in
    elim (cases_Bool (c == 10)) [
      | inl feed ↦ subst (All AreBytes) (ap (λ b. cond b ([] ∷ lines_of cs) (onto c (lines_of cs))) (sym feed))
          (All-cons AreBytes [] (lines_of cs) (All-nil (λ x. x < 256)) rest)
      | inr other ↦ subst (All AreBytes) (ap (λ b. cond b ([] ∷ lines_of cs) (onto c (lines_of cs))) (sym other))
          (bytes-onto c (lines_of cs) (All-head (λ x. x < 256) c cs are) rest)
    ]

-- ---- the laws

pub one_answer_a_line : OneAnswerALine
one_answer_a_line work content status other output again exact plain (ss, h, is) (tt, k, also) =
    let same = one_for_all work (lines_of content) ss tt output again exact plain h k in
    (is ∙ ap (run_status work.options.json_refusals) same.0 ∙ sym also, same.1)

pub some_answer_a_line : SomeAnswerALine
some_answer_a_line work content are within =
    let some = some_for_all work (lines_of content) (bytes_of_lines content are) within in
    (run_status work.options.json_refusals some.0, some.1, (some.0, some.2, refl))
