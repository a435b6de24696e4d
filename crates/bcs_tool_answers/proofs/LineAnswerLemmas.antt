-- The answers to lines in order: appending one more, and their statuses.
use Rattle.bcs_tool_answers.proofs.Prelude.{◌≡◌, ◌<◌, ◌≤◌, ◌++◌, ◌∷◌, ◌∙◌, ◌==◌, [], ℕ, suc, List, Bool, true, false, max, append_assoc, append-nil, ap, arith, if◌then◌else◌, length, refl, subst, sym, Answers, AnswersAll, AnswersLine, count_of, greatest, run_status, Work}
use Rattle.bcs_tool_answers.specs.LineAnswers as all
use Rattle.bcs_tool_answers.proofs.AnswerLemmas.{status_below}
use Rattle.bcs_tool_answers.proofs.FormLemmas.{form_below}

-- the answer to a line comes after those of the earlier lines
pub answers_snoc : (work : Work) (lines : List (List ℕ)) (statuses outputs line : List ℕ) (status : ℕ) (output : List ℕ)
    → AnswersAll work lines statuses outputs → AnswersLine work line status output
    → AnswersAll work (lines ++ line ∷ []) (statuses ++ status ∷ []) (outputs ++ output)
answers_snoc work lines statuses outputs line status output all.none answers =
    subst (λ (bytes : List ℕ). AnswersAll work (line ∷ []) (status ∷ []) bytes) (append-nil output) (all.next line [] status [] output [] answers all.none)
answers_snoc work lines statuses outputs line status output (all.next l ls s ss o os h more) answers =
    subst (λ (bytes : List ℕ). AnswersAll work (l ∷ ls ++ line ∷ []) (s ∷ ss ++ status ∷ []) bytes) (sym (append_assoc o os output))
    (all.next l (ls ++ line ∷ []) s (ss ++ status ∷ []) o (os ++ output) h (answers_snoc work ls ss os line status output more answers))

-- ---- the statuses

-- there is one for each line
pub as_many : (work : Work) (lines : List (List ℕ)) (statuses outputs : List ℕ) → AnswersAll work lines statuses outputs → length statuses ≡ length lines
as_many work lines statuses outputs all.none = refl
as_many work lines statuses outputs (all.next l ls s ss o os h more) = ap suc (as_many work ls ss os more)

pub greatest-snoc : (statuses : List ℕ) (status : ℕ) → greatest (statuses ++ status ∷ []) ≡ max (greatest statuses) status
greatest-snoc [] status = omega arith
greatest-snoc (s ∷ ss) status = omega (arith, greatest-snoc ss status)

pub line_below : (work : Work) (line : List ℕ) (status : ℕ) (output : List ℕ) → AnswersLine work line status output → status < 3
line_below work line status output h = form_below work.options.json_refusals (Answers work line) status output (status_below work line) h

pub greatest_below : (work : Work) (lines : List (List ℕ)) (statuses outputs : List ℕ) → AnswersAll work lines statuses outputs → greatest statuses < 3
greatest_below work lines statuses outputs all.none = omega arith
greatest_below work lines statuses outputs (all.next l ls s ss o os h more) =
    omega (arith, line_below work l s o h, greatest_below work ls ss os more)

pub run_below : (json : Bool) (statuses : List ℕ) → greatest statuses < 3 → run_status json statuses < 3
run_below false statuses below = below
run_below true statuses below = at (count_of 1 statuses == 0)
  where
    at : (b : Bool) → (if b then 0 else 1) < 3
    at true = omega arith
    at false = omega arith

-- two statuses can be counted in either order
counted_twice : (a b : Bool) (n : ℕ) → (if a then suc (if b then suc n else n) else (if b then suc n else n)) ≡ (if b then suc (if a then suc n else n) else (if a then suc n else n))
counted_twice true true n = refl
counted_twice true false n = refl
counted_twice false true n = refl
counted_twice false false n = refl

pub count_of-snoc : (n : ℕ) (statuses : List ℕ) (status : ℕ) → count_of n (statuses ++ status ∷ []) ≡ (if status == n then suc (count_of n statuses) else count_of n statuses)
count_of-snoc n [] status = refl
count_of-snoc n (s ∷ ss) status =
    ap (λ (m : ℕ). if s == n then suc m else m) (count_of-snoc n ss status) ∙ counted_twice (s == n) (status == n) (count_of n ss)

pub count_of_within : (n : ℕ) (statuses : List ℕ) → count_of n statuses ≤ length statuses
count_of_within n [] = omega arith
count_of_within n (s ∷ ss) = at (s == n) (count_of n ss) (length ss) (count_of_within n ss)
  where
    at : (b : Bool) (m k : ℕ) → m ≤ k → (if b then suc m else m) ≤ suc k
    at true m k h = omega (arith, h)
    at false m k h = omega (arith, h)
