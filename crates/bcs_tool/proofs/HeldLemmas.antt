-- Answers to lines, of which some prefix was written.
use Rattle.bcs_tool.proofs.Prelude.{◌≡◌, ◌≤◌, ◌<◌, ◌+◌, ◌-◌, ◌++◌, ◌∙◌, ◌∷◌, [], ℕ, suc, Bool, true, false, List, ap, append_assoc, append-nil, arith, if◌then◌else◌, length, length-append, ltb-false, ltb-true, nat_lt, refl, subst, sym, take, take-append-add, take-append-le, AnswersAll, AnswersLine, whole, Work}
use Rattle.bcs_tool_answers.specs.LineAnswers as all

-- the answers to these lines in order: their statuses, their outputs joined, and the number of bytes of each
pub data HoldsAll (work : Work) : List (List ℕ) → List ℕ → List ℕ → List ℕ → Type 0 where
  nothing : HoldsAll work [] [] [] []
  more : (line : List ℕ) (lines : List (List ℕ)) (status : ℕ) (statuses output outputs lengths : List ℕ) → AnswersLine work line status output → HoldsAll work lines statuses outputs lengths → HoldsAll work (line ∷ lines) (status ∷ statuses) (output ++ outputs) (length output ∷ lengths)

-- the answers to some lines, and then those to more
pub answers_append : (work : Work) (lines : List (List ℕ)) (statuses outputs : List ℕ) (lines' : List (List ℕ)) (statuses' outputs' : List ℕ)
    → AnswersAll work lines statuses outputs → AnswersAll work lines' statuses' outputs' → AnswersAll work (lines ++ lines') (statuses ++ statuses') (outputs ++ outputs')
answers_append work lines statuses outputs lines' statuses' outputs' all.none behind = behind
answers_append work lines statuses outputs lines' statuses' outputs' (all.next l ls s ss o os h rest) behind =
    subst (λ (bytes : List ℕ). AnswersAll work (l ∷ ls ++ lines') (s ∷ ss ++ statuses') bytes) (sym (append_assoc o os outputs'))
    (all.next l (ls ++ lines') s (ss ++ statuses') o (os ++ outputs') h (answers_append work ls ss os lines' statuses' outputs' rest behind))

pub all_held : (work : Work) (lines : List (List ℕ)) (statuses outputs lengths : List ℕ) → HoldsAll work lines statuses outputs lengths → AnswersAll work lines statuses outputs
all_held work lines statuses outputs lengths nothing = all.none
all_held work lines statuses outputs lengths (more l ls s ss o os ns h rest) = all.next l ls s ss o os h (all_held work ls ss os ns rest)

pub held_many : (work : Work) (lines : List (List ℕ)) (statuses outputs lengths : List ℕ) → HoldsAll work lines statuses outputs lengths → length lengths ≡ length lines
held_many work lines statuses outputs lengths nothing = refl
held_many work lines statuses outputs lengths (more l ls s ss o os ns h rest) = ap suc (held_many work ls ss os ns rest)

-- one more answer is held
pub holds_snoc : (work : Work) (lines : List (List ℕ)) (statuses outputs lengths line : List ℕ) (status : ℕ) (output : List ℕ)
    → HoldsAll work lines statuses outputs lengths → AnswersLine work line status output
    → HoldsAll work (lines ++ line ∷ []) (statuses ++ status ∷ []) (outputs ++ output) (lengths ++ length output ∷ [])
holds_snoc work lines statuses outputs lengths line status output nothing answers =
    subst (λ (bytes : List ℕ). HoldsAll work (line ∷ []) (status ∷ []) bytes (length output ∷ [])) (append-nil output) (more line [] status [] output [] [] answers nothing)
holds_snoc work lines statuses outputs lengths line status output (more l ls s ss o os ns h rest) answers =
    subst (λ (bytes : List ℕ). HoldsAll work (l ∷ ls ++ line ∷ []) (s ∷ ss ++ status ∷ []) bytes (length o ∷ ns ++ length output ∷ [])) (sym (append_assoc o os output))
    (more l (ls ++ line ∷ []) s (ss ++ status ∷ []) o (os ++ output) (ns ++ length output ∷ []) h (holds_snoc work ls ss os ns line status output rest answers))

pub whole_within : (lengths : List ℕ) (n : ℕ) → whole lengths n ≤ length lengths
whole_within [] n = omega arith
whole_within (l ∷ ls) n = at (nat_lt n l) (whole ls (n - l)) (length ls) (whole_within ls (n - l))
  where
    at : (b : Bool) (m k : ℕ) → m ≤ k → (if b then 0 else suc m) ≤ suc k
    at true m k h = omega arith
    at false m k h = omega (arith, h)

-- the first n bytes are the answers to the first lines and a proper prefix of the next one
pub record SplitAt (work : Work) (lines : List (List ℕ)) (outputs lengths : List ℕ) (n : ℕ) : Type 0 where
  pub done : List (List ℕ)
  pub line : List ℕ
  pub later : List (List ℕ)
  pub parts : lines ≡ done ++ line ∷ later
  pub many : length done ≡ whole lengths n
  pub statuses : List ℕ
  pub before : List ℕ
  pub answers : AnswersAll work done statuses before
  pub status : ℕ
  pub output : List ℕ
  pub answer : AnswersLine work line status output
  pub shown : ℕ
  pub short : shown < length output
  pub is : take n outputs ≡ before ++ take shown output

pub split_held : (work : Work) (lines : List (List ℕ)) (statuses outputs lengths : List ℕ) (n : ℕ) → HoldsAll work lines statuses outputs lengths → n < length outputs
    → SplitAt work lines outputs lengths n
split_held work lines statuses outputs lengths n nothing within = absurd (omega (arith, within))
split_held work lines statuses outputs lengths n (more l ls s ss o os ns h rest) within =
    at (nat_lt n (length o)) refl (λ inside. split_held work ls ss os ns (n - length o) rest inside)
  where
    at : (b : Bool) → nat_lt n (length o) ≡ b → (n - length o < length os → SplitAt work ls os ns (n - length o)) → SplitAt work (l ∷ ls) (o ++ os) (length o ∷ ns) n
    at true is next =
        let short = ltb-true n (length o) is in
        record {
          done = [];
          line = l;
          later = ls;
          parts = refl;
          many = sym (ap (λ (b : Bool). if b then 0 else suc (whole ns (n - length o))) is);
          statuses = [];
          before = [];
          answers = all.none;
          status = s;
          output = o;
          answer = h;
          shown = n;
          short = short;
          is = take-append-le n o os (omega (arith, short));
        }
    at false is next =
        let long = ltb-false n (length o) is in
        let behind = next (omega (arith, within, long, length-append o os)) in
        let sum : n ≡ length o + (n - length o) = omega (arith, long) in
        record {
          done = l ∷ behind.done;
          line = behind.line;
          later = behind.later;
          parts = ap (λ (t : List (List ℕ)). l ∷ t) behind.parts;
          many = ap suc behind.many ∙ sym (ap (λ (b : Bool). if b then 0 else suc (whole ns (n - length o))) is);
          statuses = s ∷ behind.statuses;
          before = o ++ behind.before;
          answers = all.next l behind.done s behind.statuses o behind.before h behind.answers;
          status = behind.status;
          output = behind.output;
          answer = behind.answer;
          shown = behind.shown;
          short = behind.short;
          is = ap (λ (k : ℕ). take k (o ++ os)) sum ∙ take-append-add o os (n - length o) ∙ ap (λ (t : List ℕ). o ++ t) behind.is
              ∙ sym (append_assoc o behind.before (take behind.shown behind.output));
        }
