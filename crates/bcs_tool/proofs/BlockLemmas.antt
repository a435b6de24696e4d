-- The lines of a block, from one to the next, and their answers.
use Rattle.bcs_tool.proofs.Prelude.{◌≡◌, ◌≤◌, ◌<◌, ◌+◌, ◌-◌, ◌^◌, ◌++◌, ◌∙◌, ◌∷◌, [], ℕ, Bool, List, Option, ap, append_assoc, append-nil, arith, as_many, length, length-append, refl, subst, sym, All-nil, All-push, HasNoLineFeed, HeldLine, ended, size_limit, OutOfMemory, AnswersAll, AnswersLine, AreNext, BlockAnswered, BlockStopped, HeldAnswers, IsPartOf, IsTally, StopsBefore, Interruption, Take, Tally, Work}
use Rattle.bcs_io.specs.Taking as sink
use Rattle.bcs_tool.proofs.HeldLemmas.{HoldsAll, all_held, held_many, holds_snoc, nothing, split_held, whole_within}

ended-snoc : (lines : List (List ℕ)) (line : List ℕ) → ended (lines ++ line ∷ []) ≡ ended lines ++ (line ++ 10 ∷ [])
ended-snoc [] line = refl
ended-snoc (l ∷ ls) line = ap (λ (t : List ℕ). l ++ 10 ∷ t) (ended-snoc ls line) ∙ sym (append_assoc l (10 ∷ ended ls) (line ++ 10 ∷ []))

-- the answer to one more line is counted
pub one_answered : (tally tally' : Tally) (status : ℕ) (statuses : List ℕ) → ((statuses : List ℕ) → IsTally tally statuses → IsTally tally' (statuses ++ status ∷ []))
    → IsTally tally statuses → tally'.answered ≡ tally.answered + 1
one_answered tally tally' status statuses counts known =
    omega (arith, known.answered, (counts statuses known).answered, length-append statuses (status ∷ []))

-- some lines of a block were answered, and the current one is the next
pub record InBlock (work : Work) (earlier tally : Tally) (before now : HeldLine) (held : HeldAnswers) : Type 0 where
  pub more : List (List ℕ)
  pub next : AreNext before more now.rest
  pub done : List (List ℕ)
  pub parts : before.line ∷ more ≡ done ++ now.line ∷ []
  pub statuses : List ℕ
  pub answers : HoldsAll work done statuses held.bytes.items held.lengths.items
  pub counted : (given : List ℕ) → IsTally earlier given → IsTally tally (given ++ statuses)
  pub within : length now.line ≤ size_limit
  pub few : length now.rest ≤ size_limit
  pub room : tally.answered + 1 + length now.rest < 2 ^ 64

module _ (work : Work) (earlier : Tally) (before : HeldLine) where
  pub in_first : (held : HeldAnswers) → held.bytes.items ≡ [] → held.lengths.items ≡ [] → length before.line ≤ size_limit → length before.rest ≤ size_limit
      → earlier.answered + 1 + length before.rest < 2 ^ 64 → InBlock work earlier earlier before before held
  in_first held bytes lengths within few room = record {
    more = [];
    next = record { parts = refl; plain = All-nil HasNoLineFeed };
    done = [];
    parts = refl;
    statuses = [];
    answers = subst (λ (t : List ℕ). HoldsAll work [] [] t held.lengths.items) (sym bytes) (subst (λ (t : List ℕ). HoldsAll work [] [] [] t) (sym lengths) nothing);
    counted = λ given is. subst (IsTally earlier) (sym (append-nil given)) is;
    within = within;
    few = few;
    room = room;
  }

  -- the answers to these lines are held, which are the first of those that were read
  pub record Held (tally : Tally) (rest : List ℕ) (held : HeldAnswers) : Type 0 where
    pub more : List (List ℕ)
    pub next : AreNext before more rest
    pub done : List (List ℕ)
    pub left : List (List ℕ)
    pub parts : before.line ∷ more ≡ done ++ left
    pub statuses : List ℕ
    pub answers : HoldsAll work done statuses held.bytes.items held.lengths.items
    pub counted : (given : List ℕ) → IsTally earlier given → IsTally tally (given ++ statuses)

  module _ (tally : Tally) (now : HeldLine) (held : HeldAnswers) (far : InBlock work earlier tally before now held) where
    -- memory ran out for the current line
    pub held_before : (held' : HeldAnswers) → held'.bytes.items ≡ held.bytes.items → held'.lengths.items ≡ held.lengths.items → Held tally now.rest held'
    held_before held' bytes lengths = record {
      more = far.more;
      next = far.next;
      done = far.done;
      left = now.line ∷ [];
      parts = far.parts;
      statuses = far.statuses;
      answers = subst (λ (t : List ℕ). HoldsAll work far.done far.statuses t held'.lengths.items) (sym bytes) (subst (λ (t : List ℕ). HoldsAll work far.done far.statuses held.bytes.items t) (sym lengths) far.answers);
      counted = far.counted;
    }

    module _ (held' : HeldAnswers) (status : ℕ) (output : List ℕ) (tally' : Tally) (answer : AnswersLine work now.line status output)
        (bytes : held'.bytes.items ≡ held.bytes.items ++ output) (lengths : held'.lengths.items ≡ held.lengths.items ++ length output ∷ [])
        (counts : (statuses : List ℕ) → IsTally tally statuses → IsTally tally' (statuses ++ status ∷ [])) where
      answers_with : HoldsAll work (far.done ++ now.line ∷ []) (far.statuses ++ status ∷ []) held'.bytes.items held'.lengths.items
      answers_with =
          let all = holds_snoc work far.done far.statuses held.bytes.items held.lengths.items now.line status output far.answers answer in
          subst (λ (t : List ℕ). HoldsAll work (far.done ++ now.line ∷ []) (far.statuses ++ status ∷ []) t held'.lengths.items) (sym bytes)
          (subst (λ (t : List ℕ). HoldsAll work (far.done ++ now.line ∷ []) (far.statuses ++ status ∷ []) (held.bytes.items ++ output) t) (sym lengths) all)

      counted_with : (given : List ℕ) → IsTally earlier given → IsTally tally' (given ++ (far.statuses ++ status ∷ []))
      counted_with given is = subst (IsTally tally') (append_assoc given far.statuses (status ∷ [])) (counts (given ++ far.statuses) (far.counted given is))

      -- the current line was answered
      pub held_with : (rest : List ℕ) → rest ≡ now.rest → Held tally' rest held'
      held_with rest same = record {
        more = far.more;
        next = subst (AreNext before far.more) (sym same) far.next;
        done = far.done ++ now.line ∷ [];
        left = [];
        parts = far.parts ∙ sym (append-nil (far.done ++ now.line ∷ []));
        statuses = far.statuses ++ status ∷ [];
        answers = answers_with;
        counted = counted_with;
      }

      pub none_left : (rest : List ℕ) (same : rest ≡ now.rest) → (held_with rest same).left ≡ []
      unfolding held_with
      none_left rest same = refl

      -- and the next one was already read
      pub in_next : (after : HeldLine) → now.rest ≡ after.line ++ 10 ∷ after.rest → HasNoLineFeed after.line → tally'.answered ≡ tally.answered + 1
          → InBlock work earlier tally' before after held'
      in_next after parts plain one =
          let long = ap (λ (t : List ℕ). length t) parts in
          record {
            more = far.more ++ after.line ∷ [];
            next = record {
              parts = far.next.parts ∙ ap (λ (t : List ℕ). ended far.more ++ t) (parts ∙ sym (append_assoc after.line (10 ∷ []) after.rest))
                  ∙ sym (append_assoc (ended far.more) (after.line ++ 10 ∷ []) after.rest) ∙ ap (λ (t : List ℕ). t ++ after.rest) (sym (ended-snoc far.more after.line));
              plain = All-push HasNoLineFeed far.more after.line far.next.plain plain;
            };
            done = far.done ++ now.line ∷ [];
            parts = ap (λ (t : List (List ℕ)). t ++ after.line ∷ []) far.parts;
            statuses = far.statuses ++ status ∷ [];
            answers = answers_with;
            counted = counted_with;
            within = omega (arith, long, far.few, length-append after.line (10 ∷ after.rest));
            few = omega (arith, long, far.few, length-append after.line (10 ∷ after.rest));
            room = omega (arith, one, long, far.room, length-append after.line (10 ∷ after.rest));
          }

  module _ (given : List ℕ) (known : IsTally earlier given) (tally : Tally) (rest : List ℕ) (held : HeldAnswers) (all : Held tally rest held) where
    pub answered_many : tally.answered ≡ earlier.answered + length all.done
    answered_many =
        omega (arith, known.answered, (all.counted given known).answered, length-append given all.statuses, statuses_many)
      where
        statuses_many : length all.statuses ≡ length all.done
        statuses_many = as_many work all.done all.statuses held.bytes.items (all_held work all.done all.statuses held.bytes.items held.lengths.items all.answers)

    pub among : length held.lengths.items ≤ tally.answered
    among = omega (arith, answered_many, held_many work all.done all.statuses held.bytes.items held.lengths.items all.answers)

    module _ {K : Type 0} (taken : K → Option (List ℕ)) (is_failed : K → Bool) (out out' : K) where
      -- all lines that were read were answered, and the answers were written
      pub block_answered : all.left ≡ [] → sink.Took taken is_failed out out' held.bytes.items → BlockAnswered taken is_failed work earlier tally before rest out out'
      block_answered none put = record {
        more = all.more;
        next = all.next;
        statuses = all.statuses;
        output = held.bytes.items;
        answers = subst (λ (t : List (List ℕ)). AnswersAll work t all.statuses held.bytes.items)
            (sym (all.parts ∙ ap (λ (t : List (List ℕ)). all.done ++ t) none ∙ append-nil all.done))
            (all_held work all.done all.statuses held.bytes.items held.lengths.items all.answers);
        put = put;
        counted = all.counted;
      }

      -- memory ran out, and the answers were written
      pub block_lost : (e : Interruption) → e ≡ record { fault = Take OutOfMemory; answered = tally.answered } → sink.Took taken is_failed out out' held.bytes.items
          → BlockStopped taken is_failed work earlier before out out' e
      block_lost e is put = record {
        more = all.more;
        rest = rest;
        next = all.next;
        done = all.done;
        left = all.left;
        parts = all.parts;
        statuses = all.statuses;
        output = held.bytes.items;
        answers = all_held work all.done all.statuses held.bytes.items held.lengths.items all.answers;
        many = ap (λ (i : Interruption). i.answered) is ∙ answered_many;
        stops = subst (StopsBefore taken is_failed work all.left held.bytes.items out out') (sym (ap (λ (i : Interruption). i.fault) is)) put;
      }

      -- only some of the answers were written
      pub block_broken : (e : Interruption) → IsPartOf taken is_failed tally.answered held out out' e → BlockStopped taken is_failed work earlier before out out' e
      block_broken e part =
          let split = split_held work all.done all.statuses held.bytes.items held.lengths.items part.shown all.answers part.short in
          record {
            more = all.more;
            rest = rest;
            next = all.next;
            done = split.done;
            left = split.line ∷ split.later ++ all.left;
            parts = all.parts ∙ ap (λ (t : List (List ℕ)). t ++ all.left) split.parts ∙ append_assoc split.done (split.line ∷ split.later) all.left;
            statuses = split.statuses;
            output = split.before;
            answers = split.answers;
            many = omega (
              arith,
              ap (λ (i : Interruption). i.answered) part.is,
              answered_many,
              split.many,
              whole_within held.lengths.items part.shown,
              held_many work all.done all.statuses held.bytes.items held.lengths.items all.answers,
            );
            stops = subst (StopsBefore taken is_failed work (split.line ∷ split.later ++ all.left) split.before out out') (sym (ap (λ (i : Interruption). i.fault) part.is))
                (record {
                  line = split.line;
                  later = split.later ++ all.left;
                  parts = refl;
                  status = split.status;
                  output = split.output;
                  answer = split.answer;
                  shown = split.shown;
                  short = split.short;
                  put = subst (sink.TookThenFailed taken is_failed out out') split.is part.put;
                });
          }
