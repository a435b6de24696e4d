-- The lines of one input, from one to the next.
use Rattle.bcs_tool.proofs.Prelude.{◌≡◌, ◌⊎◌, ◌≤◌, ◌<◌, ◌+◌, ◌^◌, ◌++◌, ◌∙◌, inl, inr, ℕ, Bool, List, [], ◌∷◌, All, Option, Some, None, ap, append_assoc, append-nil, arith, length, length-append, refl, subst, sym, IfSome, All-head, All-nil, All-push, All-tail, ended, FailsInLine, HasNoLine, IsLastLine, IsTooLong, TakesLine, HeldLine, HasNoLineFeed, before_block, line_feeds, lines_of, block_behind, short_ahead, feeds_append, feeds_before_block, feeds_none, IsContent, size_limit, AreRead, StandBefore, BrokeInLine, GaveFew, AreFirst, IsLongBehind}
use Rattle.bcs_io.specs.Giving as source
use Rattle.bcs_io.proofs.GivingLemmas as giving
use Rattle.bcs_tool.proofs.LineLemmas.{stand_end, stand_first, stand_last, stand_line, stand_long, stand_nothing}

-- a list that isn't empty has at least one element
some_long : (xs : List ℕ) → (xs ≡ [] → ⊥) → 1 ≤ length xs
some_long [] some = absurd (some refl)
some_long (x ∷ xs) some = omega arith

-- a prefix of the first lines
pub front_first : (c : Option (List ℕ)) (lines more : List (List ℕ)) → AreFirst c (lines ++ more) → AreFirst c lines
front_first None lines more first = tt
front_first (Some all) lines more first = (more ++ first.0, first.1 ∙ append_assoc lines more first.0)

module _ {S : Type 0} (content : S → Option (List ℕ)) (has_stopped : S → Bool) (allowance : S → ℕ) where
  pub none_read : (input : S) → AreRead content has_stopped allowance input input [] []
  none_read input = record {
    given = [];
    took = giving.Gave-nothing content has_stopped allowance input;
    front = [];
    parts = refl;
    few = omega arith;
    ahead = omega arith;
    stand = stand_nothing (content input);
    plain = All-nil HasNoLineFeed;
    room = omega arith;
  }

  pub first_read : (input now : S) (lines : List (List ℕ)) (rest : List ℕ) → AreRead content has_stopped allowance input now lines rest → AreFirst (content input) lines
  first_read input now lines rest read = stand_first (content input) (content now) lines rest read.stand

  -- a line took at least one byte
  pub line_room : (now later : S) (before after : HeldLine) → TakesLine content has_stopped allowance size_limit now later before after
      → 1 + length after.rest + allowance later ≤ length before.rest + allowance now
  line_room now later before after takes = go takes.parts
    where
      go : (before.rest ++ takes.given ≡ after.line ++ 10 ∷ after.rest) ⊎ IsLastLine content has_stopped allowance later (before.rest ++ takes.given) after
          → 1 + length after.rest + allowance later ≤ length before.rest + allowance now
      go (inl parts) = omega (arith, takes.took.less, ap (λ (t : List ℕ). length t) parts, length-append before.rest takes.given, length-append after.line (10 ∷ after.rest))
      go (inr last) =
          omega (arith, takes.took.less, ap (λ (t : List ℕ). length t) last.line, length-append before.rest takes.given, some_long after.line last.some, ap (λ (t : List ℕ). length t) last.rest)

  module _ (input now later : S) (lines : List (List ℕ)) (before after : HeldLine) (read : AreRead content has_stopped allowance input now lines before.rest) where
    -- the content after the line that was read
    stand_behind : TakesLine content has_stopped allowance size_limit now later before after → StandBefore (content input) (content later) (lines ++ after.line ∷ []) after.rest
    stand_behind takes = go takes.parts
      where
        go : (before.rest ++ takes.given ≡ after.line ++ 10 ∷ after.rest) ⊎ IsLastLine content has_stopped allowance later (before.rest ++ takes.given) after
            → StandBefore (content input) (content later) (lines ++ after.line ∷ []) after.rest
        go (inl parts) = stand_line (content input) (content now) (content later) lines after.line before.rest takes.given after.rest takes.took.front parts takes.plain read.stand
        go (inr last) = stand_last (content input) (content now) (content later) lines after.line before.rest takes.given after.rest takes.took.front last.line last.rest last.ends takes.plain last.some read.stand

    -- what was given, up to what follows the line
    front_behind : (given : List ℕ) → HasNoLineFeed after.line
        → (before.rest ++ given ≡ after.line ++ 10 ∷ after.rest) ⊎ IsLastLine content has_stopped allowance later (before.rest ++ given) after
        → (front : List ℕ) × (read.given ++ given ≡ front ++ after.rest) × (line_feeds front ≤ length lines + 1)
    front_behind given plain (inl parts) = (
      read.front ++ (after.line ++ 10 ∷ []),
      ap (λ (t : List ℕ). t ++ given) read.parts ∙ append_assoc read.front before.rest given ∙ ap (λ (t : List ℕ). read.front ++ t) (parts ∙ sym (append_assoc after.line (10 ∷ []) after.rest))
          ∙ sym (append_assoc read.front (after.line ++ 10 ∷ []) after.rest),
      omega (arith, feeds_append read.front (after.line ++ 10 ∷ []), feeds_append after.line (10 ∷ []), feeds_none after.line plain, read.few),
    )
    front_behind given plain (inr last) = (
      read.front ++ after.line,
      ap (λ (t : List ℕ). t ++ given) read.parts ∙ append_assoc read.front before.rest given ∙ ap (λ (t : List ℕ). read.front ++ t) last.line
          ∙ sym (append-nil (read.front ++ after.line)) ∙ ap (λ (t : List ℕ). (read.front ++ after.line) ++ t) (sym last.rest),
      omega (arith, feeds_append read.front after.line, feeds_none after.line plain, read.few),
    )

    pub line_read : TakesLine content has_stopped allowance size_limit now later before after → AreRead content has_stopped allowance input later (lines ++ after.line ∷ []) after.rest
    line_read takes =
        let behind = front_behind takes.given takes.plain takes.parts in
        record {
          given = read.given ++ takes.given;
          took = giving.Gave-then content has_stopped allowance input now later read.given takes.given read.took takes.took;
          front = behind.0;
          parts = behind.1;
          few = omega (arith, behind.2, length-append lines (after.line ∷ []));
          ahead = takes.ahead (short_ahead before.rest read.ahead);
          stand = stand_behind takes;
          plain = All-push HasNoLineFeed lines after.line read.plain takes.plain;
          room = omega (arith, line_room now later before after takes, read.room, length-append lines (after.line ∷ []));
        }

    -- no line is left
    pub all_read : HasNoLine content has_stopped allowance now later before after → (bytes : List ℕ) × IsContent (content input) bytes × (lines_of bytes ≡ lines)
    all_read ends = stand_end (content input) (content now) (content later) lines before.rest ends.took.front ends.none_left ends.ends read.plain read.stand

    -- the next line is too long
    pub long_behind : IsTooLong content has_stopped allowance size_limit now later before after → IfSome (content input) (IsLongBehind (length lines))
    long_behind long = stand_long (content input) (content now) (content later) lines before.rest long.given long.took.front long.longer long.plain read.stand

    -- all that the input gave
    pub gave : (given : List ℕ) → source.Gave content has_stopped allowance now later given → (bytes : List ℕ) × source.Gave content has_stopped allowance input later bytes
    gave given took = (read.given ++ given, giving.Gave-then content has_stopped allowance input now later read.given given read.took took)

    -- no complete line was given after these lines
    gave_none : (given : List ℕ) → HasNoLineFeed (before.rest ++ given) → line_feeds (read.given ++ given) ≤ length lines
    gave_none given plain =
        omega (arith, ap line_feeds read.parts, feeds_append read.given given, feeds_append read.front before.rest, feeds_append before.rest given, feeds_none (before.rest ++ given) plain, read.few)

    pub broke_in_line : FailsInLine content has_stopped allowance size_limit now later before after → BrokeInLine content has_stopped allowance input later (length lines)
    broke_in_line fails = (
      read.given ++ fails.given,
      giving.GaveThenFailed-then content has_stopped allowance input now later read.given fails.given read.took fails.lost,
      gave_none fails.given fails.plain,
    )

    -- or none was given before the last block
    gave_few : (given : List ℕ) → HasNoLineFeed (before_block (before.rest ++ given)) → line_feeds (before_block (read.given ++ given)) ≤ length lines
    gave_few given ahead =
        let parts : read.given ++ given ≡ read.front ++ (before.rest ++ given) = ap (λ (t : List ℕ). t ++ given) read.parts ∙ append_assoc read.front before.rest given in
        omega (arith, ap (λ (t : List ℕ). line_feeds (before_block t)) parts, feeds_before_block read.front (before.rest ++ given) ahead, read.few)

    pub few_given : (given : List ℕ) → source.Gave content has_stopped allowance now later given → HasNoLineFeed (before_block (before.rest ++ given))
        → GaveFew content has_stopped allowance input later (length lines)
    few_given given took ahead = (read.given ++ given, giving.Gave-then content has_stopped allowance input now later read.given given read.took took, gave_few given ahead)

    -- the next line was read, and no other one was given before the last block
    line_ahead : (takes : TakesLine content has_stopped allowance size_limit now later before after) → HasNoLineFeed (before_block (before.rest ++ takes.given))
    line_ahead takes = go takes.parts
      where
        go : (before.rest ++ takes.given ≡ after.line ++ 10 ∷ after.rest) ⊎ IsLastLine content has_stopped allowance later (before.rest ++ takes.given) after
            → HasNoLineFeed (before_block (before.rest ++ takes.given))
        go (inl parts) =
            subst (λ (t : List ℕ). HasNoLineFeed (before_block t)) (sym parts)
            (block_behind after.line (10 ∷ after.rest) takes.plain (omega (arith, takes.ahead (short_ahead before.rest read.ahead))))
        go (inr last) =
            subst (λ (t : List ℕ). HasNoLineFeed (before_block t)) (append-nil after.line ∙ sym last.line)
            (block_behind after.line [] takes.plain (omega arith))

    pub few_behind : TakesLine content has_stopped allowance size_limit now later before after → GaveFew content has_stopped allowance input later (length lines)
    few_behind takes = few_given takes.given takes.took (line_ahead takes)

    pub few_long : IsTooLong content has_stopped allowance size_limit now later before after → GaveFew content has_stopped allowance input later (length lines)
    few_long long = few_given long.given long.took (long.ahead (short_ahead before.rest read.ahead))

  -- the first lines of what was already read are the next ones
  pub block_read : (input now : S) (more lines : List (List ℕ)) (rest left : List ℕ) → All HasNoLineFeed more → rest ≡ ended more ++ left
      → AreRead content has_stopped allowance input now lines rest → AreRead content has_stopped allowance input now (lines ++ more) left
  block_read input now [] lines rest left plain is read =
      subst (λ (ls : List (List ℕ)). AreRead content has_stopped allowance input now ls left) (sym (append-nil lines)) (subst (AreRead content has_stopped allowance input now lines) is read)
  block_read input now (l ∷ ls) lines rest left plain is read =
      let before : HeldLine = record { line = []; rest = rest } in
      let after : HeldLine = record { line = l; rest = ended ls ++ left } in
      let parts : rest ≡ l ++ 10 ∷ after.rest = is ∙ append_assoc l (10 ∷ ended ls) left in
      let long = ap (λ (t : List ℕ). length t) parts in
      let takes : TakesLine content has_stopped allowance size_limit now now before after = record {
        given = [];
        took = giving.Gave-nothing content has_stopped allowance now;
        plain = All-head HasNoLineFeed l ls plain;
        within = omega (arith, long, read.ahead, length-append l (10 ∷ after.rest));
        parts = inl (append-nil rest ∙ parts);
        ahead = λ _. omega (arith, long, read.ahead, length-append l (10 ∷ after.rest));
      } in
      subst (λ (t : List (List ℕ)). AreRead content has_stopped allowance input now t left) (append_assoc lines (l ∷ []) ls)
      (block_read input now ls (lines ++ l ∷ []) after.rest left (All-tail HasNoLineFeed l ls plain) refl (line_read input now now lines before after read takes))
