-- A run over lines, from one line to the next.
use Rattle.bcs_tool.proofs.Prelude.{◌≡◌, ◌≤◌, ◌<◌, ◌+◌, ◌^◌, ◌++◌, ◌∙◌, inl, inr, ℕ, Bool, List, [], ◌∷◌, Option, ap, append_assoc, arith, length, length-append, subst, sym, take, IfSome, FailsInLine, HasNoLine, IsTooLong, TakesLine, HeldLine, NextFault, AnswersAll, none, as_many, size_limit, Work, AllAnswered, AreFirst, AreRead, BlockAnswered, BlockStopped, FailsNext, IsSoFar, IsTally, BrokeInLine, GaveFew, FailsAt, HasLines, Interruption, IsLongBehind, IsTooLarge, IsUnhurt, PutBefore, PutPart, PutsPartOfNext, ReadsNoFurther, StopsBefore, StopsInLine, of_next, RunFault, Take, Write, Tally}
use Rattle.bcs_io.specs.Giving as source
use Rattle.bcs_io.specs.Taking as sink
use Rattle.bcs_io.proofs.TakingLemmas as taking
use Rattle.bcs_io.specs.declared.next_fault.NextFault.TheVariants as next_fault
use Rattle.bcs_io.specs.declared.taking.TakeFault.TheVariants as take_fault
use Rattle.bcs_tool.proofs.HeldLemmas.{answers_append}
use Rattle.bcs_tool.proofs.ReadLemmas.{all_read, block_read, broke_in_line, few_behind, few_given, few_long, first_read, front_first, gave, line_read, long_behind, none_read}

module _ {S K : Type 0} (content : S → Option (List ℕ)) (has_stopped : S → Bool) (allowance : S → ℕ)
    (taken : K → Option (List ℕ)) (is_failed : K → Bool) (work : Work) where
  pub so_far_nothing : (input : S) (out : K) (tally : Tally) → IsTally tally []
      → IsSoFar content has_stopped allowance taken is_failed work input input out out [] tally
  so_far_nothing input out tally counted = record {
    lines = [];
    statuses = [];
    output = [];
    read = none_read content has_stopped allowance input;
    answers = none;
    put = taking.Took-nothing taken is_failed out;
    counted = counted;
  }

  module _ (input now later : S) (out out' : K) (before after : HeldLine) (tally : Tally)
      (far : IsSoFar content has_stopped allowance taken is_failed work input now out out' before.rest tally) where
    -- a line was read, and it was answered with those that were read with it
    pub so_far_block : (out'' : K) (more : Tally) (rest : List ℕ) → TakesLine content has_stopped allowance size_limit now later before after
        → BlockAnswered taken is_failed work tally more after rest out' out''
        → IsSoFar content has_stopped allowance taken is_failed work input later out out'' rest more
    so_far_block out'' more rest takes block =
        let read = line_read content has_stopped allowance input now later far.lines before after far.read takes in
        let all = block_read content has_stopped allowance input later block.more (far.lines ++ after.line ∷ []) after.rest rest block.next.plain block.next.parts read in
        record {
          lines = far.lines ++ after.line ∷ block.more;
          statuses = far.statuses ++ block.statuses;
          output = far.output ++ block.output;
          read = subst (λ (ls : List (List ℕ)). AreRead content has_stopped allowance input later ls rest) (append_assoc far.lines (after.line ∷ []) block.more) all;
          answers = answers_append work far.lines far.statuses far.output (after.line ∷ block.more) block.statuses block.output far.answers block.answers;
          put = taking.Took-then taken is_failed out out' out'' far.output block.output far.put block.put;
          counted = block.counted far.statuses far.counted;
        }

    answered_many : length far.lines ≡ tally.answered
    answered_many = sym (far.counted.answered ∙ as_many work far.lines far.statuses far.output far.answers)

    -- the lines that were read with the next one can be counted
    pub can_count : allowance input < 2 ^ 64 → TakesLine content has_stopped allowance size_limit now later before after → tally.answered + 1 + length after.rest < 2 ^ 64
    can_count bounded takes =
        omega (
          arith,
          bounded,
          answered_many,
          length-append far.lines (after.line ∷ []),
          (line_read content has_stopped allowance input now later far.lines before after far.read takes).room,
        )

    pub few_held : TakesLine content has_stopped allowance size_limit now later before after → length after.rest ≤ size_limit
    few_held takes = omega (arith, (line_read content has_stopped allowance input now later far.lines before after far.read takes).ahead)

    -- no line is left
    pub all_answered : HasNoLine content has_stopped allowance now later before after → AllAnswered content has_stopped allowance taken is_failed work input out out' tally
    all_answered ends =
        let all = all_read content has_stopped allowance input now later far.lines before after far.read ends in
        let P : List (List ℕ) → Type 0 = λ lines. AnswersAll work lines far.statuses far.output in
        record {
          bytes = all.0;
          statuses = far.statuses;
          output = far.output;
          known = all.1;
          answers = subst P (sym all.2) far.answers;
          put = far.put;
          counted = far.counted;
        }

    -- what was written before the next line
    pub put_before : HasLines work → PutBefore content has_stopped allowance taken is_failed work input out out' tally.answered
    put_before by_line = record {
      lines = far.lines;
      statuses = far.statuses;
      output = far.output;
      many = answered_many;
      first = first_read content has_stopped allowance input now far.lines before.rest far.read;
      answers = far.answers;
      put = far.put;
      once = λ whole. absurd (whole by_line);
    }

    -- the next line is too long
    pub too_large : HasLines work → IsTooLong content has_stopped allowance size_limit now later before after → IsTooLarge content has_stopped allowance taken is_failed work input later tally.answered
    too_large by_line long =
        inr (
          by_line,
          gave content has_stopped allowance input now later far.lines before after far.read long.given long.took,
          subst (λ (n : ℕ). IfSome (content input) (IsLongBehind n)) answered_many (long_behind content has_stopped allowance input now later far.lines before after far.read long),
        )

    -- memory ran out, and no call of the input failed
    pub unhurt : HasLines work → (given : List ℕ) → source.Gave content has_stopped allowance now later given → IsUnhurt content has_stopped allowance taken is_failed work input later
    unhurt by_line given took =
        let all = gave content has_stopped allowance input now later far.lines before after far.read given took in
        inr (inl (all.0, all.1, λ whole. absurd (whole by_line)))

    -- no complete line was given after the answered ones
    pub stops_in_line : FailsInLine content has_stopped allowance size_limit now later before after → StopsInLine content has_stopped allowance taken is_failed work input later tally.answered
    stops_in_line fails by_line =
        subst (λ (n : ℕ). BrokeInLine content has_stopped allowance input later n) answered_many
        (broke_in_line content has_stopped allowance input now later far.lines before after far.read fails)

    -- or none was given before the last block
    no_further : GaveFew content has_stopped allowance input later (length far.lines) → ReadsNoFurther content has_stopped allowance taken is_failed work input later tally.answered
    no_further few by_line = subst (λ (n : ℕ). GaveFew content has_stopped allowance input later n) answered_many few

    -- the next line couldn't be read
    pub fails_next : (fault : NextFault) → HasLines work → FailsNext content has_stopped allowance fault now later before after
        → FailsAt content has_stopped allowance taken is_failed work input later out out' (of_next fault) tally.answered
    fails_next next_fault.Read by_line fails = (by_line.1, fails.lost.after, stops_in_line fails, put_before by_line)
    fails_next next_fault.TooLong by_line long = (
      by_line.1,
      too_large by_line long,
      no_further (few_long content has_stopped allowance input now later far.lines before after far.read long),
      put_before by_line,
    )
    fails_next next_fault.OutOfMemory by_line ran = (
      unhurt by_line ran.given ran.took,
      no_further (few_given content has_stopped allowance input now later far.lines before after far.read ran.given ran.took ran.ahead),
      put_before by_line,
    )

    -- only some of the lines that were read with the next one were answered
    module _ (out'' : K) (e : Interruption) (by_line : HasLines work) (takes : TakesLine content has_stopped allowance size_limit now later before after)
        (block : BlockStopped taken is_failed work tally after out' out'' e) where
      done_many : length (far.lines ++ block.done) ≡ e.answered
      done_many = omega (arith, length-append far.lines block.done, answered_many, block.many)

      first_left : AreFirst (content input) ((far.lines ++ block.done) ++ block.left)
      first_left =
          let read = line_read content has_stopped allowance input now later far.lines before after far.read takes in
          let all = block_read content has_stopped allowance input later block.more (far.lines ++ after.line ∷ []) after.rest block.rest block.next.plain block.next.parts read in
          let parts : (far.lines ++ after.line ∷ []) ++ block.more ≡ (far.lines ++ block.done) ++ block.left =
          append_assoc far.lines (after.line ∷ []) block.more ∙ ap (λ (ls : List (List ℕ)). far.lines ++ ls) block.parts ∙ sym (append_assoc far.lines block.done block.left) in
          subst (AreFirst (content input)) parts (first_read content has_stopped allowance input later ((far.lines ++ after.line ∷ []) ++ block.more) block.rest all)

      done_answers : AnswersAll work (far.lines ++ block.done) (far.statuses ++ block.statuses) (far.output ++ block.output)
      done_answers = answers_append work far.lines far.statuses far.output block.done block.statuses block.output far.answers block.answers

      done_further : ReadsNoFurther content has_stopped allowance taken is_failed work input later e.answered
      done_further lines =
          let few = few_behind content has_stopped allowance input now later far.lines before after far.read takes in
          (few.0, few.1, omega (arith, few.2, done_many, length-append far.lines block.done))

      put_done : sink.Took taken is_failed out' out'' block.output → PutBefore content has_stopped allowance taken is_failed work input out out'' e.answered
      put_done put = record {
        lines = far.lines ++ block.done;
        statuses = far.statuses ++ block.statuses;
        output = far.output ++ block.output;
        many = done_many;
        first = front_first (content input) (far.lines ++ block.done) block.left first_left;
        answers = done_answers;
        put = taking.Took-then taken is_failed out out' out'' far.output block.output far.put put;
        once = λ whole. absurd (whole by_line);
      }

      put_part : PutsPartOfNext taken is_failed work block.left block.output out' out'' → PutPart content has_stopped allowance taken is_failed work input out out'' e.answered
      put_part part =
          let lines = far.lines ++ block.done in
          let left : lines ++ block.left ≡ (lines ++ part.line ∷ []) ++ part.later =
          ap (λ (ls : List (List ℕ)). lines ++ ls) part.parts ∙ sym (append_assoc lines (part.line ∷ []) part.later) in
          record {
            lines = lines;
            statuses = far.statuses ++ block.statuses;
            before = far.output ++ block.output;
            many = done_many;
            answers = done_answers;
            status = part.status;
            output = part.output;
            next = inl (by_line, (part.line, front_first (content input) (lines ++ part.line ∷ []) part.later (subst (AreFirst (content input)) left first_left), part.answer));
            shown = part.shown;
            short = part.short;
            put = subst (sink.TookThenFailed taken is_failed out out'') (sym (append_assoc far.output block.output (take part.shown part.output)))
                (taking.TookThenFailed-then taken is_failed out out' out'' far.output (block.output ++ take part.shown part.output) far.put part.put);
            once = λ whole. absurd (whole by_line);
          }

      pub fails_block : FailsAt content has_stopped allowance taken is_failed work input later out out'' e.fault e.answered
      fails_block = at e.fault block.stops
        where
          at : (fault : RunFault) → StopsBefore taken is_failed work block.left block.output out' out'' fault
              → FailsAt content has_stopped allowance taken is_failed work input later out out'' fault e.answered
          at (Take take_fault.Read) stops = absurd stops
          at (Take take_fault.TooLarge) stops = absurd stops
          at (Take take_fault.OutOfMemory) stops = (unhurt by_line takes.given takes.took, done_further, put_done stops)
          at Write stops = (done_further, put_part stops)
