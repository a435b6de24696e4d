use Rattle.bcs_tool.proofs.Prelude.{◌∙◌, ◌≤◌, Err, List, Result, ap, arith, inl, length, refl, subst, ℕ, IsAnswer, IsPrepared, size_limit, OutOfMemory, Outcome, Ends, Interruption, Take}
use Rattle.bcs_tool.proofs.RunLemmas.{handed_on, no_input_no_lines, no_lines, no_memory, not_taken, put_once, reads_input, some_content, unhurt_whole, unread, whole_content}
use Rattle.bcs_tool.proofs.jobs.running.validate_and_answer.Goals as goal

pub returns-in_err-answer-clause-ends : goal.returns-in_err-answer-clause-ends
returns-in_err-answer-clause-ends g c =
    let work = c.args.work.now in
    let P : Result Outcome Interruption → Type 0 = λ r. Ends g.S.ByteSource.content g.S.ByteSource.is_failed g.S.ByteSource.allowance g.K.ByteSink.taken g.K.ByteSink.is_failed
    work c.args.input.now c.args.input.now c.args.out.now c.args.out.now r in
    handed_on P c.from_residual.result (record { fault = Take OutOfMemory; answered = 0 }) c.from_residual.ensures.1
    (no_memory g.S.ByteSource.content g.S.ByteSource.is_failed g.S.ByteSource.allowance g.K.ByteSink.taken g.K.ByteSink.is_failed work
    c.args.input.now c.args.input.now c.args.out.now (inl refl)
    (unread g.S.ByteSource.content g.S.ByteSource.is_failed g.S.ByteSource.allowance g.K.ByteSink.taken g.K.ByteSink.is_failed work c.args.input.now))

pub returns-in-Answered-clause-ends : goal.returns-in-Answered-clause-ends
returns-in-Answered-clause-ends g c =
    let work = c.args.work.now in
    let answer = c.in-Answered.answer in
    let is = subst (IsPrepared work) c.in-Answered.is c.in_ok-answer.ensures in
    let content = some_content (g.S.ByteSource.content c.args.input.now) in
    put_once g.S.ByteSource.content g.S.ByteSource.is_failed g.S.ByteSource.allowance g.K.ByteSink.taken g.K.ByteSink.is_failed work
    c.args.input.now c.args.input.now c.args.out.now c.put_answer.new.out answer content.0 c.put_answer.result (no_input_no_lines work is.0)
    content.1 (is.1 content.0) c.put_answer.ensures

-- the input couldn't be read
pub returns-in_err-bytes-in-Asked-clause-ends : goal.returns-in_err-bytes-in-Asked-clause-ends
returns-in_err-bytes-in-Asked-clause-ends g c =
    let work = c.args.work.now in
    let fault = c.in_err-bytes-in-Asked.field-0.0 in
    let is = c.in_err-bytes-in-Asked.was in
    let e = c.take_all.ensures in
    let asked = subst (IsPrepared work) c.in-Asked.is c.in_ok-answer.ensures in
    let P : Result Outcome Interruption → Type 0 = λ r. Ends g.S.ByteSource.content g.S.ByteSource.is_failed g.S.ByteSource.allowance g.K.ByteSink.taken g.K.ByteSink.is_failed
    work c.args.input.now c.take_all.new.input c.args.out.now c.args.out.now r in
    handed_on P c.from_residual-in_err-bytes-in-Asked.result (record { fault = Take fault; answered = 0 }) c.from_residual-in_err-bytes-in-Asked.ensures.1
    (not_taken g.S.ByteSource.content g.S.ByteSource.is_failed g.S.ByteSource.allowance g.K.ByteSink.taken g.K.ByteSink.is_failed work
    c.args.input.now c.take_all.new.input c.args.out.now fault (reads_input work c.in-Asked.asked asked) (no_lines work c.if-work.false)
    (λ same. e.read (is ∙ ap Err same)) (λ same. e.too_large (is ∙ ap Err same)) (λ same. e.memory (is ∙ ap Err same)))

-- memory ran out behind it
pub returns-in_err-whole-in-Asked-clause-ends : goal.returns-in_err-whole-in-Asked-clause-ends
returns-in_err-whole-in-Asked-clause-ends g c =
    let work = c.args.work.now in
    let bytes = c.in_ok-bytes-in-Asked.bytes.items in
    let whole = c.in_ok-bytes-in-Asked.ensures.whole in
    let within : length bytes ≤ size_limit = omega (arith, c.in_ok-bytes-in-Asked.ensures.within) in
    let P : Result Outcome Interruption → Type 0 = λ r. Ends g.S.ByteSource.content g.S.ByteSource.is_failed g.S.ByteSource.allowance g.K.ByteSink.taken g.K.ByteSink.is_failed
    work c.args.input.now c.take_all.new.input c.args.out.now c.args.out.now r in
    handed_on P c.from_residual-in_err-whole-in-Asked.result (record { fault = Take OutOfMemory; answered = 0 }) c.from_residual-in_err-whole-in-Asked.ensures.1
    (no_memory g.S.ByteSource.content g.S.ByteSource.is_failed g.S.ByteSource.allowance g.K.ByteSink.taken g.K.ByteSink.is_failed work
    c.args.input.now c.take_all.new.input c.args.out.now
    (unhurt_whole g.S.ByteSource.content g.S.ByteSource.is_failed g.S.ByteSource.allowance g.K.ByteSink.taken g.K.ByteSink.is_failed work
    c.args.input.now c.take_all.new.input bytes whole.0 within whole.2)
    (λ lines. absurd (no_lines work c.if-work.false lines)))

-- the whole input was answered
pub returns-clause-ends : goal.returns-clause-ends
returns-clause-ends g c =
    let work = c.args.work.now in
    let bytes = c.in_ok-bytes-in-Asked.bytes.items in
    let whole = c.in_ok-bytes-in-Asked.ensures.whole in
    let answer = c.in_ok-whole-in-Asked.whole in
    put_once g.S.ByteSource.content g.S.ByteSource.is_failed g.S.ByteSource.allowance g.K.ByteSink.taken g.K.ByteSink.is_failed work
    c.args.input.now c.take_all.new.input c.args.out.now c.put_answer-else-is_unlimited.new.out answer bytes c.put_answer-else-is_unlimited.result (no_lines work c.if-work.false)
    (whole_content (g.S.ByteSource.content c.args.input.now) (g.S.ByteSource.content c.take_all.new.input) bytes whole.0.front whole.1)
    (subst (λ (b : List ℕ). IsAnswer work b answer) c.as_slice.ensures.value c.in_ok-whole-in-Asked.ensures) c.put_answer-else-is_unlimited.ensures
