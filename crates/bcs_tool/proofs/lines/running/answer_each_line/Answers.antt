use Rattle.bcs_tool.proofs.Prelude.{Bool, Err, List, Result, ap, arith, ended, length, length-append, subst, sym, ℕ, EndsLines, IsSoFar, ReadsOn, Interruption, Tally}
use Rattle.bcs_tool.proofs.ReadLemmas.{line_room}
use Rattle.bcs_tool.proofs.RunLemmas.{handed_on, reads_input}
use Rattle.bcs_tool.proofs.SoFarLemmas.{all_answered, can_count, fails_block, fails_next, few_held, so_far_block, so_far_nothing}
use Rattle.bcs_tool.proofs.lines.running.answer_each_line.Goals as goal

pub loop-buffer-init : goal.loop-buffer-init
loop-buffer-init g c =
    let P : List ℕ → Type 0 = λ rest. IsSoFar g.S.ByteSource.content g.S.ByteSource.is_failed g.S.ByteSource.allowance g.K.ByteSink.taken g.K.ByteSink.is_failed
    c.args.work.now c.args.input.now c.args.input.now c.args.out.now c.args.out.now rest c.new-tally.result in
    record {
      far = subst P (sym (ap (λ h. h.rest) c.new-buffer.ensures))
          (so_far_nothing g.S.ByteSource.content g.S.ByteSource.is_failed g.S.ByteSource.allowance g.K.ByteSink.taken g.K.ByteSink.is_failed
          c.args.work.now c.args.input.now c.args.out.now c.new-tally.result c.new-tally.ensures);
    }

pub returns-in_err-read_line : goal.returns-in_err-read_line
returns-in_err-read_line g c =
    let l = c.loop-buffer in
    let e = c.in_err-read_line.field-0.0 in
    let fails = c.in_err-read_line.ensures in
    let P : Result Tally Interruption → Type 0 = λ r. EndsLines g.S.ByteSource.content g.S.ByteSource.is_failed g.S.ByteSource.allowance g.K.ByteSink.taken g.K.ByteSink.is_failed
    c.args.work.now c.args.input.now c.read_line.new.source c.args.out.now l.out r in
    handed_on P c.from_residual.result e c.from_residual.ensures.1
    (subst (λ (i : Interruption). P (Err i)) (sym fails.1)
    (fails_next g.S.ByteSource.content g.S.ByteSource.is_failed g.S.ByteSource.allowance g.K.ByteSink.taken g.K.ByteSink.is_failed c.args.work.now
    c.args.input.now l.input c.read_line.new.source c.args.out.now l.out l.buffer c.read_line.new.buffer l.tally l.invariant.far
    fails.0 (c.requires.by_line, reads_input c.args.work.now c.args.asked.now c.requires.asked) fails.2))

pub returns-then-not-branch : goal.returns-then-not-branch
returns-then-not-branch g c =
    let l = c.loop-buffer in
    all_answered g.S.ByteSource.content g.S.ByteSource.is_failed g.S.ByteSource.allowance g.K.ByteSink.taken g.K.ByteSink.is_failed c.args.work.now
    c.args.input.now l.input c.read_line.new.source c.args.out.now l.out l.buffer c.read_line.new.buffer l.tally l.invariant.far
    (subst (λ (b : Bool). ReadsOn g.S.ByteSource.content g.S.ByteSource.is_failed g.S.ByteSource.allowance b l.input c.read_line.new.source l.buffer c.read_line.new.buffer) c.if-not-branch.true c.in_ok-read_line.ensures)

pub answer_block-requires-clause-room : goal.answer_block-requires-clause-room
answer_block-requires-clause-room g c =
    let l = c.loop-buffer in
    let takes = subst (λ (b : Bool). ReadsOn g.S.ByteSource.content g.S.ByteSource.is_failed g.S.ByteSource.allowance b l.input c.read_line.new.source l.buffer c.read_line.new.buffer) c.if-not-branch.false c.in_ok-read_line.ensures in
    can_count g.S.ByteSource.content g.S.ByteSource.is_failed g.S.ByteSource.allowance g.K.ByteSink.taken g.K.ByteSink.is_failed c.args.work.now
    c.args.input.now l.input c.read_line.new.source c.args.out.now l.out l.buffer c.read_line.new.buffer l.tally l.invariant.far
    (g.met.S.ByteSource.bounded c.args.input.now) takes

pub returns-in_err-tally : goal.returns-in_err-tally
returns-in_err-tally g c =
    let l = c.loop-buffer in
    let e = c.in_err-tally.field-0.0 in
    let takes = subst (λ (b : Bool). ReadsOn g.S.ByteSource.content g.S.ByteSource.is_failed g.S.ByteSource.allowance b l.input c.read_line.new.source l.buffer c.read_line.new.buffer) c.if-not-branch.false c.in_ok-read_line.ensures in
    let work = c.args.work.now in
    let P : Result Tally Interruption → Type 0 = λ r. EndsLines g.S.ByteSource.content g.S.ByteSource.is_failed g.S.ByteSource.allowance g.K.ByteSink.taken g.K.ByteSink.is_failed work c.args.input.now c.read_line.new.source c.args.out.now c.answer_block.new.out r in
    handed_on P c.from_residual-in_err-tally.result e c.from_residual-in_err-tally.ensures.1
    (fails_block g.S.ByteSource.content g.S.ByteSource.is_failed g.S.ByteSource.allowance g.K.ByteSink.taken g.K.ByteSink.is_failed work
    c.args.input.now l.input c.read_line.new.source c.args.out.now l.out l.buffer c.read_line.new.buffer l.tally l.invariant.far c.answer_block.new.out e (c.requires.by_line, reads_input work c.args.asked.now c.requires.asked) takes c.in_err-tally.ensures)

pub loop-buffer-smaller : goal.loop-buffer-smaller
loop-buffer-smaller g c =
    let l = c.loop-buffer in
    let takes = subst (λ (b : Bool). ReadsOn g.S.ByteSource.content g.S.ByteSource.is_failed g.S.ByteSource.allowance b l.input c.read_line.new.source l.buffer c.read_line.new.buffer) c.if-not-branch.false c.in_ok-read_line.ensures in
    let next = c.in_ok-tally.ensures.next in
    omega (
      arith,
      line_room g.S.ByteSource.content g.S.ByteSource.is_failed g.S.ByteSource.allowance l.input c.read_line.new.source l.buffer c.read_line.new.buffer takes,
      ap (λ (t : List ℕ). length t) next.parts,
      length-append (ended c.in_ok-tally.ensures.more) c.answer_block.new.buffer.rest,
    )

pub loop-buffer-preserved : goal.loop-buffer-preserved
loop-buffer-preserved g c =
    let l = c.loop-buffer in
    let takes = subst (λ (b : Bool). ReadsOn g.S.ByteSource.content g.S.ByteSource.is_failed g.S.ByteSource.allowance b l.input c.read_line.new.source l.buffer c.read_line.new.buffer) c.if-not-branch.false c.in_ok-read_line.ensures in
    record {
      far = so_far_block g.S.ByteSource.content g.S.ByteSource.is_failed g.S.ByteSource.allowance g.K.ByteSink.taken g.K.ByteSink.is_failed c.args.work.now
          c.args.input.now l.input c.read_line.new.source c.args.out.now l.out l.buffer c.read_line.new.buffer l.tally l.invariant.far c.answer_block.new.out c.in_ok-tally.tally c.answer_block.new.buffer.rest takes c.in_ok-tally.ensures;
    }
