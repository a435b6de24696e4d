use Rattle.bcs_tool.proofs.Prelude.{◌≡◌, ◌≤◌, ◌∙◌, Bool, List, Result, HeldLine, ap, arith, length, refl, subst, sym, ℕ, size_limit, AnswersLine, BlockAnswered, BlockStopped, EndsBlock, Interruption, TakesHeld, Tally, line_below}
use Rattle.bcs_tool.proofs.BlockLemmas.{among, block_answered, block_broken, block_lost, held_before, held_with, in_first, in_next, none_left, one_answered}
use Rattle.bcs_tool.proofs.RunLemmas.{handed_on}
use Rattle.bcs_tool.proofs.lines.block.answer_block.Goals as goal
use Rattle.bcs_tool.proofs.lines.block.answer_block.Goals.{then-is_full-via-then-is_full, then-is_full-via-else-is_full+then-not-take_held_line}

pub loop-status-init : goal.loop-status-init
loop-status-init g c = record {
  still = refl;
  far = in_first c.args.work.now c.args.earlier c.args.buffer.now c.new-held.result c.new-held.ensures.bytes c.new-held.ensures.lengths
      c.requires.within c.requires.few c.requires.room;
}

pub hold_answer-requires-clause-within : goal.hold_answer-requires-clause-within
hold_answer-requires-clause-within g c = subst (λ (line : List ℕ). length line ≤ size_limit) (sym c.line.ensures) c.loop-status.invariant.far.within

pub with-tally-requires-clause-counted : goal.with-tally-requires-clause-counted
with-tally-requires-clause-counted g c = (_, c.loop-status.invariant.far.counted c.requires.counted.0 c.requires.counted.1)

pub with-tally-requires-clause-below : goal.with-tally-requires-clause-below
with-tally-requires-clause-below g c =
    let put = c.in-Ok.ensures in
    line_below c.args.work.now c.line.result.now c.in-Ok.status put.0 put.1

pub with-tally-requires-clause-room : goal.with-tally-requires-clause-room
with-tally-requires-clause-room g c = omega (arith, c.loop-status.invariant.far.room)

pub write_to-requires : goal.write_to-requires
write_to-requires g c =
    let l = c.loop-status in
    record {
      among = among c.args.work.now c.args.earlier c.args.buffer.now c.requires.counted.0 c.requires.counted.1 l.tally l.buffer.rest c.hold_answer.new.held
          (held_before c.args.work.now c.args.earlier c.args.buffer.now l.tally l.buffer l.held l.invariant.far c.hold_answer.new.held c.in-Err.ensures.0 c.in-Err.ensures.1);
    }

pub returns-in_err-write_to-in-Err : goal.returns-in_err-write_to-in-Err
returns-in_err-write_to-in-Err g c =
    let l = c.loop-status in
    let e = c.in_err-write_to-in-Err.field-0.0 in
    let P : Result Tally Interruption → Type 0 = λ r. EndsBlock g.K.ByteSink.taken g.K.ByteSink.is_failed c.args.work.now c.args.earlier c.args.buffer.now l.buffer c.args.out.now c.write_to.new.out r in
    handed_on P c.from_residual.result e c.from_residual.ensures.1
    (subst (λ (o : g.row.K.Denot). BlockStopped g.K.ByteSink.taken g.K.ByteSink.is_failed c.args.work.now c.args.earlier c.args.buffer.now o c.write_to.new.out e) l.invariant.still (block_broken c.args.work.now c.args.earlier c.args.buffer.now c.requires.counted.0 c.requires.counted.1 l.tally l.buffer.rest c.hold_answer.new.held
    (held_before c.args.work.now c.args.earlier c.args.buffer.now l.tally l.buffer l.held l.invariant.far c.hold_answer.new.held c.in-Err.ensures.0 c.in-Err.ensures.1)
    g.K.ByteSink.taken g.K.ByteSink.is_failed l.out c.write_to.new.out e c.in_err-write_to-in-Err.ensures.part))

pub returns-in-Err : goal.returns-in-Err
returns-in-Err g c =
    let l = c.loop-status in
    let e : Interruption = record { fault = c.from.result.fault; answered = l.tally.answered } in
    subst (λ (o : g.row.K.Denot). BlockStopped g.K.ByteSink.taken g.K.ByteSink.is_failed c.args.work.now c.args.earlier c.args.buffer.now o c.write_to.new.out e) l.invariant.still (block_lost c.args.work.now c.args.earlier c.args.buffer.now c.requires.counted.0 c.requires.counted.1 l.tally l.buffer.rest c.hold_answer.new.held
    (held_before c.args.work.now c.args.earlier c.args.buffer.now l.tally l.buffer l.held l.invariant.far c.hold_answer.new.held c.in-Err.ensures.0 c.in-Err.ensures.1)
    g.K.ByteSink.taken g.K.ByteSink.is_failed l.out c.write_to.new.out e (ap (λ (i : Interruption). record i { answered = l.tally.answered }) c.from.ensures) c.in_ok-write_to-in-Err.ensures.all)

pub write_to-requires-then-is_full : goal.write_to-requires-then-is_full
write_to-requires-then-is_full g c =
    let l = c.loop-status in
    let put = c.in-Ok.ensures in
    record {
      among = among c.args.work.now c.args.earlier c.args.buffer.now c.requires.counted.0 c.requires.counted.1 c.with-tally.result l.buffer.rest c.hold_answer.new.held
          (held_with c.args.work.now c.args.earlier c.args.buffer.now l.tally l.buffer l.held l.invariant.far c.hold_answer.new.held c.in-Ok.status put.0 c.with-tally.result
          (subst (λ (line : List ℕ). AnswersLine c.args.work.now line c.in-Ok.status put.0) c.line.ensures put.1) put.2 put.3 c.with-tally.ensures l.buffer.rest refl);
    }

pub returns-in_err-write_to : goal.returns-in_err-write_to
returns-in_err-write_to g c =
    let l = c.loop-status in
    let put = c.in-Ok.ensures in
    let e = c.in_err-write_to.field-0.0 in
    let P : Result Tally Interruption → Type 0 = λ r. EndsBlock g.K.ByteSink.taken g.K.ByteSink.is_failed c.args.work.now c.args.earlier c.args.buffer.now c.then-is_full.buffer c.args.out.now c.write_to-then-is_full.new.out r in
    handed_on P c.from_residual-in_err-write_to.result e c.from_residual-in_err-write_to.ensures.1
    (subst (λ (o : g.row.K.Denot). BlockStopped g.K.ByteSink.taken g.K.ByteSink.is_failed c.args.work.now c.args.earlier c.args.buffer.now o c.write_to-then-is_full.new.out e) l.invariant.still (block_broken c.args.work.now c.args.earlier c.args.buffer.now c.requires.counted.0 c.requires.counted.1 c.with-tally.result l.buffer.rest c.hold_answer.new.held
    (held_with c.args.work.now c.args.earlier c.args.buffer.now l.tally l.buffer l.held l.invariant.far c.hold_answer.new.held c.in-Ok.status put.0 c.with-tally.result
    (subst (λ (line : List ℕ). AnswersLine c.args.work.now line c.in-Ok.status put.0) c.line.ensures put.1) put.2 put.3 c.with-tally.ensures l.buffer.rest refl)
    g.K.ByteSink.taken g.K.ByteSink.is_failed l.out c.write_to-then-is_full.new.out e c.in_err-write_to.ensures.part))

pub returns-then-is_full : goal.returns-then-is_full
returns-then-is_full g c =
    let l = c.loop-status in
    let put = c.in-Ok.ensures in
    let same : c.then-is_full.buffer.rest ≡ l.buffer.rest = elim c.then-is_full.branch [
      | then-is_full-via-then-is_full w ↦ ap (λ (b : HeldLine). b.rest) w.buffer-is
      | then-is_full-via-else-is_full+then-not-take_held_line w ↦ ap (λ (b : HeldLine). b.rest) w.buffer-is
          ∙ subst (λ (b : Bool). TakesHeld l.buffer w.take_held_line.new.buffer b) w.if-not-take_held_line.true w.take_held_line.ensures
    ] in
    subst (λ (o : g.row.K.Denot). BlockAnswered g.K.ByteSink.taken g.K.ByteSink.is_failed c.args.work.now c.args.earlier c.with-tally.result c.args.buffer.now c.then-is_full.buffer.rest o c.write_to-then-is_full.new.out) l.invariant.still (block_answered c.args.work.now c.args.earlier c.args.buffer.now c.requires.counted.0 c.requires.counted.1 c.with-tally.result c.then-is_full.buffer.rest c.hold_answer.new.held
    (held_with c.args.work.now c.args.earlier c.args.buffer.now l.tally l.buffer l.held l.invariant.far c.hold_answer.new.held c.in-Ok.status put.0 c.with-tally.result
    (subst (λ (line : List ℕ). AnswersLine c.args.work.now line c.in-Ok.status put.0) c.line.ensures put.1) put.2 put.3 c.with-tally.ensures c.then-is_full.buffer.rest same)
    g.K.ByteSink.taken g.K.ByteSink.is_failed l.out c.write_to-then-is_full.new.out (none_left c.args.work.now c.args.earlier c.args.buffer.now l.tally l.buffer l.held l.invariant.far c.hold_answer.new.held c.in-Ok.status put.0 c.with-tally.result
    (subst (λ (line : List ℕ). AnswersLine c.args.work.now line c.in-Ok.status put.0) c.line.ensures put.1) put.2 put.3 c.with-tally.ensures c.then-is_full.buffer.rest same) c.in_ok-write_to.ensures.all)

pub loop-status-preserved : goal.loop-status-preserved
loop-status-preserved g c =
    let l = c.loop-status in
    let far = l.invariant.far in
    let put = c.in-Ok.ensures in
    let known = far.counted c.requires.counted.0 c.requires.counted.1 in
    let takes = subst (λ (b : Bool). TakesHeld l.buffer c.take_held_line.new.buffer b) c.if-not-take_held_line.false c.take_held_line.ensures in
    record {
      still = l.invariant.still;
      far = in_next c.args.work.now c.args.earlier c.args.buffer.now l.tally l.buffer l.held far c.hold_answer.new.held c.in-Ok.status put.0 c.with-tally.result
          (subst (λ (line : List ℕ). AnswersLine c.args.work.now line c.in-Ok.status put.0) c.line.ensures put.1) put.2 put.3 c.with-tally.ensures
          c.take_held_line.new.buffer takes.0 takes.1 (one_answered l.tally c.with-tally.result c.in-Ok.status _ c.with-tally.ensures known);
    }
