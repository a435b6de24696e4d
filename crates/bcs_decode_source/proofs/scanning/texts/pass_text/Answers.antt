use Rattle.bcs_decode_source.proofs.Prelude.{◌≡◌, ◌+◌, ◌-◌, ◌<◌, ◌≤◌, ◌⊎◌, inl, inr, ◌∙◌, arith}
use Rattle.bcs_decode_source.proofs.Readers.{Onward-none, Onward-then, Onward-ends, Onward-stops, Onward-done, Reads-exit}
use Rattle.bcs_decode_source.proofs.PastTexts.{text_none, text_more, text_refused, text_cut, text_good, text_bad}
use Rattle.bcs_decode_source.proofs.scanning.texts.pass_text.Goals as goal
use Rattle.bcs_decode_source.proofs.scanning.texts.pass_text.Goals.{then-loop-done-test+else-done-good-le-HELD, else-loop-done-test}

pub loop-done-init : goal.loop-done-init
loop-done-init g c = record {
  on = Onward-none c.requires.ready;
  block = omega arith;
  sees = text_none c.args.count _ (g.S.ByteSource.content c.args.reader.now.source.now) c.args.reader.now.at.now;
}

pub returns-in_err-read_behind-clause-reads : goal.returns-in_err-read_behind-clause-reads
returns-in_err-read_behind-clause-reads g c =
    let l = c.loop-done in
    Reads-exit c.from_residual.ensures.1 (Onward-ends l.invariant.on c.in_err-read_behind.ensures.reads
    (text_refused c.args.count l.good l.done l.block _ _ c.args.reader.now.at.now l.reader.at.now l.invariant.sees c.in_err-read_behind.field-0.0 c.min-size.result (omega (arith, c.min-size.ensures)) c.in_err-read_behind.ensures.reads.sees))

pub loop-done-preserved : goal.loop-done-preserved
loop-done-preserved g c =
    let l = c.loop-done in
    let read = c.in_ok-read_behind.ensures in
    let room : (l.done - l.good) + c.min-size.result ≤ 515 = omega (arith, c.if-done-good-le-HELD.true, c.min-size.ensures) in
    record {
      on = Onward-then l.invariant.on read.reads;
      block = c.settle.ensures.len ∙ read.len ∙ l.invariant.block;
      sees = text_more c.args.count l.good l.done l.block _ _ c.args.reader.now.at.now l.reader.at.now l.invariant.sees c.min-size.result c.settle.result c.read_behind.new.block c.settle.new.block _ c.read_behind.new.reader.at.now
          (omega (arith, c.min-size.ensures)) (omega (arith, room, read.len, l.invariant.block)) read.held c.settle.ensures.within c.settle.ensures.text c.settle.ensures.held c.settle.ensures.behind read.far read.reads.sees;
    }

pub returns-in_err-pass_bytes-clause-reads : goal.returns-in_err-pass_bytes-clause-reads
returns-in_err-pass_bytes-clause-reads g c =
    let l = c.loop-done in
    Reads-exit c.from_residual-in_err-pass_bytes.ensures.1 (Onward-ends l.invariant.on c.in_err-pass_bytes.ensures.reads
    (text_cut c.args.count l.good l.done l.block _ _ c.args.reader.now.at.now l.reader.at.now l.invariant.sees c.in_err-pass_bytes.field-0.0 c.in_err-pass_bytes.ensures.reads.sees))

pub returns-then-good-count-clause-reads : goal.returns-then-good-count-clause-reads
returns-then-good-count-clause-reads g c =
    let l = c.loop-done in
    let all = l.invariant.sees.within in
    let ends : (l.done ≡ c.args.count) ⊎ (3 < l.done - l.good) = elim c.loop-done-test.branch [
      | then-loop-done-test+else-done-good-le-HELD w ↦ inr (omega (arith, w.if-done-good-le-HELD.false))
      | else-loop-done-test w ↦ inl (omega (arith, w.loop-done-test.false, all))
    ] in
    let on = Onward-then l.invariant.on c.in_ok-pass_bytes.ensures.reads in
    rw c.from.ensures (Onward-stops on (omega (arith, c.in_ok-pass_bytes.ensures.reads.goes.later, l.invariant.sees.far, l.invariant.sees.order))
    (text_bad c.args.count l.good l.done l.block _ _ c.args.reader.now.at.now l.reader.at.now l.invariant.sees _ c.pass_bytes.new.reader.at.now c.in_ok-pass_bytes.ensures.reads.sees c.if-good-count.true ends))

pub returns-clause-reads : goal.returns-clause-reads
returns-clause-reads g c =
    let l = c.loop-done in
    Onward-done (Onward-then l.invariant.on c.in_ok-pass_bytes.ensures.reads)
    (text_good c.args.count l.good l.done l.block _ _ c.args.reader.now.at.now l.reader.at.now l.invariant.sees _ c.pass_bytes.new.reader.at.now c.in_ok-pass_bytes.ensures.reads.sees
    (omega (arith, c.if-good-count.false, l.invariant.sees.order, l.invariant.sees.within)))
