use Rattle.bcs_tool.proofs.Prelude.{Result, Outcome, Ends, Interruption}
use Rattle.bcs_tool.proofs.RunLemmas.{handed_on}
use Rattle.bcs_tool.proofs.ScanLemmas.{put_scan, scan_fails}
use Rattle.bcs_tool.proofs.jobs.scanning.answer_scan.Goals as goal

pub returns-in_err-answer : goal.returns-in_err-answer
returns-in_err-answer g c =
    let e = c.in_err-answer.field-0.0 in
    let P : Result Outcome Interruption → Type 0 = λ r. Ends g.S.ByteSource.content g.S.ByteSource.is_failed g.S.ByteSource.allowance g.K.ByteSink.taken g.K.ByteSink.is_failed
    c.args.work.now c.args.input.now c.scan_input.new.input c.args.out.now c.args.out.now r in
    handed_on P c.from_residual.result e c.from_residual.ensures.1
    (scan_fails g.S.ByteSource.content g.S.ByteSource.is_failed g.S.ByteSource.allowance g.K.ByteSink.taken g.K.ByteSink.is_failed c.args.work.now c.requires.streams
    c.args.input.now c.scan_input.new.input c.args.out.now e c.in_err-answer.ensures.0 c.in_err-answer.ensures.1)

pub returns : goal.returns
returns g c =
    put_scan g.S.ByteSource.content g.S.ByteSource.is_failed g.S.ByteSource.allowance g.K.ByteSink.taken g.K.ByteSink.is_failed c.args.work.now c.requires.streams
    c.args.input.now c.scan_input.new.input c.args.out.now c.put_answer.new.out c.in_ok-answer.answer c.put_answer.result c.in_ok-answer.ensures c.put_answer.ensures
