use Rattle.bcs_tool.proofs.Prelude.{Err, ap}
use Rattle.bcs_tool.proofs.ScanLemmas.{scanned_count, scanned_refusal}
use Rattle.bcs_tool.proofs.jobs.scanning.scan_input.Goals as goal

pub returns-in_ok-counted-in-Ok : goal.returns-in_ok-counted-in-Ok
returns-in_ok-counted-in-Ok g c =
    scanned_count c.args.work.now c.args.asked.now c.requires.asked c.requires.streams (g.S.ByteSource.content c.args.input.now) (g.S.ByteSource.content c.scanned.new.input)
    c.in-Ok.length c.in_ok-counted-in-Ok.field-0 c.in-Ok.ensures.told c.in_ok-counted-in-Ok.ensures

pub returns-in-Err : goal.returns-in-Err
returns-in-Err g c =
    scanned_refusal c.args.work.now c.args.asked.now c.requires.asked c.requires.streams g.S.ByteSource.content g.S.ByteSource.is_failed c.args.input.now c.scanned.new.input
    c.in-Err.fault c.refusal.result c.in-Err.ensures.told (λ same. c.in-Err.ensures.read.0 (ap Err same)) c.refusal.ensures
