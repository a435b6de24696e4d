use Rattle.bcs_calls.proofs.Prelude.{shape_of, all_spelled}
use Rattle.bcs_calls.specs.Contents.{stepped, stopped}
use Rattle.bcs_calls.proofs.NameRefusals.{path_refused}
use Rattle.bcs_calls.proofs.contents.spelled_path.Goals as goal

pub returns-in-Err-clause-err : goal.returns-in-Err-clause-err
returns-in-Err-clause-err c =
    let asked = c.args.asked.now in
    path_refused asked.registry.now asked.limits (shape_of asked.format.now) c.args.bytes.now c.args.path.now c.in-Err.answer c.in-Err.ensures.err

pub returns-in-Err-scan-clause-err : goal.returns-in-Err-scan-clause-err
returns-in-Err-scan-clause-err c =
    stepped (all_spelled c.in-Ok.spelled.items) c.in-Ok.ensures.ok (stopped c.in-Err-scan.stop.reason c.in-Err-scan.stop.place c.in-Err-scan.ensures.stops c.stopped.ensures)
