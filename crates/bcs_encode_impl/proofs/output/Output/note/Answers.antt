use Rattle.bcs_encode_impl.proofs.OutputSteps.{failed}
use Rattle.bcs_encode_impl.proofs.output.Output.note.Goals as goal

pub returns-clause-full : goal.returns-clause-full
returns-clause-full c = failed c.push.result _ c.args.self.now.extent c.after-self.result c.is_ok-done.result c.is_ok-done.ensures.value c.after-self.ensures c.push.ensures.full
