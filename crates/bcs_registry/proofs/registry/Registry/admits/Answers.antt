use Rattle.bcs_registry.proofs.Prelude.{shape_of, admits_both, is_known_there}
use Rattle.bcs_registry.proofs.registry.Registry.admits.Goals as goal

pub returns-then-has_few_levels-clause-answer : goal.returns-then-has_few_levels-clause-answer
returns-then-has_few_levels-clause-answer c =
    let s = shape_of c.args.format.now in
    admits_both s c.args.self.now c.has_few_levels.result c.is_known.result c.has_few_levels.ensures c.if-has_few_levels.true
    (is_known_there s _ c.args.self.now c.is_known.result c.is_known.ensures c.containers-containers.ensures.is)
