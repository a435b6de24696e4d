use Rattle.bcs_registry.proofs.Prelude.{sym, ◌∙◌, shape_of, admits_both, is_known_there}
use Rattle.bcs_registry.proofs.registry.Registry.validate_format.Goals as goal

pub returns-then-not-is_known-clause-fault : goal.returns-then-not-is_known-clause-fault
returns-then-not-is_known-clause-fault c = (
  sym c.has_few_levels.ensures ∙ c.if-not-has_few_levels.false,
  sym (is_known_there (shape_of c.args.format.now) _ c.args.self.now c.is_known.result c.is_known.ensures c.containers.ensures.is) ∙ c.if-not-is_known.true,
)

pub returns-clause-ok : goal.returns-clause-ok
returns-clause-ok c =
    let s = shape_of c.args.format.now in
    sym (admits_both s c.args.self.now c.has_few_levels.result c.is_known.result c.has_few_levels.ensures c.if-not-has_few_levels.false
    (is_known_there s _ c.args.self.now c.is_known.result c.is_known.ensures c.containers.ensures.is))
    ∙ c.if-not-is_known.false
