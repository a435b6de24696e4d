use Rattle.bcs_registry.proofs.Prelude.{ap, ◌∙◌, rules, container_at}
use Rattle.bcs_registry.proofs.registry.Registry.container.Goals as goal

pub returns-clause-found : goal.returns-clause-found
returns-clause-found c =
    let known = c.get.ensures ∙ ap (container_at c.args.name.now) c.self.view_is in
    search (rules, known)

pub returns-clause-well_formed : goal.returns-clause-well_formed
returns-clause-well_formed c = search rules

pub returns-clause-orderly : goal.returns-clause-orderly
returns-clause-orderly c = search rules
