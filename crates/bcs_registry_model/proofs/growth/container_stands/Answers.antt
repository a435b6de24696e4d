use Rattle.bcs_registry_model.proofs.Prelude.{Some, None, sym, ◌∙◌}
use Rattle.bcs_registry_model.proofs.GrowthSteps.{container_got}
use Rattle.bcs_registry_model.proofs.growth.container_stands.Goals as goal

pub returns-in-Some : goal.returns-in-Some
returns-in-Some c =
    c.container_grows.ensures ∙ sym (container_got c.args.newer.now.entries.items c.args.name.now c.args.older.now c.get.result (Some c.in-Some.newer) c.get.ensures c.in-Some.is)

pub returns-in-None : goal.returns-in-None
returns-in-None c = sym (container_got c.args.newer.now.entries.items c.args.name.now c.args.older.now c.get.result None c.get.ensures c.in-None.is)
