use Rattle.bcs_registry_model.proofs.Prelude.{sym, subst}
use Rattle.bcs_registry_model.proofs.Rising.{names_rise}
use Rattle.bcs_registry_model.proofs.Places.{Rise, whole}
use Rattle.bcs_registry_model.proofs.containers.Containers.of.Goals as goal

pub invariant_of-result : goal.invariant_of-result
invariant_of-result c = record {
  rise = subst Rise (sym (whole c.loop-entry.entries.items c.loop-entry.entry-iterator c.args.containers.entries c.in-None.ensures.steps.0 c.loop-entry.invariant)) (names_rise c.args.containers.entries c.len.ensures.ordered);
}
