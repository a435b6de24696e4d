use Rattle.bcs_registry_model.proofs.Prelude.{rules}
use Rattle.bcs_registry_model.proofs.Places.{step_before, step_met, step_after}
use Rattle.bcs_registry_model.proofs.containers.searched.Goals as goal

pub loop-entry-preserved-in-Less : goal.loop-entry-preserved-in-Less
loop-entry-preserved-in-Less c =
    step_before c.args.name.now _ c.loop-entry.left.now _ c.split_at.result.1.now c.split_at.result.0.now _ _ c.as_str.result.now c.cmp.result
    c.loop-entry.invariant c.split_at.ensures.back c.split_at.ensures.front c.in-Some.ensures.cases.0 c.as_str.ensures.value c.cmp.ensures c.in-Less.is

pub returns-in-Equal : goal.returns-in-Equal
returns-in-Equal c =
    step_met c.args.name.now _ c.loop-entry.left.now _ c.split_at.result.1.now c.split_at.result.0.now _ _ c.as_str.result.now c.cmp.result
    c.loop-entry.invariant c.split_at.ensures.back c.split_at.ensures.front c.in-Some.ensures.cases.0 c.as_str.ensures.value c.cmp.ensures c.in-Equal.is

pub loop-entry-preserved : goal.loop-entry-preserved
loop-entry-preserved c =
    step_after c.args.name.now _ c.loop-entry.left.now _ c.split_at.result.1.now c.split_at.result.0.now _ _ c.as_str.result.now c.cmp.result
    c.loop-entry.invariant c.split_at.ensures.back c.split_at.ensures.front c.in-Some.ensures.cases.0 c.as_str.ensures.value c.cmp.ensures c.in-Greater.is
