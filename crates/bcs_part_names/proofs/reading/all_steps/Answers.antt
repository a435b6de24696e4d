use Rattle.std.proofs.lemmas.Result.{err_from_is_err_and}
use Rattle.bcs_decode_parts.specs.declared.path_fault.PathFault.TheVariants.{BadPath}
use Rattle.bcs_part_names.proofs.Prelude.{◌≡◌, ◌∙◌, ◌∷◌, [], Err, ap, sym, map-append, all_named, named}
use Rattle.bcs_part_names.proofs.Steps.{read_more, read_short, read_ends, read_stops}
use Rattle.bcs_part_names.proofs.reading.all_steps.Goals as goal

pub returns-in_err-step-clause-bad : goal.returns-in_err-step-clause-bad
returns-in_err-step-clause-bad c =
    let told = err_from_is_err_and c.from_residual.result c.from_residual.ensures.1 in
    λ bad. let both = sym told.1 ∙ bad in
    let is : told.0 ≡ BadPath = cc in
    sym c.loop-rest.invariant ∙ read_stops (all_named c.loop-rest.steps.items) c.loop-rest.rest.now (sym c.is_empty.ensures ∙ c.loop-rest-test.true) (c.in_err-step.ensures.bad (ap Err (sym told.2 ∙ is)))

pub loop-rest-smaller : goal.loop-rest-smaller
loop-rest-smaller c = read_short c.loop-rest.rest.now (named c.in_ok-step.step) c.in_ok-step.behind.now c.in_ok-step.ensures.ok

pub loop-rest-preserved : goal.loop-rest-preserved
loop-rest-preserved c =
    rw (c.in_ok-push.ensures.items, map-append named c.loop-rest.steps.items (c.in_ok-step.step ∷ []))
    (sym (read_more (all_named c.loop-rest.steps.items) c.loop-rest.rest.now (named c.in_ok-step.step) c.in_ok-step.behind.now c.in_ok-step.ensures.ok) ∙ c.loop-rest.invariant)

pub returns-clause-ok : goal.returns-clause-ok
returns-clause-ok c =
    sym c.loop-rest.invariant
    ∙ read_ends (all_named c.loop-rest.steps.items) c.loop-rest.rest.now (sym c.is_empty.ensures ∙ c.loop-rest-test.false)
