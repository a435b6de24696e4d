use Rattle.bcs_registry_json.proofs.Prelude.{◌≡◌, string_bytes, err_from_is_err_and, Entry, view}
use Rattle.bcs_registry_json.proofs.Containers.{container_fault, one_container, registry_written}
use Rattle.bcs_registry_json.proofs.container_text.containers_from.Goals as goal

pub returns-in_err-container-clause-fault : goal.returns-in_err-container-clause-fault
returns-in_err-container-clause-fault c =
    let e : Entry = (c.in-Some.name.now, c.in-Some.part.now) in
    let p = err_from_is_err_and c.from_residual.result c.from_residual.ensures.1 in
    rw (p.1, p.2)
    (container_fault (view c.args.value.now) c.loop-name.name-iterator c.next.new.self e c.loop-name.containers.entries _ c.loop-name.invariant c.in-Some.ensures.steps c.in_err-container.ensures.fault)

pub loop-name-preserved : goal.loop-name-preserved
loop-name-preserved c =
    let e : Entry = (c.in-Some.name.now, c.in-Some.part.now) in
    let named : string_bytes c.in_ok-clone.field-0 ≡ string_bytes e.0 = c.in_ok-clone.ensures.cases in
    one_container (view c.args.value.now) c.loop-name.name-iterator c.next.new.self e c.loop-name.containers.entries c.insert.new.self.entries
    c.in_ok-clone.field-0 c.in_ok-container.container c.loop-name.invariant c.in-Some.ensures.steps
    c.in_ok-insert.ensures.entries c.insert.ensures.ordered named c.in_ok-container.ensures.ok

pub returns-clause-ok : goal.returns-clause-ok
returns-clause-ok c =
    registry_written (view c.args.value.now) c.loop-name.name-iterator c.loop-name.containers.entries c.loop-name.invariant c.in-None.ensures.steps.0
