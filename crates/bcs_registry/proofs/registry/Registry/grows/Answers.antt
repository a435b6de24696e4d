use Rattle.bcs_registry.proofs.Prelude.{ap, ◌∙◌, growth_fault, rules, entries_of, ok_exactly, fault_exactly, enums_rise}
use Rattle.bcs_registry.proofs.registry.Registry.grows.Goals as goal

pub returns-clause-ok : goal.returns-clause-ok
returns-clause-ok c =
    let known = ok_exactly c.args.self.now c.args.newer.now c.containers_grow.result
    (c.containers_grow.ensures.fault ∙ ap (λ r. growth_fault r (entries_of c.containers-2.result.now.entries.items)) c.containers.ensures.is ∙ ap (growth_fault c.args.self.now) c.containers-2.ensures.is) in
    search (rules, known)

pub returns-clause-fault : goal.returns-clause-fault
returns-clause-fault c e =
    let known = fault_exactly c.args.self.now c.args.newer.now c.containers_grow.result
    (c.containers_grow.ensures.fault ∙ ap (λ r. growth_fault r (entries_of c.containers-2.result.now.entries.items)) c.containers.ensures.is ∙ ap (growth_fault c.args.self.now) c.containers-2.ensures.is) e in
    search (rules, known)

pub returns-clause-rising : goal.returns-clause-rising
returns-clause-rising c = c.containers.ensures.orderly.names

pub returns-clause-upwards : goal.returns-clause-upwards
returns-clause-upwards c = enums_rise c.args.self.now c.containers.ensures.orderly.containers
