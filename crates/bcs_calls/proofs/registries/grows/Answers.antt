use Rattle.bcs_calls.proofs.Prelude.{subst, Entries, Grows, IsFirstGrowthFault, no_newer, no_older, Newer, Registry}
use Rattle.bcs_calls.specs.Registries.{given}
use Rattle.bcs_calls.proofs.Once.{one_registry, registry_stands}
use Rattle.bcs_calls.proofs.registries.grows.Goals as goal

pub returns-in-Err-clause-answers : goal.returns-in-Err-clause-answers
returns-in-Err-clause-answers c = no_older c.in-Err.ensures.err

pub returns-in-Err-clause-grown : goal.returns-in-Err-clause-grown
returns-in-Err-clause-grown c r q h k g memory = absurd (memory (registry_stands c.args.older.now r Registry c.in-Err.answer h c.in-Err.ensures.err))

pub returns-in-Err-clause-broken : goal.returns-in-Err-clause-broken
returns-in-Err-clause-broken c r q e h k g memory = absurd (memory (registry_stands c.args.older.now r Registry c.in-Err.answer h c.in-Err.ensures.err))

pub returns-in-Err-read_registry-clause-answers : goal.returns-in-Err-read_registry-clause-answers
returns-in-Err-read_registry-clause-answers c = no_newer c.in-Ok.registry c.in-Ok.ensures.ok c.in-Err-read_registry.ensures.err

pub returns-in-Err-read_registry-clause-grown : goal.returns-in-Err-read_registry-clause-grown
returns-in-Err-read_registry-clause-grown c r q h k g memory =
    absurd (memory (registry_stands c.args.newer.now q Newer c.in-Err-read_registry.answer k c.in-Err-read_registry.ensures.err))

pub returns-in-Err-read_registry-clause-broken : goal.returns-in-Err-read_registry-clause-broken
returns-in-Err-read_registry-clause-broken c r q e h k g memory =
    absurd (memory (registry_stands c.args.newer.now q Newer c.in-Err-read_registry.answer k c.in-Err-read_registry.ensures.err))

pub returns-clause-answers : goal.returns-clause-answers
returns-clause-answers c = given c.in-Ok.registry c.in-Ok-read_registry.registry c.in-Ok.ensures.ok c.in-Ok-read_registry.ensures.ok c.growth.ensures.answers

pub returns-clause-grown : goal.returns-clause-grown
returns-clause-grown c r q h k g memory =
    let older = one_registry c.args.older.now r c.in-Ok.registry h c.in-Ok.ensures.ok in
    let newer = one_registry c.args.newer.now q c.in-Ok-read_registry.registry k c.in-Ok-read_registry.ensures.ok in
    c.growth.ensures.grown (subst (λ (x : Entries). Grows c.in-Ok.registry x) newer (subst (λ (x : Entries). Grows x q) older g))

pub returns-clause-broken : goal.returns-clause-broken
returns-clause-broken c r q e h k g memory =
    let older = one_registry c.args.older.now r c.in-Ok.registry h c.in-Ok.ensures.ok in
    let newer = one_registry c.args.newer.now q c.in-Ok-read_registry.registry k c.in-Ok-read_registry.ensures.ok in
    c.growth.ensures.broken e (subst (λ (x : Entries). IsFirstGrowthFault c.in-Ok.registry x e) newer (subst (λ (x : Entries). IsFirstGrowthFault x q e) older g))
