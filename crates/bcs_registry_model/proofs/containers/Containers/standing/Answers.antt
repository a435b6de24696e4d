use Rattle.bcs_registry_model.proofs.Prelude.{arith}
use Rattle.bcs_registry_model.proofs.Places.{read_at}
use Rattle.bcs_registry_model.proofs.containers.Containers.standing.Goals as goal

pub returns-then-eq : goal.returns-then-eq
returns-then-eq c =
    read_at c.args.self.now.entries.items c.args.place c.index.result.now c.index-then-eq.result.now c.as_str.result.now c.args.name.now c.eq.result
    c.args.self.now.rise (omega (arith, c.if-place-len.true, c.len.ensures, c.args.self.now.entries.ok)) c.index.ensures c.index-then-eq.ensures c.as_str.ensures.value c.eq.ensures c.if-eq.true
