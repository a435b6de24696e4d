use Rattle.bcs_decode.proofs.Prelude.{refl, false, rules, err_from_is_err_and, shape_of}
use Rattle.bcs_decode.proofs.Wholes.{decoded, stopped, lost_at_once}
use Rattle.bcs_decode.proofs.decoding.front.Goals as goal

pub returns-in_err-value-clause-told : goal.returns-in_err-value-clause-told
returns-in_err-value-clause-told g c =
    let p = err_from_is_err_and c.from_residual.result c.from_residual.ensures.1 in
    let depth = c.depth.ensures.is in
    let content = g.S.ByteSource.content in
    let told = stopped c.args.registry.now c.args.limits.now (shape_of c.args.format.now) (content c.args.source.now) (content c.value.new.reader.source.now) c.in_err-value.field-0.0
    (record { place = 0; known = c.args.known; nodes = c.nodes.result; is_in_key = false; kept = c.new.result }) c.value.new.reader.at.now refl c.nodes.ensures.is (rw (← depth) c.in_err-value.ensures.reads.sees) c.in_err-value.ensures.reads.goes in
    rw (p.1, p.2) (search (rules, told))

pub returns-clause-told : goal.returns-clause-told
returns-clause-told g c =
    let depth = c.depth.ensures.is in
    let content = g.S.ByteSource.content in
    let told = decoded c.args.registry.now c.args.limits.now (shape_of c.args.format.now) (content c.args.source.now) (content c.value.new.reader.source.now) c.value.new.slot
    (record { place = 0; known = c.args.known; nodes = c.nodes.result; is_in_key = false; kept = c.new.result }) c.value.new.reader.at.now refl c.nodes.ensures.is (rw (← depth) c.in_ok-value.ensures.reads.sees) c.in_ok-value.ensures.reads.goes in
    search (rules, told)

pub returns-then-failed-clause-told : goal.returns-then-failed-clause-told
returns-then-failed-clause-told g c =
    lost_at_once c.args.registry.now c.args.limits.now (shape_of c.args.format.now) (g.S.ByteSource.content c.args.source.now)

pub returns-then-failed-clause-read : goal.returns-then-failed-clause-read
returns-then-failed-clause-read g c = search rules

pub returns-then-failed-clause-memory : goal.returns-then-failed-clause-memory
returns-then-failed-clause-memory g c = search rules

pub returns-in_err-value-clause-read : goal.returns-in_err-value-clause-read
returns-in_err-value-clause-read g c = search rules

pub returns-in_err-value-clause-memory : goal.returns-in_err-value-clause-memory
returns-in_err-value-clause-memory g c = search rules

pub returns-clause-read : goal.returns-clause-read
returns-clause-read g c = search rules

pub returns-clause-memory : goal.returns-clause-memory
returns-clause-memory g c = search rules
