use Rattle.bcs_decode.proofs.Prelude.{take, arith, rules, length-take, shape_of}
use Rattle.bcs_decode.proofs.Wholes.{all_by, all_stop, all_lost, trails_by}
use Rattle.bcs_decode.proofs.decoding.decode_all.Goals as goal

pub returns-in-Ok-next-clause-told : goal.returns-in-Ok-next-clause-told
returns-in-Ok-next-clause-told g c =
    let content = g.S.ByteSource.content in
    let given = take c.in-Ok-next.field-0 c.next.new.buf in
    trails_by c.args.registry.now c.args.limits.now (shape_of c.args.format.now) (content c.args.source.now) (content c.front.new.source) (content c.next.new.self)
    (c.in-Ok.value, c.in-Ok.length) given (omega (arith, length-take c.in-Ok-next.field-0 c.next.new.buf, c.next.auto.buf, c.in-Ok-next.ensures.0, c.in-Ok-next.field-0-test.1)) c.in-Ok.ensures.told c.in-Ok-next.ensures.2.front

pub returns-in-Ok-eq0-clause-told : goal.returns-in-Ok-eq0-clause-told
returns-in-Ok-eq0-clause-told g c =
    let content = g.S.ByteSource.content in
    let given = take c.in-Ok-eq0.field-0 c.next.new.buf in
    all_by c.args.registry.now c.args.limits.now (shape_of c.args.format.now) (content c.args.source.now) (content c.front.new.source) (content c.next.new.self)
    (c.in-Ok.value, c.in-Ok.length) given (omega (arith, length-take c.in-Ok-eq0.field-0 c.next.new.buf, c.in-Ok-eq0.field-0-test)) c.in-Ok.ensures.told c.in-Ok-eq0.ensures.2.front
    (c.in-Ok-eq0.ensures.3 c.in-Ok-eq0.field-0-test (omega (arith, c.next.auto.buf)))

pub returns-in-Ok-eq0-clause-read : goal.returns-in-Ok-eq0-clause-read
returns-in-Ok-eq0-clause-read g c = search rules

pub returns-in-Ok-eq0-clause-memory : goal.returns-in-Ok-eq0-clause-memory
returns-in-Ok-eq0-clause-memory g c = search rules

pub returns-in-Ok-next-clause-read : goal.returns-in-Ok-next-clause-read
returns-in-Ok-next-clause-read g c = search rules

pub returns-in-Ok-next-clause-memory : goal.returns-in-Ok-next-clause-memory
returns-in-Ok-next-clause-memory g c = search rules

pub returns-in-Err-next-clause-told : goal.returns-in-Err-next-clause-told
returns-in-Err-next-clause-told g c =
    let content = g.S.ByteSource.content in
    all_lost c.args.registry.now c.args.limits.now (shape_of c.args.format.now) (content c.args.source.now) (content c.front.new.source) (content c.next.new.self)
    (c.in-Ok.value, c.in-Ok.length) c.in-Ok.ensures.told c.in-Err-next.ensures.front

pub returns-in-Err-next-clause-read : goal.returns-in-Err-next-clause-read
returns-in-Err-next-clause-read g c = search rules

pub returns-in-Err-next-clause-memory : goal.returns-in-Err-next-clause-memory
returns-in-Err-next-clause-memory g c = search rules

pub returns-in-Err-clause-told : goal.returns-in-Err-clause-told
returns-in-Err-clause-told g c =
    let content = g.S.ByteSource.content in
    all_stop c.args.registry.now c.args.limits.now (shape_of c.args.format.now) (content c.args.source.now) (content c.front.new.source) c.in-Err.fault c.in-Err.ensures.told

pub returns-in-Err-clause-read : goal.returns-in-Err-clause-read
returns-in-Err-clause-read g c = search rules

pub returns-in-Err-clause-memory : goal.returns-in-Err-clause-memory
returns-in-Err-clause-memory g c = search rules
