use Rattle.bcs_decode.proofs.Prelude.{ℕ, List, Some, Err, ap, subst, arith, rules, get_or_default, shape_of, AreBytes, DecodesFrom}
use Rattle.bcs_decode.proofs.Slices.{refused_slice}
use Rattle.bcs_decode.proofs.slice_decoding.decode_slice.Goals as goal

pub returns-in-Ok-front-clause-stopped : goal.returns-in-Ok-front-clause-stopped
returns-in-Ok-front-clause-stopped c = λ e o bad. absurd (let h = c.in-Ok.ensures.stopped e o bad in cc)

pub returns-in-Err-front-clause-decodes : goal.returns-in-Err-front-clause-decodes
returns-in-Err-front-clause-decodes c =
    let r = c.args.registry.now in
    let l = c.args.limits.now in
    let s = shape_of c.args.format.now in
    let b = c.args.bytes.now in
    let bytes : AreBytes b = λ k d lt. (let same = get_or_default b k d 0 lt in omega (arith, same, c.type_inv.bytes k)) in
    let told = subst (λ (x : List ℕ). DecodesFrom r l s (Some x) (Some c.front.new.source) (Err c.in-Err-front.fault)) c.new-source.ensures c.in-Err-front.ensures.told in
    refused_slice r l s b (Some c.front.new.source) c.in-Err-front.fault bytes told (λ read. (let h = c.in-Err-front.ensures.read.0 (ap Err read) in cc)) (c.in-Ok.length, c.in-Ok.ensures.found.0, c.in-Ok.ensures.found.1)

pub returns-in-Err-front-clause-stopped : goal.returns-in-Err-front-clause-stopped
returns-in-Err-front-clause-stopped c = λ e o bad. absurd (let h = c.in-Ok.ensures.stopped e o bad in cc)

pub returns-in-Ok-front-clause-memory : goal.returns-in-Ok-front-clause-memory
returns-in-Ok-front-clause-memory c = search rules

pub returns-in-Err-front-clause-memory : goal.returns-in-Err-front-clause-memory
returns-in-Err-front-clause-memory c = search rules

pub returns-in-Err-clause-decodes : goal.returns-in-Err-clause-decodes
returns-in-Err-clause-decodes c = search rules

pub returns-in-Err-clause-stopped : goal.returns-in-Err-clause-stopped
returns-in-Err-clause-stopped c = search rules

pub returns-in-Err-clause-memory : goal.returns-in-Err-clause-memory
returns-in-Err-clause-memory c = search rules
