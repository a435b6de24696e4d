use Rattle.bcs_decode.proofs.Prelude.{ℕ, List, Some, Ok, Err, subst, arith, rules, get_or_default, shape_of, Value, AreBytes, DecodeFault, DecodesFrom, DecodesFront}
use Rattle.bcs_decode.proofs.Wholes.{front_value}
use Rattle.bcs_decode.proofs.Slices.{encoded_value, encoded_never_stops}
use Rattle.bcs_decode.proofs.slice_decoding.decode_encoded.Goals as goal

pub returns-in-Ok : goal.returns-in-Ok
returns-in-Ok c =
    let r = c.args.registry.now in
    let l = c.args.limits.now in
    let s = shape_of c.args.format.now in
    let b = c.args.bytes.now in
    let bytes : AreBytes b = λ k d lt. (let same = get_or_default b k d 0 lt in omega (arith, same, c.type_inv.bytes k)) in
    let found : Value × ℕ = (c.in-Ok.value, c.in-Ok.field-0-1) in
    let told = subst (λ (x : List ℕ). DecodesFront r l s (Some x) (Some c.front.new.source) (Ok found)) c.new-source.ensures (search rules) in
    encoded_value r l s b (Some c.front.new.source) bytes c.requires c.in-Ok.value (front_value r l s (Some b) (Some c.front.new.source) found told)

pub unreachable-requires : goal.unreachable-requires
unreachable-requires c =
    let r = c.args.registry.now in
    let l = c.args.limits.now in
    let s = shape_of c.args.format.now in
    let b = c.args.bytes.now in
    let bytes : AreBytes b = λ k d lt. (let same = get_or_default b k d 0 lt in omega (arith, same, c.type_inv.bytes k)) in
    let told = subst (λ (x : List ℕ). DecodesFrom r l s (Some x) (Some c.front.new.source) (Err c.in-Err-Stop.field-0)) c.new-source.ensures c.in-Err-Stop.ensures.told in
    encoded_never_stops r l s b (Some c.front.new.source) bytes c.requires c.in-Err-Stop.field-0-0 (subst (λ (x : DecodeFault). DecodesFrom r l s (Some b) (Some c.front.new.source) (Err x)) c.in-Err-Stop.field-0-is told)
