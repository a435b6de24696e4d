use Rattle.bcs_decode_parts.proofs.Prelude.{ap, subst, map, Content, payload_shape, choice_of, payload_of, Fronts, content_of}
use Rattle.bcs_decode_parts.proofs.HolderSteps.{variant_stands}
use Rattle.bcs_decode_parts.proofs.passing.after_reached.Goals as goal

pub returns-in-Value : goal.returns-in-Value
returns-in-Value c = λ t after h.
    c.after_value.ensures t after (subst (λ (f : Content). Fronts c.args.registry.now c.args.at.now.ahead f t after) (ap content_of c.in-Value.is) h)

pub returns-in-Tuple : goal.returns-in-Tuple
returns-in-Tuple c = λ t after h.
    c.after_formats.ensures t after (subst (λ (f : Content). Fronts c.args.registry.now c.args.at.now.ahead f t after) (ap content_of c.in-Tuple.is) h)

pub returns-in-Fields : goal.returns-in-Fields
returns-in-Fields c = λ t after h.
    c.after_fields.ensures t after (subst (λ (f : Content). Fronts c.args.registry.now c.args.at.now.ahead f t after) (ap content_of c.in-Fields.is) h)

pub returns-in_ok-held-in-Variants : goal.returns-in_ok-held-in-Variants
returns-in_ok-held-in-Variants c = λ t after h.
    (let r = c.args.registry.now in
    let ahead = c.args.at.now.ahead in
    let k = c.in_ok-held-in-Variants in
    let here = subst (λ (f : Content). Fronts r ahead f t after) (ap content_of c.in-Variants.is) h in
    let v = variant_stands r ahead (map choice_of c.in-Variants.variants.now.entries) t after (payload_shape (payload_of k.held.now)) k.rest.now c.at.result here k.ensures
    (record { depth_is = c.at.ensures.depth; nodes_are = c.at.ensures.nodes }) c.at.ensures.bytes in
    c.after_payload.ensures v.0 after v.1)
