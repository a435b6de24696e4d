use Rattle.bcs_decode_parts.proofs.Prelude.{inl, inr, map, None, array_shape, map_shape, seq_shape, tuple_shape, of, field_shapes, shape_of, formats_shapes, field_of, content_of, inner}
use Rattle.bcs_decode_parts.specs.declared.inside.Inside.TheVariants as inside
use Rattle.bcs_decode_parts.proofs.Nowhere.{opens_as}
use Rattle.bcs_decode_parts.proofs.Arrivals.{moved, nowhere}
use Rattle.bcs_decode_parts.proofs.stepping.to_inner.Goals as goal

pub returns-in-Option : goal.returns-in-Option
returns-in-Option c = moved c.args.registry.now c.args.at.now.ahead inner _ _ c.in_option.result c.in-Option.ensures (c.in_option.ensures c.args.registry.now)

pub returns-in-Container : goal.returns-in-Container
returns-in-Container c = moved c.args.registry.now c.args.at.now.ahead inner _ _ c.in_container.result c.in-Container.ensures c.in_container.ensures

pub returns-in-Variants : goal.returns-in-Variants
returns-in-Variants c = moved c.args.registry.now c.args.at.now.ahead inner _ _ c.in_variant.result c.in-Variants.ensures (c.in_variant.ensures c.args.registry.now)

pub returns-in-Nothing : goal.returns-in-Nothing
returns-in-Nothing c = λ t after h.
    (let r = c.args.registry.now in
    let ahead = c.args.at.now.ahead in
    let f = content_of c.args.at.now.here in
    let opens = c.inside_of.ensures in
    elim c.in-Nothing.is [
      | inl e ↦ nowhere r ahead.bytes.now _ (opens_as f _ inside.Nothing opens e r inner t)
      | inr (inl (x, e)) ↦ moved r ahead inner f (of (seq_shape (shape_of x.now))) None (opens_as f _ (inside.List x) opens e) (λ t after h. tt) t after h
      | inr (inr (inl (x, n, e))) ↦ moved r ahead inner f (of (array_shape (shape_of x.now) n)) None (opens_as f _ (inside.Array x n) opens e) (λ t after h. tt) t after h
      | inr (inr (inr (inl (x, e)))) ↦ moved r ahead inner f (of (tuple_shape (formats_shapes x.now))) None (opens_as f _ (inside.Tuple x) opens e) (λ t after h. tt) t after h
      | inr (inr (inr (inr (inl (x, e))))) ↦ moved r ahead inner f (of (tuple_shape (field_shapes (map field_of x.now)))) None (opens_as f _ (inside.Fields x) opens e) (λ t after h. tt) t after h
      | inr (inr (inr (inr (inr (x, y, e))))) ↦ moved r ahead inner f (of (map_shape (shape_of x.now) (shape_of y.now))) None (opens_as f _ (inside.Map x y) opens e) (λ t after h. tt) t after h
    ])
