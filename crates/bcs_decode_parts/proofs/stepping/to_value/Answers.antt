use Rattle.bcs_decode_parts.proofs.Prelude.{inl, inr, map, None, array_shape, name_shape, option_shape, seq_shape, tuple_shape, of, one_of, field_shapes, shape_of, formats_shapes, field_of, choice_of, content_of, key}
use Rattle.bcs_decode_parts.specs.declared.inside.Inside.TheVariants as inside
use Rattle.bcs_decode_parts.proofs.Nowhere.{opens_as}
use Rattle.bcs_decode_parts.proofs.Arrivals.{moved, nowhere}
use Rattle.bcs_decode_parts.proofs.stepping.to_value.Goals as goal

pub returns-in-Map : goal.returns-in-Map
returns-in-Map c = moved c.args.registry.now c.args.at.now.ahead (key c.args.wanted.now) _ _ c.map_value.result c.in-Map.ensures c.map_value.ensures

pub returns-in-Nothing : goal.returns-in-Nothing
returns-in-Nothing c = λ t after h.
    (let r = c.args.registry.now in
    let ahead = c.args.at.now.ahead in
    let f = content_of c.args.at.now.here in
    let opens = c.inside_of.ensures in
    elim c.in-Nothing.is [
      | inl e ↦ nowhere r ahead.bytes.now _ (opens_as f _ inside.Nothing opens e r (key c.args.wanted.now) t)
      | inr (inl (x, e)) ↦ moved r ahead (key c.args.wanted.now) f (of (option_shape (shape_of x.now))) None (opens_as f _ (inside.Option x) opens e) (λ t after h. tt) t after h
      | inr (inr (inl (x, e))) ↦ moved r ahead (key c.args.wanted.now) f (of (name_shape x.now)) None (opens_as f _ (inside.Container x) opens e) (λ t after h. tt) t after h
      | inr (inr (inr (inl (x, e)))) ↦ moved r ahead (key c.args.wanted.now) f (one_of (map choice_of x.now.entries)) None (opens_as f _ (inside.Variants x) opens e) (λ t after h. tt) t after h
      | inr (inr (inr (inr (inl (x, e))))) ↦ moved r ahead (key c.args.wanted.now) f (of (seq_shape (shape_of x.now))) None (opens_as f _ (inside.List x) opens e) (λ t after h. tt) t after h
      | inr (inr (inr (inr (inr (inl (x, n, e)))))) ↦ moved r ahead (key c.args.wanted.now) f (of (array_shape (shape_of x.now) n)) None (opens_as f _ (inside.Array x n) opens e) (λ t after h. tt) t after h
      | inr (inr (inr (inr (inr (inr (inl (x, e))))))) ↦ moved r ahead (key c.args.wanted.now) f (of (tuple_shape (formats_shapes x.now))) None (opens_as f _ (inside.Tuple x) opens e) (λ t after h. tt) t after h
      | inr (inr (inr (inr (inr (inr (inr (x, e))))))) ↦ moved r ahead (key c.args.wanted.now) f (of (tuple_shape (field_shapes (map field_of x.now)))) None (opens_as f _ (inside.Fields x) opens e) (λ t after h. tt) t after h
    ])
