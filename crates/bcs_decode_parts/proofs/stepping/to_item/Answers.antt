use Rattle.bcs_decode_parts.proofs.Prelude.{inl, inr, map, None, map_shape, name_shape, option_shape, of, one_of, shape_of, choice_of, content_of, item}
use Rattle.bcs_decode_parts.specs.declared.inside.Inside.TheVariants as inside
use Rattle.bcs_decode_parts.proofs.Nowhere.{opens_as}
use Rattle.bcs_decode_parts.proofs.Arrivals.{moved, nowhere}
use Rattle.bcs_decode_parts.proofs.stepping.to_item.Goals as goal

pub returns-in-List : goal.returns-in-List
returns-in-List c = moved c.args.registry.now c.args.at.now.ahead (item c.args.index) _ _ c.list_item.result c.in-List.ensures c.list_item.ensures

pub returns-in-Array : goal.returns-in-Array
returns-in-Array c = moved c.args.registry.now c.args.at.now.ahead (item c.args.index) _ _ c.array_item.result c.in-Array.ensures c.array_item.ensures

pub returns-in-Tuple : goal.returns-in-Tuple
returns-in-Tuple c = moved c.args.registry.now c.args.at.now.ahead (item c.args.index) _ _ c.tuple_item.result c.in-Tuple.ensures c.tuple_item.ensures

pub returns-in-Fields : goal.returns-in-Fields
returns-in-Fields c = moved c.args.registry.now c.args.at.now.ahead (item c.args.index) _ _ c.field_item.result c.in-Fields.ensures c.field_item.ensures

pub returns-in-Nothing : goal.returns-in-Nothing
returns-in-Nothing c = λ t after h.
    (let r = c.args.registry.now in
    let ahead = c.args.at.now.ahead in
    let f = content_of c.args.at.now.here in
    let opens = c.inside_of.ensures in
    elim c.in-Nothing.is [
      | inl e ↦ nowhere r ahead.bytes.now _ (opens_as f _ inside.Nothing opens e r (item c.args.index) t)
      | inr (inl (x, e)) ↦ moved r ahead (item c.args.index) f (of (option_shape (shape_of x.now))) None (opens_as f _ (inside.Option x) opens e) (λ t after h. tt) t after h
      | inr (inr (inl (x, e))) ↦ moved r ahead (item c.args.index) f (of (name_shape x.now)) None (opens_as f _ (inside.Container x) opens e) (λ t after h. tt) t after h
      | inr (inr (inr (inl (x, e)))) ↦ moved r ahead (item c.args.index) f (one_of (map choice_of x.now.entries)) None (opens_as f _ (inside.Variants x) opens e) (λ t after h. tt) t after h
      | inr (inr (inr (inr (x, y, e)))) ↦ moved r ahead (item c.args.index) f (of (map_shape (shape_of x.now) (shape_of y.now))) None (opens_as f _ (inside.Map x y) opens e) (λ t after h. tt) t after h
    ])
