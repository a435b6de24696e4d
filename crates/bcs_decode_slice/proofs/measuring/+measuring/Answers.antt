use Rattle.bcs_decode_slice.proofs.Prelude.{◌≡◌, ◌∙◌, ◌+◌, ◌*◌, [], drop, map, ap, sym, arith, drop_all, IfSome_then, Shape, unit_shape, name_shape, tuple_shape, array_shape, of, content, content_seen, layout_shape, row_formats, shape_of, formats_shapes, container_of, content_found, formats_next, fields_row, skip}
use Rattle.bcs_decode_spec.proofs.PartSteps.{each}
use Rattle.bcs_decode_slice.proofs.Reaching.{reaches_on, reaches_as, goes_as}
use Rattle.bcs_decode_slice.proofs.FixedParts.{tuple_reaches, each_reaches, each_ends, array_goes, empty_array_goes, named_goes, unit_goes, inside_goes}
use Rattle.bcs_decode_slice.proofs.measuring.+measuring.Goals as goal

-- ---- arrays

pub array_size-returns-then-size-eq0-clause-fixed : goal.array_size-returns-then-size-eq0-clause-fixed
array_size-returns-then-size-eq0-clause-fixed t c =
    (empty_array_goes c.args.registry.now c.args.depth (shape_of c.args.element.now) c.args.size c.if-size-eq0.true, omega arith)

pub array_size-returns-clause-fixed : goal.array_size-returns-clause-fixed
array_size-returns-clause-fixed t c =
    let r = c.args.registry.now in
    let d = c.args.depth in
    let n = c.args.size in
    let s : Shape = shape_of c.args.element.now in
    let e = c.in_ok-each.each in
    let product = c.in_ok-times.ensures.product in
    let goes = array_goes r d s n e.bytes e.nodes c.in_ok-each.ensures.fixed.0 in
    IfSome_then c.followed_by.result c.followed_by.ensures.sum (λ z sum.
    (goes_as (skip r d (array_shape s n)) (0 + n * e.bytes) z.bytes (1 + n * e.nodes) z.nodes (omega (arith, sum.0, product.0)) (omega (arith, sum.1, product.1)) goes, omega (arith, sum.1)))

-- ---- element lists

pub row_size-loop-place-init : goal.row_size-loop-place-init
row_size-loop-place-init t c = record {
  looks = omega arith;
  begun = omega arith;
  reaches = tuple_reaches c.args.registry.now c.args.depth (formats_shapes (row_formats c.args.row));
}

pub row_size-loop-place-preserved : goal.row_size-loop-place-preserved
row_size-loop-place-preserved t c =
    let r = c.args.registry.now in
    let d = c.args.depth in
    let xs = row_formats c.args.row in
    let l = c.loop-place in
    let x = c.at.result.now in
    let size = c.in_ok-value_size.field-0 in
    let sum = c.in_ok-whole.ensures.sum in
    let here = formats_shapes (drop l.place xs) in
    let rest = formats_shapes (drop (l.place + 1) xs) in
    let next = formats_next xs l.place x (omega arith) c.at.ensures in
    record {
      looks = omega (arith, l.invariant.looks, c.value_size.ensures.looks);
      begun = omega (arith, sum.1, l.invariant.begun);
      reaches = reaches_as (skip r d (tuple_shape (formats_shapes xs))) (each r d rest) (l.whole.bytes + size.bytes) c.in_ok-whole.whole.bytes (l.whole.nodes + size.nodes) c.in_ok-whole.whole.nodes sum.0 sum.1
          (reaches_on (skip r d (tuple_shape (formats_shapes xs))) (each r d here) (each r d rest) l.whole.bytes size.bytes l.whole.nodes size.nodes l.invariant.reaches
          (each_reaches r d here (shape_of x) rest size.bytes size.nodes next c.in_ok-value_size.ensures.fixed.0));
    }

pub row_size-returns-clause-fixed : goal.row_size-returns-clause-fixed
row_size-returns-clause-fixed t c =
    let r = c.args.registry.now in
    let d = c.args.depth in
    let xs = row_formats c.args.row in
    let l = c.loop-place in
    let none : drop l.place xs ≡ [] = drop_all l.place xs (omega arith) in
    (each_ends r d (skip r d (tuple_shape (formats_shapes xs))) (formats_shapes (drop l.place xs)) l.whole.bytes l.whole.nodes (ap (λ ys. formats_shapes ys) none) l.invariant.reaches, l.invariant.begun)

-- ---- containers

pub named_size-returns-clause-fixed : goal.named_size-returns-clause-fixed
named_size-returns-clause-fixed t c =
    let r = c.args.registry.now in
    let d = c.args.depth in
    let inside = c.in_ok-content_size.field-0 in
    let found = content_found r c.args.name.now c.container.result c.in_ok-container.container c.container.ensures.found c.in_ok-container.was in
    let goes = named_goes r d c.args.name.now (content (container_of c.in_ok-container.container.now)) inside.bytes inside.nodes (omega arith) found c.in_ok-content_size.ensures.fixed.0 in
    IfSome_then c.followed_by.result c.followed_by.ensures.sum (λ z sum.
    (goes_as (skip r d (name_shape c.args.name.now)) (0 + inside.bytes) z.bytes (1 + inside.nodes) z.nodes sum.0 sum.1 goes, omega (arith, sum.1)))

pub content_size-returns-in-Of-Unit-clause-fixed : goal.content_size-returns-in-Of-Unit-clause-fixed
content_size-returns-in-Of-Unit-clause-fixed t c =
    let is : content (container_of c.args.container.now) ≡ of unit_shape = sym c.content.ensures ∙ ap content_seen c.in-Of-Unit.is ∙ ap (λ l. of (layout_shape l)) c.in-Of-Unit.field-0-is in
    (inside_goes c.args.registry.now c.args.depth _ unit_shape 0 1 is (unit_goes c.args.registry.now c.args.depth), omega arith)

pub content_size-returns-in-Of-NewType-clause-fixed : goal.content_size-returns-in-Of-NewType-clause-fixed
content_size-returns-in-Of-NewType-clause-fixed t c =
    let s : Shape = shape_of c.in-Of-NewType.format.now in
    let is : content (container_of c.args.container.now) ≡ of s = sym c.content.ensures ∙ ap content_seen c.in-Of-NewType.is ∙ ap (λ l. of (layout_shape l)) c.in-Of-NewType.field-0-is in
    IfSome_then c.value_size.result c.value_size.ensures.fixed (λ z h.
    (inside_goes c.args.registry.now c.args.depth _ s z.bytes z.nodes is h.0, h.1))

pub content_size-returns-in-Of-Tuple-clause-fixed : goal.content_size-returns-in-Of-Tuple-clause-fixed
content_size-returns-in-Of-Tuple-clause-fixed t c =
    let s : Shape = tuple_shape (formats_shapes c.in-Of-Tuple.formats.now) in
    let is : content (container_of c.args.container.now) ≡ of s = sym c.content.ensures ∙ ap content_seen c.in-Of-Tuple.is ∙ ap (λ l. of (layout_shape l)) c.in-Of-Tuple.field-0-is in
    IfSome_then c.row_size.result c.row_size.ensures.fixed (λ z h.
    (inside_goes c.args.registry.now c.args.depth _ s z.bytes z.nodes is h.0, h.1))

pub content_size-returns-in-Of-Struct-clause-fixed : goal.content_size-returns-in-Of-Struct-clause-fixed
content_size-returns-in-Of-Struct-clause-fixed t c =
    let fs = c.in-Of-Struct.fields.now in
    let s : Shape = tuple_shape (formats_shapes (map (λ f. f.value) fs)) in
    let is : content (container_of c.args.container.now) ≡ of s = sym c.content.ensures ∙ ap content_seen c.in-Of-Struct.is ∙ ap (λ l. of (layout_shape l)) c.in-Of-Struct.field-0-is ∙ ap (λ ss. of (tuple_shape ss)) (sym (fields_row fs)) in
    IfSome_then c.row_size-in-Of-Struct.result c.row_size-in-Of-Struct.ensures.fixed (λ z h.
    (inside_goes c.args.registry.now c.args.depth _ s z.bytes z.nodes is h.0, h.1))
