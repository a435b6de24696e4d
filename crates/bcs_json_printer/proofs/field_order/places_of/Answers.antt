use Rattle.bcs_json_printer.proofs.Prelude.{◌≡◌, ◌∙◌, ◌+◌, ◌-◌, ◌<◌, length, map, drop, arith, ap, sym, All-values-insert_entry, put, name_of, placed, put_from}
use Rattle.bcs_json_printer.proofs.Places.{by_text, placed-insert_entry, put_from_more}
use Rattle.bcs_json_printer.proofs.field_order.places_of.Goals as goal

pub loop-left-preserved : goal.loop-left-preserved
loop-left-preserved c =
    let n = c.loop-left.left - 1 in
    let f = c.index-fields-left.result in
    let fs = c.args.fields.now in
    let one : n + 1 ≡ c.loop-left.left = omega (arith, c.loop-left-test.true) in
    let named : c.as_str.result.now ≡ name_of f = c.as_str.ensures.value ∙ ap name_of (sym c.index-fields-left.is) in record {
      order = λ at.
          let before : placed at c.loop-left.places.entries ≡ put_from at (n + 1) (map name_of (drop (n + 1) fs)) = c.loop-left.invariant.order at ∙ ap (λ m. put_from at m (map name_of (drop m fs))) (sym one) in
          ap (placed at) c.in_ok-insert.ensures.entries ∙ placed-insert_entry at c.loop-left.places.entries c.as_str.result n
          ∙ ap (λ k. put k (at n) (placed at c.loop-left.places.entries)) named ∙ ap (put (name_of f) (at n)) before
          ∙ put_from_more at fs n f (omega (arith, one, c.loop-left.invariant.bound)) c.index-fields-left.is;
      within =
          let low : n < length fs = omega (arith, one, c.loop-left.invariant.bound) in
          rw c.in_ok-insert.ensures.entries (All-values-insert_entry by_text c.as_str.result n (λ i. i < length fs) c.loop-left.places.entries c.loop-left.invariant.within low);
      bound = omega (arith, one, c.loop-left.invariant.bound);
    }
