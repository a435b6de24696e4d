use Rattle.bcs_registry_json.proofs.Prelude.{◌≡◌, ◌∙◌, List, [], true, ap, arith, drop, refl, sym, drop_all, items_view, view, Value, are_formats, is_format, is_tuple}
use Rattle.bcs_registry_json.proofs.Rows.{array_tested, element_false, element_shallow}
use Rattle.bcs_registry_json.proofs.shaped.+shaped.Goals as goal

pub is_tuple_shaped-is_format_shaped-requires : goal.is_tuple_shaped-is_format_shaped-requires
is_tuple_shaped-is_format_shaped-requires t c =
    let less = element_shallow c.args.value.now c.in-Array.parts c.deref-part-items.result.now c.loop-part.part-index c.part-item.result c.in-Array.is c.deref-part-items.ensures.value c.loop-part-test.true c.part-item.is in
    (omega (arith, less), tt)

pub is_tuple_shaped-returns-then-not-is_format_shaped : goal.is_tuple_shaped-returns-then-not-is_format_shaped
is_tuple_shaped-returns-then-not-is_format_shaped t c =
    let xs = c.deref-part-items.result.now in
    let x = c.part-item.result in
    sym (array_tested (is_tuple true) (are_formats true) (λ ds. refl) c.args.value.now c.in-Array.parts xs c.in-Array.is c.deref-part-items.ensures.value
    ∙ element_false (is_format true) (are_formats true) (λ d ds. refl) xs c.loop-part.part-index x c.loop-part-test.true
    (ap (λ (y : Value). is_format true (view y)) (sym c.part-item.is) ∙ sym c.is_format_shaped.ensures ∙ c.if-not-is_format_shaped.true))

pub is_tuple_shaped-returns : goal.is_tuple_shaped-returns
is_tuple_shaped-returns t c =
    let xs = c.deref-part-items.result.now in
    let none : drop c.loop-part.part-index xs ≡ [] = drop_all c.loop-part.part-index xs (omega arith) in
    sym (array_tested (is_tuple true) (are_formats true) (λ ds. refl) c.args.value.now c.in-Array.parts xs c.in-Array.is c.deref-part-items.ensures.value
    ∙ c.loop-part.invariant ∙ ap (λ (ys : List Value). are_formats true (items_view ys)) none)
