use Rattle.bcs_json_reader.proofs.Prelude.{◌∙◌, List, length, Ok, ap, sym, arith, into_iter_items, nil_from_length, err_from_is_err_and, items_view, whole_shape, tree_of, Value, of, follow, read_data, read_all}
use Rattle.bcs_json_reader.proofs.Rows.{joined, item_more, item_fault, items_done}
use Rattle.bcs_json_reader.proofs.Placed.{told_ok, told_err, placed_on}
use Rattle.bcs_json_reader.proofs.PlacedRows.{found_more, outside_at, item_placed, item_onward}
use Rattle.bcs_json_reader.proofs.numbers.read_numbers.Goals as goal

pub loop-item-preserved : goal.loop-item-preserved
loop-item-preserved c =
    let l = c.loop-item in (
      λ registry left.
          let r = read_data registry left (of (whole_shape c.args.format)) in
          let read = told_ok tree_of c.read_number-outcome.result _ c.in_ok-value.value c.in_ok-value.ensures.same (c.read_number-outcome.ensures.reports registry left) in
          l.invariant.0 registry left
          ∙ item_more r (into_iter_items l.item-iterator) l.found.items (into_iter_items c.next.new.self) c.in-Some.item c.in_ok-value.value c.in-Some.ensures.steps.0 read
          ∙ ap (λ (vs : List Value). follow (read_all r (items_view (into_iter_items c.next.new.self))) (λ ts. Ok (joined vs ts))) (sym c.in_ok-push.ensures.items),
      λ registry left path h.
          let read = told_ok tree_of c.read_number-outcome.result _ c.in_ok-value.value c.in_ok-value.ensures.same (c.read_number-outcome.ensures.reports registry left) in
          l.invariant.1 registry left path (item_onward registry left (whole_shape c.args.format) (length l.found.items) (into_iter_items l.item-iterator) (into_iter_items c.next.new.self) c.in-Some.item c.in-Some.ensures.steps.0 _ (tree_of c.in_ok-value.value)
          (found_more l.found.items c.push.new.self.items c.in_ok-value.value c.in_ok-push.ensures.items) read path h),
    )

pub returns-in_err-value-clause-reports : goal.returns-in_err-value-clause-reports
returns-in_err-value-clause-reports c =
    let l = c.loop-item in
    let p = err_from_is_err_and c.from_residual-in_err-value.result c.from_residual-in_err-value.ensures.1 in
    let refusal = c.in_err-value.field-0.0 in
    λ registry left. rw (p.1, p.2) (λ other. l.invariant.0 registry left
    ∙ item_fault (read_data registry left (of (whole_shape c.args.format))) (into_iter_items l.item-iterator) l.found.items (into_iter_items c.next.new.self) c.in-Some.item refusal.fault c.in-Some.ensures.steps.0
    (told_err tree_of c.read_number-outcome.result _ refusal.fault c.in_err-value.ensures.same (c.read_number-outcome.ensures.reports registry left) other))

pub returns-in_err-value-clause-placed : goal.returns-in_err-value-clause-placed
returns-in_err-value-clause-placed c =
    let l = c.loop-item in
    let p = err_from_is_err_and c.from_residual-in_err-value.result c.from_residual-in_err-value.ensures.1 in
    λ registry left. rw (p.1, p.2) (placed_on registry _ _ c.in_err-value.field-0.0 (l.invariant.1 registry left) (item_placed registry left (whole_shape c.args.format) (length l.found.items) (into_iter_items l.item-iterator) (into_iter_items c.next.new.self) c.in-Some.item c.in-Some.ensures.steps.0
    tree_of c.read_number-outcome.result c.in_err-value.field-0.0 (record { reports = c.read_number-outcome.ensures.reports registry left; placed = c.read_number-outcome.ensures.placed registry left }) (outside_at (length l.found.items) c.len-in-loop-item.result _ _ (omega (arith, c.len-in-loop-item.ensures, l.found.ok)) (record { same = c.in_err-value.ensures.same; location = c.in_err-value.ensures.location }))))

pub returns-clause-reports : goal.returns-clause-reports
returns-clause-reports c =
    let l = c.loop-item in
    λ registry left. l.invariant.0 registry left
    ∙ items_done (read_data registry left (of (whole_shape c.args.format))) (into_iter_items l.item-iterator) l.found.items
    (nil_from_length (into_iter_items l.item-iterator) (omega (arith, l.item-iterator.rest.ok, c.in-None.ensures.steps.0)))
