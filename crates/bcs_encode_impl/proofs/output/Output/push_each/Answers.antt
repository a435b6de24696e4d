use Rattle.bcs_encode_impl.proofs.Prelude.{◌+◌, List, [], drop, refl, ap, drop_of_length-le, of, whole_shape, items_trees, tree_of, Value, items_written, written}
use Rattle.bcs_encode_impl.proofs.AppendsLaws.{begins, ends, goes_on}
use Rattle.bcs_encode_impl.proofs.RowSteps.{item_written}
use Rattle.bcs_encode_impl.proofs.output.Output.push_each.Goals as goal

pub loop-item-init : goal.loop-item-init
loop-item-init c =
    let all = items_written [] (items_trees c.args.items.now) (whole_shape c.args.format) in
    begins c.args.self.now all all (λ b. refl)

pub loop-item-preserved : goal.loop-item-preserved
loop-item-preserved c =
    let s = whole_shape c.args.format in
    let i = c.loop-item.item-index in
    let vs = c.args.items.now in
    goes_on c.args.self.now c.loop-item.self c.push_whole.new.self (items_written [] (items_trees vs) s) (items_written [] (items_trees (drop i vs)) s)
    (written [] (tree_of c.item-item.result) (of s)) (items_written [] (items_trees (drop (i + 1) vs)) s)
    (λ b. item_written [] vs i c.item-item.result c.loop-item-test.true c.item-item.is s b) c.loop-item.invariant c.push_whole.ensures

pub returns : goal.returns
returns c =
    let s = whole_shape c.args.format in
    let vs = c.args.items.now in
    ends c.args.self.now c.loop-item.self (items_written [] (items_trees vs) s) (items_written [] (items_trees (drop c.loop-item.item-index vs)) s)
    (λ b. ap (λ (us : List Value). items_written [] (items_trees us) s b) (drop_of_length-le vs c.loop-item-test.false)) c.loop-item.invariant
