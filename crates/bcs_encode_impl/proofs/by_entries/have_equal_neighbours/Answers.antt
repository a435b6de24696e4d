use Rattle.bcs_encode_impl.proofs.Prelude.{◌-◌, ◌∙◌, arith, map, drop, sym, length-drop, length-map, entry_of, few_no_equal_neighbours}
use Rattle.bcs_encode_impl.proofs.by_entries.have_equal_neighbours.Goals as goal

pub returns : goal.returns
returns c =
    sym (c.loop-i.invariant ∙ few_no_equal_neighbours (map entry_of (drop (c.loop-i.i - 1) c.args.entries.now)) (omega (arith, length-map (drop (c.loop-i.i - 1) c.args.entries.now) entry_of, length-drop (c.loop-i.i - 1) c.args.entries.now)))
