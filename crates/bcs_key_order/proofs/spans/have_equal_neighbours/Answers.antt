use Rattle.std.proofs.lemmas.Grind.{common_steps}
use Rattle.std.proofs.Common.{◌-◌, ◌∙◌, arith, map, drop, sym, length-drop}
use Rattle.std.proofs.lemmas.List.{length-map}
use Rattle.bcs_key_order.specs.Spans.{lone_key_at}
use Rattle.bcs_key_order.proofs.EqualNeighbours.{few_no_equal_neighbours}
use Rattle.bcs_key_order.proofs.spans.have_equal_neighbours.Goals as goal

pub returns : goal.returns
returns c =
    sym (c.loop-i.invariant
    ∙ few_no_equal_neighbours (map (lone_key_at c.args.bytes.now) (drop (c.loop-i.i - 1) c.args.spans.now))
    (omega (arith, length-map (drop (c.loop-i.i - 1) c.args.spans.now) (lone_key_at c.args.bytes.now), length-drop (c.loop-i.i - 1) c.args.spans.now)))

pub returns-then-eq : goal.returns-then-eq
returns-then-eq c = grind (arith, common_steps)
