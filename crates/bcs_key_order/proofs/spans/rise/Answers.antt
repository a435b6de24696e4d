use Rattle.std.proofs.lemmas.Grind.{common_steps}
use Rattle.std.proofs.Common.{◌-◌, ◌∙◌, arith, map, drop, sym, length-drop}
use Rattle.std.proofs.lemmas.List.{length-map}
use Rattle.bcs_key_order.specs.Spans.{lone_key_at}
use Rattle.bcs_key_order.proofs.EqualNeighbours.{few_rise}
use Rattle.bcs_key_order.proofs.spans.rise.Goals as goal

pub returns : goal.returns
returns c =
    sym (c.loop-i.invariant
    ∙ few_rise (map (lone_key_at c.args.bytes.now) (drop (c.loop-i.i - 1) c.args.spans.now))
    (omega (arith, length-map (drop (c.loop-i.i - 1) c.args.spans.now) (lone_key_at c.args.bytes.now), length-drop (c.loop-i.i - 1) c.args.spans.now)))

pub returns-then-not-rises : goal.returns-then-not-rises
returns-then-not-rises c = grind (arith, common_steps)
