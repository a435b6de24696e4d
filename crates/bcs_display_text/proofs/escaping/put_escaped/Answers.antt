use Rattle.std.proofs.Common.{◌∙◌, ◌++◌, ap, sym, List, ℕ}
use Rattle.bcs_display_text.proofs.EscapedUnits.{unit_taken, units_begin, units_done, units_more}
use Rattle.bcs_display_text.proofs.escaping.put_escaped.Goals as goal

pub loop-unit-init : goal.loop-unit-init
loop-unit-init c =
    let same = c.into_iter-unit-iterator.ensures.into_iter_gives in
    let units = c.encode_utf16-unit-items in
    record {
      text = rw (same, units.ensures.text) c.utf8.text;
      whole = rw same (ap (λ (u : List ℕ). c.args.out.now.items ++ u) (units_begin units.result c.args.text.now units.ensures.text units.ensures.pending));
    }

pub loop-unit-preserved : goal.loop-unit-preserved
loop-unit-preserved c =
    let before = c.loop-unit.unit-iterator in
    let after = c.next.new.self in
    let taken = unit_taken before after c.in-Some.unit c.loop-unit.invariant.text c.in-Some.ensures.steps in
    record {
      text = taken.0;
      whole = rw c.in_ok-put_unit.ensures (units_more before after c.in-Some.unit c.loop-unit.out.items taken.1 ∙ c.loop-unit.invariant.whole);
    }

pub returns : goal.returns
returns c = sym (units_done c.loop-unit.unit-iterator c.next.new.self c.loop-unit.out.items c.in-None.ensures.steps) ∙ c.loop-unit.invariant.whole
