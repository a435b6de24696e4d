use Rattle.std.proofs.Common.{◌∙◌, Bool, not, map, sym, subst, inl, inr, rules}
use Rattle.bcs_encode_spec.proofs.Sorting.{rise_or_equal_neighbours}
use Rattle.bcs_key_order.proofs.EqualNeighbours.{rising_no_equal_neighbours, equal_neighbours_found}
use Rattle.bcs_key_order.specs.Spans.{Ordered, lone_key_at}
use Rattle.bcs_key_order.proofs.spans.sort.Goals as goal

pub returns-clause-order : goal.returns-clause-order
returns-clause-order c =
    let zs = c.sort_by_keys.new.spans in
    let b = c.args.bytes.now in
    elim (rise_or_equal_neighbours (lone_key_at b) zs c.sort_by_keys.ensures.sorted) [
      | inl rises ↦ subst (λ (x : Bool). Ordered (not x) b zs) (sym (search rules ∙ rising_no_equal_neighbours (map (lone_key_at b) zs) rises)) rises
      | inr equal_neighbours ↦ subst (λ (x : Bool). Ordered (not x) b zs) (sym (search rules ∙ equal_neighbours_found (map (lone_key_at b) zs) equal_neighbours)) equal_neighbours
    ]
