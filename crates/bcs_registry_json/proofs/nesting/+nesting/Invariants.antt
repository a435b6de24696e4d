use Rattle.bcs_registry_json.proofs.Prelude.{◌≡◌, nat_le, drop, items_depth, members_depth, items_view, members_view}
use Rattle.bcs_registry_json.proofs.nesting.+nesting.Given as goal

-- the result depends on the remaining elements only
abbrev pub invariant-items_nest_within-loop-item : goal.invariant-items_nest_within-loop-item
invariant-items_nest_within-loop-item l =
    nat_le (items_depth (items_view l.item-items)) l.limit ≡ nat_le (items_depth (items_view (drop l.item-index l.item-items))) l.limit

abbrev pub invariant-members_nest_within-loop-name : goal.invariant-members_nest_within-loop-name
invariant-members_nest_within-loop-name l =
    nat_le (members_depth (members_view l.members.entries)) l.limit ≡ nat_le (members_depth (members_view l._name-iterator)) l.limit
