use Rattle.std.proofs.Common.{◌≡◌, drop}
use Rattle.bcs_value_model.specs.View.{items_trees}
use Rattle.bcs_encode.specs.WithoutMaps.{any_holds_map}
use Rattle.bcs_encode.proofs.mapless.+maps.Given as goal

abbrev pub invariant-any_holds_map-loop-item : goal.invariant-any_holds_map-loop-item
invariant-any_holds_map-loop-item l = any_holds_map (items_trees l.items) ≡ any_holds_map (items_trees (drop l.item-index l.items))
