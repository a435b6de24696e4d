-- Maps in which an entry occurs twice.
use Rattle.std.specs.Prelude.{Bool, false, ◌||◌}
use Rattle.bcs_value_model.specs.Tree.{Pairs, no_pairs, pair}
use Rattle.bcs_value_model.specs.Same.{has_pair}

-- two of the entries have the same key and the same value
abbrev pub has_repeated_entries : Pairs → Bool
has_repeated_entries no_pairs = false
has_repeated_entries (pair k v ps) = has_pair ps k v || has_repeated_entries ps
