-- The order of the containers in a registry.
use Rattle.std.specs.Prelude.{map}
use Rattle.std.specs.Cmp.Lexicographic.{slice_cmp}
use Rattle.std.specs.List.Sorted.{IsStrictlySortedBy}
use Rattle.std.specs.Ordering.{nat_cmp}
use Rattle.bcs_registry_model.specs.Container.{Entries}

-- names ascend, compared byte by byte
abbrev pub NamesRise : Entries → Type 0
NamesRise registry = IsStrictlySortedBy (slice_cmp nat_cmp) (map (λ e. e.0) registry)
