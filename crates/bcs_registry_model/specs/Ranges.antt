-- The ranges of the numbers in a registry, and the order of its maps.
use Rattle.std.specs.Prelude.{◌^◌, Bool, true, ◌&&◌, nat_lt, IsTrue}
use Rattle.std.specs.List.{list_all, AllByRecursion}
use Rattle.std.specs.List.Sorted.{IsStrictlySortedBy}
use Rattle.std.specs.Map.{keys_of}
use Rattle.std.specs.Ordering.{nat_cmp}
use Rattle.bcs_registry_model.specs.Container as container
use Rattle.bcs_registry_model.specs.Container.{Container, Entries, Payload}
use Rattle.bcs_registry_model.specs.Order.{NamesRise}
use Rattle.bcs_registry_model.specs.Shape.{Shape, option, seq, map, tuple, array, Shapes, no_shapes, shape}

-- each SIZE fits into 64 bits
abbrev mutual
  pub sizes_fit : Shape → Bool
  sizes_fit (option s) = sizes_fit s
  sizes_fit (seq s) = sizes_fit s
  sizes_fit (map k v) = sizes_fit k && sizes_fit v
  sizes_fit (tuple ss) = all_sizes_fit ss
  sizes_fit (array s n) = sizes_fit s && nat_lt n (2 ^ 64)
  sizes_fit _ = true

  pub all_sizes_fit : Shapes → Bool
  all_sizes_fit no_shapes = true
  all_sizes_fit (shape s ss) = sizes_fit s && all_sizes_fit ss

abbrev pub payload_sizes_fit : Payload → Bool
payload_sizes_fit container.unit = true
payload_sizes_fit (container.newtype s) = sizes_fit s
payload_sizes_fit (container.tuple ss) = all_sizes_fit ss
payload_sizes_fit (container.fields fs) = list_all (λ f. sizes_fit f.1) fs

abbrev pub container_sizes_fit : Container → Bool
container_sizes_fit container.unit_struct = true
container_sizes_fit (container.newtype_struct s) = sizes_fit s
container_sizes_fit (container.tuple_struct ss) = all_sizes_fit ss
container_sizes_fit (container.field_struct fs) = list_all (λ f. sizes_fit f.1) fs
container_sizes_fit (container.enumeration cs) = list_all (λ c. payload_sizes_fit c.1.1) cs

-- the variant numbers of an enum fit into 32 bits
abbrev pub numbers_fit : Container → Bool
numbers_fit (container.enumeration cs) = list_all (λ c. nat_lt c.0 (2 ^ 32)) cs
numbers_fit _ = true

-- the variants of an enum are in ascending order of their numbers
abbrev pub NumbersRise : Container → Type 0
NumbersRise (container.enumeration cs) = IsStrictlySortedBy nat_cmp (keys_of cs)
NumbersRise _ = Unit {0}

-- the numbers of the container are in their ranges
pub record IsInRange (c : Container) : Type 0 where
  pub rise : NumbersRise c
  pub numbers : IsTrue (numbers_fit c)
  pub sizes : IsTrue (container_sizes_fit c)

-- the registry is a finite map: names ascend, compared byte by byte, and the numbers in each container are in range
pub record IsOrderly (registry : Entries) : Type 0 where
  pub names : NamesRise registry
  pub containers : AllByRecursion (λ e. IsInRange e.1) registry
