-- The entries of a map in a buffer, and their order.
use Rattle.std.specs.Prelude.{ℕ, Bool, true, false, map, ◌&&◌, nat_le, if◌then◌else◌, List, [], length, slice_range}
use Rattle.bcs_encode_spec.specs.Entries.{Entry, EntriesRise, HasEqualNeighbours}
use Rattle.bcs_key_order.specs.declared.spans.Span.{Span}

-- the bytes in a range, or none if the range isn't valid
abbrev pub part : List ℕ → ℕ → ℕ → List ℕ
part bytes from to = if nat_le from to && nat_le to (length bytes) then slice_range bytes from to else []

-- the bytes of the key, without a value
abbrev pub lone_key_at : List ℕ → Span → Entry
lone_key_at bytes z = (part bytes z.start z.end, [])

-- the keys ascend; or two neighbours have the same key
abbrev pub Ordered : Bool → List ℕ → List Span → Type 0
Ordered true bytes zs = EntriesRise (map (lone_key_at bytes) zs)
Ordered false bytes zs = HasEqualNeighbours (map (lone_key_at bytes) zs)
