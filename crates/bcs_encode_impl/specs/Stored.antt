-- The contents of a buffer, on the stack or on the heap.
use Rattle.std.specs.Prelude.{true, false, vec_capacity}
use Rattle.bcs_encode_impl.specs.Held.{HeldBytes}
use Rattle.bcs_encode_impl.specs.declared.buffer.TheConstants.{ROOM}
use Rattle.bcs_encode_impl.specs.declared.buffer.Store.{Store}
use Rattle.bcs_encode_impl.specs.declared.buffer.Store.TheVariants.{Fixed, Growing}

abbrev pub stored : Store → HeldBytes
stored (Fixed place) = record { items = place.items; capacity = ROOM; grows = false }
stored (Growing bytes) = record { items = bytes.items; capacity = vec_capacity bytes; grows = true }
