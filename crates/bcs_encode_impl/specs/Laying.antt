-- The entries of a map: as separate bytes, and as spans of a buffer.
use Rattle.std.specs.Prelude.{ℕ, List}
use Rattle.bcs_encode_spec.specs.Entries.{Entry}
use Rattle.bcs_key_order.specs.Spans.{part}
use Rattle.bcs_encode_impl.specs.declared.by_entries.EntryBytes.{EntryBytes}
use Rattle.bcs_key_order.specs.declared.spans.Span.{Span}

abbrev pub entry_of : EntryBytes → Entry
entry_of e = (e.key.items, e.value.items)

abbrev pub span_entry : List ℕ → Span → Entry
span_entry bytes s = (part bytes s.start s.end, part bytes s.end s.value)

abbrev pub span : ℕ → ℕ → ℕ → Span
span from to value = record { start = from; end = to; value = value }
