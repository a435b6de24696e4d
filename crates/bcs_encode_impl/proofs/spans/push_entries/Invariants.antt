use Rattle.bcs_encode_impl.proofs.Prelude.{◌≡◌, ◌+◌, ◌≤◌, ◌++◌, drop, length, map, vec_capacity, vec_len, flat_map, entry_bytes, span_entry}
use Rattle.bcs_encode_impl.proofs.spans.push_entries.Given as goal

abbrev pub invariant-loop-span : goal.invariant-loop-span
invariant-loop-span l = record {
  appended : l.initial.out.items ++ flat_map entry_bytes (map (span_entry l.bytes) l.spans)
      ≡ l.out.items ++ flat_map entry_bytes (map (span_entry l.bytes) (drop l.span-index l.spans));
  len : vec_len l.initial.out + length (flat_map entry_bytes (map (span_entry l.bytes) l.spans))
      ≡ vec_len l.out + length (flat_map entry_bytes (map (span_entry l.bytes) (drop l.span-index l.spans)));
  capacity : vec_capacity l.initial.out ≤ vec_capacity l.out;
}
