use Rattle.bcs_encode_impl.proofs.Prelude.{◌≡◌, ◌++◌, map, drop, flat_map, entry_bytes, entry_of}
use Rattle.bcs_encode_impl.proofs.by_entries.push_entries.Given as goal

abbrev pub invariant-loop-entry : goal.invariant-loop-entry
invariant-loop-entry l =
    l.initial.out.items ++ flat_map entry_bytes (map entry_of l.entries)
    ≡ l.out.items ++ flat_map entry_bytes (map entry_of (drop l.entry-index l.entries))
