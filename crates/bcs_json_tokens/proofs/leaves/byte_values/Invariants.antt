use Rattle.bcs_json_tokens.proofs.Prelude.{◌≡◌, drop, byte_trees, joined}
use Rattle.bcs_json_tokens.proofs.leaves.byte_values.Given as goal

-- the values made so far, followed by those of the remaining bytes, are all values
abbrev pub invariant-loop-byte : goal.invariant-loop-byte
invariant-loop-byte l = byte_trees l.bytes ≡ joined l.found.items (byte_trees (drop l.byte-index l.bytes))
