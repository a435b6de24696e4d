use Rattle.bcs_decode_source.proofs.Prelude.{◌≡◌, ℕ, ◌*◌, ◌++◌, length, map, whole_len, tree_of, numbers}
use Rattle.bcs_decode_source.proofs.NumberRows.{PushedSoFar}
use Rattle.bcs_decode_source.proofs.number_rows.push_block.Given as goal

abbrev pub invariant-loop-number : goal.invariant-loop-number
invariant-loop-number l =
    (n : ℕ) → length l.bytes ≡ n * whole_len l.format
    → PushedSoFar l.format l.found.items l.rest (map tree_of l.initial.found.items ++ numbers l.format n l.bytes)

abbrev pub decreases-loop-number : goal.decreases-loop-number
decreases-loop-number l = length l.rest
