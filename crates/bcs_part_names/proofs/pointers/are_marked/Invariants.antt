use Rattle.std.specs.Prelude.{◌≡◌, false, drop}
use Rattle.bcs_part_names.specs.Pointers.{are_marked}
use Rattle.bcs_part_names.proofs.pointers.are_marked.Given as goal

-- the rest of the text is marked, after what has been read, if the whole text is
abbrev pub invariant-loop-byte : goal.invariant-loop-byte
invariant-loop-byte l = are_marked l.after_tilde (drop l.byte-index l.text) ≡ are_marked false l.text
