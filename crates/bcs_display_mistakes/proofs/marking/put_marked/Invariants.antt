use Rattle.std.proofs.Common.{◌≡◌, ◌++◌, drop, flat_map}
use Rattle.bcs_display_mistakes.specs.Marked.{marked, marked_sign}
use Rattle.bcs_display_mistakes.proofs.marking.put_marked.Given as goal

-- what has been appended so far, followed by the remaining bytes
abbrev pub invariant-loop-sign : goal.invariant-loop-sign
invariant-loop-sign l = l.out.items ++ flat_map marked_sign (drop l.sign-index l.name) ≡ l.initial.out.items ++ marked l.name
