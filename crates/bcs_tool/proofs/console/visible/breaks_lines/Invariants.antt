use Rattle.bcs_tool.proofs.Prelude.{◌≡◌, false, map, string_bytes, take, breaks_lines}
use Rattle.bcs_tool.proofs.console.visible.breaks_lines.Given as goal

-- no argument so far contains a line feed
abbrev pub invariant-loop-word : goal.invariant-loop-word
invariant-loop-word l = breaks_lines (map string_bytes (take l.word-index l.words)) ≡ false
