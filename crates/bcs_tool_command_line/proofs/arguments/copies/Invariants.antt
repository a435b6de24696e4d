use Rattle.bcs_tool_command_line.proofs.Prelude.{◌≡◌, ◌++◌, drop, map, string_bytes}
use Rattle.bcs_tool_command_line.proofs.arguments.copies.Given as goal

-- what was copied so far, before the texts that are left
abbrev pub invariant-loop-word : goal.invariant-loop-word
invariant-loop-word l = map string_bytes l.copies.items ++ map (λ t. t.now) (drop l.word-index l.words) ≡ map (λ t. t.now) l.words
