use Rattle.bcs_tool_command_line.proofs.Prelude.{◌≡◌, ◌++◌, drop, map, spelled, spelled_from, texts_of}
use Rattle.bcs_tool_command_line.proofs.spelling.spelled.Given as goal

-- what was spelled so far, before the arguments that are left
abbrev pub invariant-loop-word : goal.invariant-loop-word
invariant-loop-word l = map (λ t. t.now) l.full.items ++ spelled_from l.goes_on (texts_of (drop l.word-index l.words)) ≡ spelled (texts_of l.words)
