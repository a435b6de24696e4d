use Rattle.bcs_tool_command_line.proofs.Prelude.{◌≡◌, ◌++◌, drop, map, asked_of}
use Rattle.bcs_tool_command_line.proofs.views.add_views.Given as goal

-- what was added so far, before the texts that are left
abbrev pub invariant-loop-text : goal.invariant-loop-text
invariant-loop-text l = map asked_of l.views.items ++ map (λ t. (l.kind, t.now)) (drop l.text-index l.texts)
    ≡ map asked_of l.initial.views.items ++ map (λ t. (l.kind, t.now)) l.texts
