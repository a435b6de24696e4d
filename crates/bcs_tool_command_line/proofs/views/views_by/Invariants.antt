use Rattle.bcs_tool_command_line.proofs.Prelude.{◌≡◌, ◌++◌, drop, flat_map, map, asked_of, found_of, rows_of, views_by}
use Rattle.bcs_tool_command_line.proofs.views.views_by.Given as goal

-- what was found so far, before the options that are left
abbrev pub invariant-loop-kind : goal.invariant-loop-kind
invariant-loop-kind l = map asked_of l.views.items ++ flat_map (views_by (rows_of (found_of l.given))) (drop l.kind-index l.kinds)
    ≡ flat_map (views_by (rows_of (found_of l.given))) l.kinds
