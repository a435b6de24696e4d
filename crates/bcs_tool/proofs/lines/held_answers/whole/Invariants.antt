use Rattle.bcs_tool.proofs.Prelude.{◌≡◌, ◌≤◌, ◌+◌, drop, whole}
use Rattle.bcs_tool.proofs.lines.held_answers.whole.Given as goal

abbrev pub invariant-loop-size : goal.invariant-loop-size
invariant-loop-size l = record {
  rest : l.count + whole (drop l.size-index l.lengths) l.left ≡ whole l.lengths l.accepted;
  within : l.count ≤ l.size-index;
}
