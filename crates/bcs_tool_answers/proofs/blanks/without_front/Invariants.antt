use Rattle.bcs_tool_answers.proofs.Prelude.{◌≡◌, ◌+◌, ◌-◌, ◌≤◌, drop, length, prefix_len, is_blank}
use Rattle.bcs_tool_answers.proofs.blanks.without_front.Given as goal

abbrev pub invariant-loop-start : goal.invariant-loop-start
invariant-loop-start l = record {
  within : l.start ≤ length l.text;
  blank : prefix_len is_blank l.text ≡ l.start + prefix_len is_blank (drop l.start l.text);
}

abbrev pub decreases-loop-start : goal.decreases-loop-start
decreases-loop-start l = length l.text - l.start
