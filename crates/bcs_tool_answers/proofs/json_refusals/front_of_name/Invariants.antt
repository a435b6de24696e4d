use Rattle.bcs_tool_answers.proofs.Prelude.{◌≡◌, ◌+◌, ◌-◌, ◌≤◌, drop, length, prefix_len, is_of_name}
use Rattle.bcs_tool_answers.proofs.json_refusals.front_of_name.Given as goal

abbrev pub invariant-loop-end : goal.invariant-loop-end
invariant-loop-end l = record {
  within : l.end ≤ length l.text;
  named : prefix_len is_of_name l.text ≡ l.end + prefix_len is_of_name (drop l.end l.text);
}

abbrev pub decreases-loop-end : goal.decreases-loop-end
decreases-loop-end l = length l.text - l.end
