use Rattle.bcs_tool_answers.proofs.Prelude.{◌≡◌, ◌+◌, ◌-◌, ◌≤◌, drop, length, prefix_len, is_digit}
use Rattle.bcs_tool_answers.proofs.json_refusals.leading_digits.Given as goal

abbrev pub invariant-loop-end : goal.invariant-loop-end
invariant-loop-end l = record {
  within : l.end ≤ length l.text;
  counted : prefix_len is_digit l.text ≡ l.end + prefix_len is_digit (drop l.end l.text);
}

abbrev pub decreases-loop-end : goal.decreases-loop-end
decreases-loop-end l = length l.text - l.end
