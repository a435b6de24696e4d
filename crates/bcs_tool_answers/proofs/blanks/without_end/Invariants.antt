use Rattle.bcs_tool_answers.proofs.Prelude.{◌≡◌, ◌+◌, ◌-◌, ◌≤◌, length, take, suffix_len, is_blank}
use Rattle.bcs_tool_answers.proofs.blanks.without_end.Given as goal

abbrev pub invariant-loop-end : goal.invariant-loop-end
invariant-loop-end l = record {
  within : l.end ≤ length l.text;
  blank : suffix_len is_blank l.text ≡ (length l.text - l.end) + suffix_len is_blank (take l.end l.text);
}

abbrev pub decreases-loop-end : goal.decreases-loop-end
decreases-loop-end l = l.end
