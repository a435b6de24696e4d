use Rattle.bcs_tool_command_line.proofs.Prelude.{◌≡◌, drop, false, fold, map, app_of, with_rule, out-Command, rule_of_word}
use Rattle.bcs_tool_command_line.proofs.definition.with_words.Given as goal

abbrev pub invariant-loop-word : goal.invariant-loop-word
invariant-loop-word l = record {
  takes : fold with_rule (app_of l.command) (map rule_of_word (drop l.word-index l.words))
      ≡ fold with_rule (app_of l.initial.command) (map rule_of_word l.words);
  global : (out-Command l.command).has_globals ≡ false;
}
