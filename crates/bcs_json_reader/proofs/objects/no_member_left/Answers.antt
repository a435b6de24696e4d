use Rattle.bcs_json_reader.proofs.Prelude.{length, true≢false, ap, sym, ◌∙◌}
use Rattle.bcs_json_reader.proofs.Taken.{some_left}
use Rattle.bcs_json_reader.proofs.objects.no_member_left.Goals as goal

pub returns-else-is_empty-clause-left : goal.returns-else-is_empty-clause-left
returns-else-is_empty-clause-left c = some_left c.args.members.now.entries (λ e. true≢false (sym (c.is_empty.ensures.1 (ap length e)) ∙ c.if-is_empty.false))
