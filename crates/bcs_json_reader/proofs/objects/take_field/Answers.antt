use Rattle.bcs_json_reader.proofs.Prelude.{◌∙◌, ap, sym, option_map, None, rules, view, members_view}
use Rattle.bcs_json_reader.proofs.Taken.{left_without, found_member}
use Rattle.bcs_json_reader.proofs.objects.take_field.Goals as goal

pub returns-in_default-clause-missing : goal.returns-in_default-clause-missing
returns-in_default-clause-missing c =
    sym (found_member c.args.name.now c.args.members.now.entries) ∙ sym (ap (option_map view) c.remove.ensures.value) ∙ ap (option_map view) {y = None} (search rules)

pub returns-in_default-clause-left : goal.returns-in_default-clause-left
returns-in_default-clause-left c = ap members_view c.remove.ensures.entries ∙ left_without c.args.name.now c.args.members.now.entries

pub returns-clause-ok : goal.returns-clause-ok
returns-clause-ok c =
    sym (found_member c.args.name.now c.args.members.now.entries) ∙ sym (ap (option_map view) c.remove.ensures.value) ∙ ap (option_map view) c.in-Some.is

pub returns-clause-left : goal.returns-clause-left
returns-clause-left c = ap members_view c.remove.ensures.entries ∙ left_without c.args.name.now c.args.members.now.entries
