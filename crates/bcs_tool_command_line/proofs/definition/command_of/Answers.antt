use Rattle.bcs_tool_command_line.proofs.Prelude.{◌∙◌, ap, sym, refl, fold, map, option_map, Bor, List, ℕ, Option, IfOk-weaker, App, app_of_fields, new_app, rule_of_word, with_alias, with_rule}
use Rattle.bcs_tool_command_line.proofs.Program.{aliased, no_alias}
use Rattle.bcs_tool_command_line.proofs.definition.command_of.Goals as goal

pub returns-in-Some-clause-app : goal.returns-in-Some-clause-app
returns-in-Some-clause-app c =
    let row = c.args.row in
    let rules = map rule_of_word row.words.now in
    let plain = ap app_of_fields c.after_help-command.ensures ∙ (ap app_of_fields c.about.ensures ∙ c.new.ensures.app) in
    let same = c.in_ok-command.ensures.app ∙ ap (λ (a : App). fold with_rule a rules) plain in
    IfOk-weaker c.visible_alias.result _ _
    (λ r h. aliased c.in_ok-command.command r _ _ _ same (no_alias (new_app row.name.now) rules refl) h
    ∙ sym (ap (λ (o : Option (Bor (List ℕ))). with_alias (option_map (λ t. t.now) o) (fold with_rule (new_app row.name.now) rules)) c.in-Some.is))
    c.visible_alias.ensures
