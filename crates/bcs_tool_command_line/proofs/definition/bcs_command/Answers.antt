use Rattle.bcs_tool_command_line.proofs.Prelude.{◌≡◌, ◌∙◌, ap, codes, fold, map, IfOk-weaker, App, app_of, app_of_command, new_app, app_of_fields, commands, reports_version, wants_command, with_command}
use Rattle.bcs_tool_command_line.proofs.definition.bcs_command.Goals as goal

pub returns : goal.returns
returns c =
    let plain = ap app_of_fields c.after_help.ensures ∙ (ap app_of_fields c.about.ensures ∙ c.new.ensures.app) in
    let top : app_of c.subcommand_required-program.result ≡ wants_command (reports_version (new_app (codes "bcs"))) =
    ap app_of_fields c.subcommand_required-program.ensures
    ∙ ap wants_command (ap app_of_fields c.version.ensures ∙ ap reports_version plain) in
    IfOk-weaker c.with_commands.result _ _
    (λ r h. h ∙ ap (λ (a : App). fold with_command a (map app_of_command commands)) top)
    c.with_commands.ensures
