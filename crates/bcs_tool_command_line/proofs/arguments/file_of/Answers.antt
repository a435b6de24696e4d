use Rattle.bcs_tool_command_line.proofs.Prelude.{◌∙◌, ap, sym, codes, inl, inr, found_of, rows_of, first_value-rows, file_by, Notation}
use Rattle.bcs_tool_command_line.proofs.FoundTexts.{either}
use Rattle.bcs_tool_command_line.proofs.arguments.file_of.Goals as goal

pub returns-in-Path : goal.returns-in-Path
returns-in-Path c =
    let f = found_of c.args.given.now in
    either c.get_str.result c.get_str-in-Path.result c.or.result _ _ c.or.ensures (c.get_str.ensures ∙ first_value-rows f (codes "FILE"))
    (c.get_str-in-Path.ensures ∙ first_value-rows f (codes "B"))
    ∙ ap (λ (n : Notation). file_by n (rows_of f)) (sym c.in-Path.is ∙ c.notation_of.ensures)

pub returns-in-Names : goal.returns-in-Names
returns-in-Names c =
    let f = found_of c.args.given.now in
    let text = c.get_str-in-Names.ensures ∙ first_value-rows f (codes "PATH") in
    elim c.in-Names.is [
      | inl e ↦ text ∙ ap (λ (n : Notation). file_by n (rows_of f)) (sym e ∙ c.notation_of.ensures)
      | inr e ↦ text ∙ ap (λ (n : Notation). file_by n (rows_of f)) (sym e ∙ c.notation_of.ensures)
    ]
