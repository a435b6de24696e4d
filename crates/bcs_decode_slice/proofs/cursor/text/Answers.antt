use Rattle.bcs_decode_slice.proofs.Prelude.{◌∙◌}
use Rattle.bcs_decode_slice.proofs.Steps.{text_found, text_wrong}
use Rattle.bcs_decode_slice.proofs.cursor.text.Goals as goal

pub returns-in-Ok-clause-passes : goal.returns-in-Ok-clause-passes
returns-in-Ok-clause-passes c =
    rw c.in-Ok.ensures.cases.0 (text_found c.args.cursor.now.place c.args.cursor.now.nodes c.args.cursor.now.rest.now c.args.count _ _ _ _ c.in_ok-found.ensures.passes c.in-Ok.ensures.cases.1)

pub returns-in-Err-clause-passes : goal.returns-in-Err-clause-passes
returns-in-Err-clause-passes c =
    text_wrong c.args.cursor.now.place c.args.cursor.now.nodes c.args.cursor.now.rest.now c.args.count _ _ _ _ c.valid_up_to.result c.in_ok-found.ensures.passes c.in-Err.ensures.cases.0 (c.valid_up_to.ensures ∙ c.in-Err.ensures.valid_len)
