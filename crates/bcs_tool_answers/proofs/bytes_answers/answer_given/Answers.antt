use Rattle.bcs_tool_answers.proofs.Prelude.{◌∙◌, refl, subst, sym, IfOk-weaker, GivesBytes, Coding}
use Rattle.bcs_tool_answers.proofs.bytes_answers.answer_given.Goals as goal

pub returns-in-Raw : goal.returns-in-Raw
returns-in-Raw c =
    let input = c.args.input.now in
    let gives = subst (λ (coding : Coding). GivesBytes coding input input) (sym c.in-Raw.is ∙ c.coding.ensures) refl in
    IfOk-weaker c.answer_bytes.result _ _ (λ a answers. answers input c.requires.within gives) c.answer_bytes.ensures
