use Rattle.bcs_tool_answers.proofs.Prelude.{List, refl, subst, sym, ℕ, IfOk-weaker, Answers, no_bytes, refusal_line, GivesBytes, IsBase64Of, input_fault_name, Coding, Base64}
use Rattle.bcs_tool_answers.proofs.AnswerLemmas.{is_asked, placed_answer, takes_bytes}
use Rattle.bcs_tool_answers.proofs.bytes_answers.answer_base64.Goals as goal

pub returns-in-Ok : goal.returns-in-Ok
returns-in-Ok c =
    let input = c.args.input.now in
    let bytes = c.as_slice.result.now in
    let of_text = subst (λ (text : List ℕ). IsBase64Of text c.in-Ok.bytes.items) c.without_blanks.ensures c.in-Ok.ensures.ok in
    let of_slice = subst (λ (b : List ℕ). GivesBytes Base64 input b) (sym c.as_slice.ensures.value) of_text in
    let gives = subst (λ (coding : Coding). GivesBytes coding input bytes) (sym c.requires.coding) of_slice in
    IfOk-weaker c.answer_bytes.result _ _ (λ a answers. answers input c.requires.within gives) c.answer_bytes.ensures

pub returns-in-Err : goal.returns-in-Err
returns-in-Err c =
    let input = c.args.input.now in
    let work = c.args.work.now in
    let none = c.in-Err.ensures.err in
    IfOk-weaker c.refused_base64.result _ _ (λ a is. placed_answer work input 2 _ a is.1 is.2 is.3
    (subst (λ (coding : Coding). Answers work input 2 (refusal_line (input_fault_name coding))) c.requires.coding
    (no_bytes work.command _ _ (takes_bytes c.args.command work.command c.requires.command) (is_asked input work.command refl c.requires.asked c.requires.within)
    (λ bytes gives. none is.0 bytes
    (subst (λ (text : List ℕ). IsBase64Of text bytes) (sym c.without_blanks.ensures) (subst (λ (coding : Coding). GivesBytes coding input bytes) c.requires.coding gives)))))) c.refused_base64.ensures
