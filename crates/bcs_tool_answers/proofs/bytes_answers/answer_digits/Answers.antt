use Rattle.bcs_tool_answers.proofs.Prelude.{◌≡◌, ◌⊎◌, Err, List, Ok, refl, subst, sym, ℕ, IfOk-weaker, decode_of, OutOfMemory, Answers, no_bytes, refusal_line, GivesBytes, input_fault_name, without_blanks, Coding}
use Rattle.bcs_tool_answers.proofs.AnswerLemmas.{is_asked, no_digits, placed_answer, takes_bytes}
use Rattle.bcs_tool_answers.proofs.bytes_answers.answer_digits.Goals as goal

pub returns-in-Ok : goal.returns-in-Ok
returns-in-Ok c =
    let input = c.args.input.now in
    let bytes = c.as_slice.result.now in
    let decoded = subst (λ (text : List ℕ). decode_of text ≡ Ok c.in-Ok.bytes.items) c.without_blanks.ensures c.in-Ok.ensures.ok in
    let digits = subst (λ (b : List ℕ). decode_of (without_blanks input) ≡ Ok b) (sym c.as_slice.ensures.value) decoded in
    let gives = subst (λ (coding : Coding). GivesBytes coding input bytes) (sym c.requires.coding) digits in
    IfOk-weaker c.answer_bytes.result _ _ (λ a answers. answers input c.requires.within gives) c.answer_bytes.ensures

pub returns-in-Err : goal.returns-in-Err
returns-in-Err c =
    let input = c.args.input.now in
    let work = c.args.work.now in
    let fault = c.in-Err.fault in
    let refused = subst (λ (text : List ℕ). (fault ≡ OutOfMemory) ⊎ (decode_of text ≡ Err fault)) c.without_blanks.ensures c.in-Err.ensures.err in
    IfOk-weaker c.refused_digits.result _ _ (λ a is. placed_answer work input 2 _ a is.1 is.2 is.3
    (subst (λ (coding : Coding). Answers work input 2 (refusal_line (input_fault_name coding))) c.requires.coding
    (no_bytes work.command _ _ (takes_bytes c.args.command work.command c.requires.command) (is_asked input work.command refl c.requires.asked c.requires.within)
    (λ bytes gives. no_digits (without_blanks input) fault refused is.0 bytes (subst (λ (coding : Coding). GivesBytes coding input bytes) c.requires.coding gives))))) c.refused_digits.ensures
