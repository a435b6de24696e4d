use Rattle.bcs_tool_answers.proofs.Prelude.{Bool, subst, IfOk-weaker, shape_of, Compares, different, equal}
use Rattle.bcs_tool_answers.proofs.AnswerLemmas.{refused_texts, same_pair}
use Rattle.bcs_tool_answers.proofs.pair_answers.answer_pair.Goals as goal

pub returns-in-Ok-true-clause-answers : goal.returns-in-Ok-true-clause-answers
returns-in-Ok-true-clause-answers c =
    let registry = c.args.asked.now.registry in
    let limits = c.args.work.now.limits in
    let s = shape_of c.args.asked.now.format in
    let first = c.args.first.now in
    let second = c.args.second.now in
    IfOk-weaker c.told.result _ _ (λ a is. same_pair registry limits s first second a 0 _ is
    (equal (subst (λ (answer : Bool). Compares registry limits s first second answer) c.in-Ok-true.field-0-test c.in-Ok-true.ensures.compares))) c.told.ensures

pub returns-in-Ok-false-clause-answers : goal.returns-in-Ok-false-clause-answers
returns-in-Ok-false-clause-answers c =
    let registry = c.args.asked.now.registry in
    let limits = c.args.work.now.limits in
    let s = shape_of c.args.asked.now.format in
    let first = c.args.first.now in
    let second = c.args.second.now in
    IfOk-weaker c.told-in-Ok-false.result _ _ (λ a is. same_pair registry limits s first second a 1 _ is
    (different (subst (λ (answer : Bool). Compares registry limits s first second answer) c.in-Ok-false.field-0-test c.in-Ok-false.ensures.compares))) c.told-in-Ok-false.ensures

pub returns-in-Err-clause-answers : goal.returns-in-Err-clause-answers
returns-in-Err-clause-answers c =
    let registry = c.args.asked.now.registry in
    let limits = c.args.work.now.limits in
    let s = shape_of c.args.asked.now.format in
    let first = c.args.first.now in
    let second = c.args.second.now in
    IfOk-weaker c.refused_text.result _ _ (λ a is. same_pair registry limits s first second a 2 _ is.1
    (refused_texts registry limits s first second c.in-Err.fault (c.in-Err.ensures.fault is.0))) c.refused_text.ensures
