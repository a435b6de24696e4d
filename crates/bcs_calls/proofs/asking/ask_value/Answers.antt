use Rattle.bcs_calls.proofs.Prelude.{ap, subst, sym, Answer, on_handle, refused, RefusesAsk}
use Rattle.bcs_calls.specs.Answers.{without_message}
use Rattle.bcs_calls.proofs.Bare.{bare_asking}
use Rattle.bcs_calls.proofs.Calls.{owes_memory}
use Rattle.bcs_calls.proofs.Once.{answers_asked, ask_stands, whatever_asked}
use Rattle.bcs_calls.proofs.asking.ask_value.Goals as goal

pub returns-in-Err-clause-answers : goal.returns-in-Err-clause-answers
returns-in-Err-clause-answers c =
    let q = on_handle c.args.handle.now.registry c.args.question.now in
    let why = c.in-Err.ensures.err.0 in
    refused (subst (λ (a : Answer). RefusesAsk q a) (sym (bare_asking c.in-Err.answer q why)) why)

pub returns-in-Err-clause-owed : goal.returns-in-Err-clause-owed
returns-in-Err-clause-owed c r l s h =
    let memory = ask_stands (on_handle c.args.handle.now.registry c.args.question.now) r l s c.in-Err.answer h c.in-Err.ensures.err.0 in
    owes_memory c.args.question.now r l s (without_message c.in-Err.answer) (ap without_message memory) c.args.call

pub returns-clause-answers : goal.returns-clause-answers
returns-clause-answers c =
    answers_asked (on_handle c.args.handle.now.registry c.args.question.now) c.in-Ok.lent c.asked.result c.in-Ok.ensures.ok c.asked.ensures (without_message c.told_value-answer.result) _
    c.told_value-answer.ensures.answers

pub returns-clause-owed : goal.returns-clause-owed
returns-clause-owed c = whatever_asked (on_handle c.args.handle.now.registry c.args.question.now) c.in-Ok.lent c.asked.result c.in-Ok.ensures.ok c.asked.ensures _ c.told_value-answer.ensures.owed

pub returns-clause-tells : goal.returns-clause-tells
returns-clause-tells c refuses some =
    whatever_asked (on_handle c.args.handle.now.registry c.args.question.now) c.in-Ok.lent c.asked.result c.in-Ok.ensures.ok c.asked.ensures _ (c.told_value-answer.ensures.tells refuses some)
