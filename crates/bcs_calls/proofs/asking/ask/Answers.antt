use Rattle.bcs_calls.specs.Answered.{of_plain, of_value}
use Rattle.bcs_calls.specs.Messages as messages
use Rattle.bcs_calls.proofs.asking.ask.Goals as goal

pub returns-in-Some-clause-answers : goal.returns-in-Some-clause-answers
returns-in-Some-clause-answers c = of_value c.in-Some.call c.in-Some.ensures.some c.ask_value.ensures.answers c.ask_value.ensures.owed

pub returns-in-Some-clause-tells : goal.returns-in-Some-clause-tells
returns-in-Some-clause-tells c refuses some = messages.of_value c.in-Some.call c.in-Some.ensures.some (c.ask_value.ensures.tells refuses some)

pub returns-in-Some-numbered-clause-answers : goal.returns-in-Some-numbered-clause-answers
returns-in-Some-numbered-clause-answers c = of_plain c.in-Some-numbered.call c.in-Some-numbered.ensures.some c.ask_plain.ensures.answers c.ask_plain.ensures.owed

pub returns-in-Some-numbered-clause-tells : goal.returns-in-Some-numbered-clause-tells
returns-in-Some-numbered-clause-tells c refuses some = messages.of_plain c.in-Some-numbered.call c.in-Some-numbered.ensures.some (c.ask_plain.ensures.tells refuses some)
