use Rattle.bcs_calls.proofs.Prelude.{List, subst, ℕ, Puts}
use Rattle.bcs_calls.specs.Modules.{made, refused}
use Rattle.bcs_calls.proofs.modules.text_of_modules.Goals as goal

pub returns-in-Ok-clause-answers : goal.returns-in-Ok-clause-answers
returns-in-Ok-clause-answers c = made c.in-Ok.text.items c.in-Ok.ensures (subst (λ (b : List ℕ). Puts b c.args.out.now c.put.new.out c.put.result) c.deref.ensures.value c.put.ensures.puts)

pub returns-in-Err-Refused-clause-answers : goal.returns-in-Err-Refused-clause-answers
returns-in-Err-Refused-clause-answers c = refused c.in-Err-Refused.refusal.name c.refusal.ensures
