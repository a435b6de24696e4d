use Rattle.bcs_calls.proofs.Prelude.{List, ℕ, subst, ◌∙◌, named, Puts}
use Rattle.bcs_calls.proofs.naming.told_fault_name.Goals as goal

pub returns-in-Some-clause-answers : goal.returns-in-Some-clause-answers
returns-in-Some-clause-answers c =
    named c.in-Some.fault c.in-Some.ensures.some
    (subst (λ (b : List ℕ). Puts b c.args.out.now c.put.new.out c.put.result) (c.as_bytes.ensures.value ∙ c.name.ensures) c.put.ensures.puts)
