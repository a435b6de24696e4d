use Rattle.bcs_calls.proofs.Prelude.{List, rules, subst, ℕ, Puts}
use Rattle.bcs_calls.specs.Explained.{no_memory, put, refused_call}
use Rattle.bcs_calls.proofs.explaining.explained.Goals as goal

pub returns-in-None-clause-answers : goal.returns-in-None-clause-answers
returns-in-None-clause-answers c =
    let x = c.in-Ok.explained in
    let puts = subst (λ (b : List ℕ). Puts b c.args.out.now c.put-answer.new.out c.put-answer.result) c.deref.ensures.value c.put-answer.ensures.puts in
    put x.text.items x.stop c.put-answer.result c.in-Ok.ensures.ends puts c.with_stop.ensures

pub returns-clause-answers : goal.returns-clause-answers
returns-clause-answers c =
    let x = c.in-Ok.explained in
    let puts = subst (λ (b : List ℕ). Puts b c.args.out.now c.put-answer.new.out c.put-answer.result) c.deref.ensures.value c.put-answer.ensures.puts in
    refused_call x.text.items _ _ c.put-answer.result (λ plain. (let uncalled = c.in-Ok.ensures.uncalled plain in search (rules, uncalled))) puts c.with_fault_at.ensures

pub returns-in-Err-clause-answers : goal.returns-in-Err-clause-answers
returns-in-Err-clause-answers c = no_memory c.plain.ensures
