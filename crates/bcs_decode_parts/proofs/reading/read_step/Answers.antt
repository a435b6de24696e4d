use Rattle.bcs_decode_parts.proofs.Prelude.{◌∙◌, ◌++◌, List, ap, codes, sym, ℕ}
use Rattle.bcs_decode_parts.proofs.Steps.{no_step}
use Rattle.bcs_decode_parts.proofs.reading.read_step.Goals as goal

pub returns-in-Some-clause-bad : goal.returns-in-Some-clause-bad
returns-in-Some-clause-bad c =
    let cut = c.in-Some.ensures.cases in
    λ bad. no_step c.args.text.now c.in-Some.digits.now (cut.1.1 ∙ ap (λ (digits : List ℕ). codes "key:" ++ digits) (sym cut.2))
    (c.read_key.ensures.bad bad)
