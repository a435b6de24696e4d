use Rattle.bcs_tool.proofs.Prelude.{◌∙◌, ℕ, List, subst, sym, OnOk, OnErr, Took, PutFront}
use Rattle.bcs_tool.proofs.Showing.{part_of}
use Rattle.bcs_tool.proofs.console.visible.put_visible.Goals as goal

pub returns-else-has_hidden-clause-whole : goal.returns-else-has_hidden-clause-whole
returns-else-has_hidden-clause-whole g c =
    let P : List ℕ → Type 0 = λ text. OnOk c.put_all.result (Took g.E.ByteSink.taken g.E.ByteSink.is_failed c.args.errors.now c.put_all.new.sink text) in
    subst P (c.as_bytes.ensures.value ∙ sym (c.has_hidden.ensures c.if-has_hidden.false)) c.put_all.ensures.whole

pub returns-else-has_hidden-clause-part : goal.returns-else-has_hidden-clause-part
returns-else-has_hidden-clause-part g c =
    let P : List ℕ → Type 0 = λ text. OnErr c.put_all.result (PutFront g.E.ByteSink.taken g.E.ByteSink.is_failed c.args.errors.now c.put_all.new.sink text) in
    subst P (c.as_bytes.ensures.value ∙ sym (c.has_hidden.ensures c.if-has_hidden.false))
    (part_of g.E.ByteSink.taken g.E.ByteSink.is_failed c.put_all.result _ _ _ c.put_all.ensures.part)
