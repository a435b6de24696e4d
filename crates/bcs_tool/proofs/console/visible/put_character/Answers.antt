use Rattle.bcs_tool.proofs.Prelude.{◌∙◌, ℕ, List, subst, sym, OnOk, OnErr, Took, PutFront}
use Rattle.bcs_tool.proofs.Showing.{part_of, shown_hidden, shown_plain}
use Rattle.bcs_tool.proofs.console.visible.put_character.Goals as goal

pub returns-then-is_hidden-clause-whole : goal.returns-then-is_hidden-clause-whole
returns-then-is_hidden-clause-whole g c =
    let P : List ℕ → Type 0 = λ text. OnOk c.put_escape.result (Took g.E.ByteSink.taken g.E.ByteSink.is_failed c.args.errors.now c.put_escape.new.errors text) in
    subst P (sym (shown_hidden c.args.keeps_lines c.args.character (sym c.is_hidden.ensures ∙ c.if-is_hidden.true))) c.put_escape.ensures.whole

pub returns-then-is_hidden-clause-part : goal.returns-then-is_hidden-clause-part
returns-then-is_hidden-clause-part g c =
    let P : List ℕ → Type 0 = λ text. OnErr c.put_escape.result (PutFront g.E.ByteSink.taken g.E.ByteSink.is_failed c.args.errors.now c.put_escape.new.errors text) in
    subst P (sym (shown_hidden c.args.keeps_lines c.args.character (sym c.is_hidden.ensures ∙ c.if-is_hidden.true))) c.put_escape.ensures.part

pub returns-else-is_hidden-clause-whole : goal.returns-else-is_hidden-clause-whole
returns-else-is_hidden-clause-whole g c =
    let P : List ℕ → Type 0 = λ text. OnOk c.put_all.result (Took g.E.ByteSink.taken g.E.ByteSink.is_failed c.args.errors.now c.put_all.new.sink text) in
    let plain = sym (shown_plain c.args.keeps_lines c.args.character (sym c.is_hidden.ensures ∙ c.if-is_hidden.false)) in
    subst P (c.as_bytes.ensures.value ∙ c.encode_utf8.ensures.value ∙ plain) c.put_all.ensures.whole

pub returns-else-is_hidden-clause-part : goal.returns-else-is_hidden-clause-part
returns-else-is_hidden-clause-part g c =
    let P : List ℕ → Type 0 = λ text. OnErr c.put_all.result (PutFront g.E.ByteSink.taken g.E.ByteSink.is_failed c.args.errors.now c.put_all.new.sink text) in
    let plain = sym (shown_plain c.args.keeps_lines c.args.character (sym c.is_hidden.ensures ∙ c.if-is_hidden.false)) in
    subst P (c.as_bytes.ensures.value ∙ c.encode_utf8.ensures.value ∙ plain)
    (part_of g.E.ByteSink.taken g.E.ByteSink.is_failed c.put_all.result _ _ _ c.put_all.ensures.part)
