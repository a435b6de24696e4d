use Rattle.bcs_tool.proofs.Prelude.{◌≡◌, ◌∙◌, ◌++◌, ◌+◌, ◌-◌, ◌%◌, ℕ, List, ap, rules, subst, sym, arith, OnOk, OnErr, Took, numbered, PutFront, escape}
use Rattle.bcs_tool.proofs.EndingLemmas.{front_of_more}
use Rattle.bcs_tool.proofs.Showing.{escape_high, escape_low, part_of, part_then, whole_then}
use Rattle.bcs_tool.proofs.console.visible.put_escape.Goals as goal

pub returns-then-code-lt65536-clause-whole : goal.returns-then-code-lt65536-clause-whole
returns-then-code-lt65536-clause-whole g c =
    let P : List ℕ → Type 0 = λ text. OnOk c.put_all.result (Took g.E.ByteSink.taken g.E.ByteSink.is_failed c.args.errors.now c.put_all.new.sink text) in
    subst P (c.escape_of.ensures ∙ sym (escape_low c.args.code (omega arith))) c.put_all.ensures.whole

pub returns-then-code-lt65536-clause-part : goal.returns-then-code-lt65536-clause-part
returns-then-code-lt65536-clause-part g c =
    let P : List ℕ → Type 0 = λ text. OnErr c.put_all.result (PutFront g.E.ByteSink.taken g.E.ByteSink.is_failed c.args.errors.now c.put_all.new.sink text) in
    subst P (c.escape_of.ensures ∙ sym (escape_low c.args.code (omega arith)))
    (part_of g.E.ByteSink.taken g.E.ByteSink.is_failed c.put_all.result _ _ _ c.put_all.ensures.part)

pub returns-in_err-put_all-clause-part : goal.returns-in_err-put_all-clause-part
returns-in_err-put_all-clause-part g c =
    let P : List ℕ → Type 0 = λ text. PutFront g.E.ByteSink.taken g.E.ByteSink.is_failed c.args.errors.now c.put_all-2.new.sink text in
    let code = c.args.code in
    let low = numbered (56320 + (code - 65536) % 1024) in
    let units : c.escape_of-2.result ++ low ≡ escape code =
    ap (λ (high : List ℕ). high ++ low) c.escape_of-2.ensures ∙ sym (escape_high code (omega arith)) in
    let front : PutFront g.E.ByteSink.taken g.E.ByteSink.is_failed c.args.errors.now c.put_all-2.new.sink (escape code) =
    subst P units (front_of_more g.E.ByteSink.taken g.E.ByteSink.is_failed _ _ c.escape_of-2.result low (_, c.in_err-put_all.ensures.part.0, c.in_err-put_all.ensures.part.1)) in
    search rules

pub returns-clause-whole : goal.returns-clause-whole
returns-clause-whole g c =
    let P : List ℕ → Type 0 = λ text. OnOk c.put_all-3.result (Took g.E.ByteSink.taken g.E.ByteSink.is_failed c.args.errors.now c.put_all-3.new.sink text) in
    let units : c.escape_of-2.result ++ c.escape_of-3.result ≡ escape c.args.code =
    rw (c.escape_of-2.ensures, c.escape_of-3.ensures) (sym (escape_high c.args.code (omega arith))) in
    subst P units
    (whole_then g.E.ByteSink.taken g.E.ByteSink.is_failed c.put_all-3.result _ _ _ c.escape_of-2.result c.escape_of-3.result c.in_ok-put_all.ensures.whole c.put_all-3.ensures.whole)

pub returns-clause-part : goal.returns-clause-part
returns-clause-part g c =
    let P : List ℕ → Type 0 = λ text. OnErr c.put_all-3.result (PutFront g.E.ByteSink.taken g.E.ByteSink.is_failed c.args.errors.now c.put_all-3.new.sink text) in
    let units : c.escape_of-2.result ++ c.escape_of-3.result ≡ escape c.args.code =
    rw (c.escape_of-2.ensures, c.escape_of-3.ensures) (sym (escape_high c.args.code (omega arith))) in
    subst P units
    (part_then g.E.ByteSink.taken g.E.ByteSink.is_failed c.put_all-3.result _ _ _ c.escape_of-2.result c.escape_of-3.result c.in_ok-put_all.ensures.whole
    (part_of g.E.ByteSink.taken g.E.ByteSink.is_failed c.put_all-3.result _ _ _ c.put_all-3.ensures.part))
