use Rattle.bcs_decode_slice.proofs.Prelude.{◌≡◌, ◌∙◌, ◌≤◌, map, ap, sym, err_from_is_err_and, Shape, Content, of, one_of, nothing, content, payload_shape, choice_at, content_seen, layout_shape, payload_of, choice_of, container_of, levels, content_at-inside, choice_at-inside, choice_found, choice_missing}
use Rattle.bcs_decode_slice.proofs.Openings.{opened_struct, opened_stop, opened_unknown, opened_variant}
use Rattle.bcs_decode_slice.proofs.opening.opened.Goals as goal

pub returns-in-Of-clause-passes : goal.returns-in-Of-clause-passes
returns-in-Of-clause-passes c =
    let is : content (container_of c.args.container.now) ≡ of (layout_shape c.in-Of.layout) = sym c.content.ensures ∙ ap content_seen c.in-Of.is in
    opened_struct _ _ _ _ _ is

pub returns-in-Of-clause-levels : goal.returns-in-Of-clause-levels
returns-in-Of-clause-levels c registry name well_formed found =
    let is = found ∙ sym c.content.ensures ∙ ap content_seen c.in-Of.is in
    (content_at-inside registry well_formed name (layout_shape c.in-Of.layout) is).1

pub returns-in_err-start-in-OneOf-clause-passes : goal.returns-in_err-start-in-OneOf-clause-passes
returns-in_err-start-in-OneOf-clause-passes c =
    let p = err_from_is_err_and c.from_residual.result c.from_residual.ensures.1 in
    let is : content (container_of c.args.container.now) ≡ one_of (map choice_of c.in-OneOf.variants.now.entries) = sym c.content.ensures ∙ ap content_seen c.in-OneOf.is in
    rw (p.1, p.2) (opened_stop _ _ _ _ _ _ is c.in_err-start-in-OneOf.ensures.passes)

pub returns-in-Some-clause-passes : goal.returns-in-Some-clause-passes
returns-in-Some-clause-passes c =
    let cs = map choice_of c.in-OneOf.variants.now.entries in
    let n = c.in_ok-start-in-OneOf.number in
    let is : content (container_of c.args.container.now) ≡ one_of cs = sym c.content.ensures ∙ ap content_seen c.in-OneOf.is in
    let chosen : choice_at n cs ≡ of (layout_shape c.layout.result) = choice_found n c.in-OneOf.variants.now.entries c.in-Some.variant c.get.result c.get.ensures.value c.in-Some.is ∙ ap of (sym c.layout.ensures) in
    opened_variant _ _ _ _ cs c.in_ok-start-in-OneOf.start n _ _ _ _ is c.in_ok-start-in-OneOf.ensures.passes chosen

pub returns-in-Some-clause-levels : goal.returns-in-Some-clause-levels
returns-in-Some-clause-levels c registry name well_formed found =
    let cs = map choice_of c.in-OneOf.variants.now.entries in
    let n = c.in_ok-start-in-OneOf.number in
    let is = found ∙ sym c.content.ensures ∙ ap content_seen c.in-OneOf.is in
    let chosen : choice_at n cs ≡ of (layout_shape c.layout.result) = choice_found n c.in-OneOf.variants.now.entries c.in-Some.variant c.get.result c.get.ensures.value c.in-Some.is ∙ ap of (sym c.layout.ensures) in
    (choice_at-inside registry well_formed name cs is n (layout_shape c.layout.result) chosen).1

pub returns-in-None-clause-passes : goal.returns-in-None-clause-passes
returns-in-None-clause-passes c =
    let cs = map choice_of c.in-OneOf.variants.now.entries in
    let n = c.in_ok-start-in-OneOf.number in
    let is : content (container_of c.args.container.now) ≡ one_of cs = sym c.content.ensures ∙ ap content_seen c.in-OneOf.is in
    let none : choice_at n cs ≡ nothing = choice_missing n c.in-OneOf.variants.now.entries c.get.result c.get.ensures.value c.in-None.is in
    opened_unknown _ _ _ _ cs c.in_ok-start-in-OneOf.start n _ _ _ is c.in_ok-start-in-OneOf.ensures.passes none
