use Rattle.bcs_registry_json.proofs.Prelude.{◌≡◌, ◌∙◌, ◌<◌, ◌^◌, List, [], ◌∷◌, ◌++◌, map, sym, ap, ap₂, subst, append_assoc, append-nil, arith, IsStrictlySortedBy, keys_of, put, view, members_view, single, shown_choices, choice_of, Variant, all_push}
use Rattle.std.specs.Fmt.{decimal}
use Rattle.std.specs.Ordering.{nat_cmp}
use Rattle.bcs_registry_json.proofs.ShownParts.{variant_data, shown_choices-push}
use Rattle.bcs_registry_json.proofs.printing.variants.variant_members.Goals as goal

pub loop-number-preserved : goal.loop-number-preserved
loop-number-preserved c =
    let l = c.loop-number in
    let done = l.invariant.0 in
    let v : Variant = (c.in-Some.number.now, c.in-Some.variant.now) in
    let left = c.next.new.self in
    let all : c.args.variants.now.entries ≡ done ++ v ∷ left = l.invariant.1 ∙ ap (λ vs. done ++ vs) c.in-Some.ensures.steps in
    let ordered = subst (λ (vs : List Variant). IsStrictlySortedBy nat_cmp (keys_of vs)) all c.into_iter-number-iterator.ensures.into_iter_gives.5 in
    let bound : v.0 < 2 ^ 32 = omega arith in
    let value : view c.in_ok-value.value ≡ variant_data v =
    c.in_ok-value.ensures ∙ ap₂ single c.as_str.ensures.value c.in_ok-payload.ensures in (
      done ++ v ∷ [],
      all ∙ sym (append_assoc done (v ∷ []) left),
      all_push (λ n. n < 2 ^ 32) (λ (v : Variant). v.0) done v l.invariant.2 bound,
      c.in_ok-put.ensures.ok ∙ ap₂ (λ k d. put k d (members_view l.members.entries)) c.format.ensures.text value
          ∙ ap (put (decimal v.0) (variant_data v)) l.invariant.3 ∙ shown_choices-push done v left ordered l.invariant.2 bound,
    )

pub returns : goal.returns
returns c =
    let done = c.loop-number.invariant.0 in
    let all : c.args.variants.now.entries ≡ done = c.loop-number.invariant.1 ∙ ap (λ vs. done ++ vs) c.in-None.ensures.steps.0 ∙ append-nil done in
    c.loop-number.invariant.3 ∙ ap (λ vs. shown_choices (map choice_of vs)) (sym all)
