use Rattle.bcs_registry_model.proofs.Prelude.{string_bytes, sym, ap, ◌∙◌, map, are_distinct}
use Rattle.bcs_registry_model.proofs.Inside.{choice_names-values}
use Rattle.bcs_registry_model.proofs.DistinctNames.{are_distinct-from_none, all_new-next}
use Rattle.bcs_registry_model.proofs.distinct.are_distinct_variants.Goals as goal

pub loop-variant-init : goal.loop-variant-init
loop-variant-init c =
    ap are_distinct (choice_names-values c.args.variants.now.entries ∙ ap (map (λ v. string_bytes v.name)) (sym (c.into_iter-variant-iterator.ensures.into_iter_gives ∙ c.values-variant-items.ensures.rest)))
    ∙ are_distinct-from_none c.new-seen.result _ c.new-seen.ensures.empty

pub loop-variant-preserved : goal.loop-variant-preserved
loop-variant-preserved c =
    c.loop-variant.invariant
    ∙ all_new-next (λ v. string_bytes v.name) c.loop-variant.variant-iterator c.next.new.self c.in-Some.variant.now c.loop-variant.seen c.insert.new.self c.as_str.result c.in_ok-insert.field-0
    c.in-Some.ensures.steps c.as_str.ensures.value c.if-not-branch.false c.in_ok-insert.ensures.added c.in_ok-insert.ensures.updates
