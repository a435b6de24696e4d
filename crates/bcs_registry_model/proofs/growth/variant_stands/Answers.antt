use Rattle.bcs_registry_model.proofs.Prelude.{Some, None, sym, ap, ◌∙◌, fault_unless, VariantChanged}
use Rattle.bcs_registry_model.proofs.GrowthSteps.{choice_got}
use Rattle.bcs_registry_model.proofs.growth.variant_stands.Goals as goal

pub returns-in-Some : goal.returns-in-Some
returns-in-Some c =
    sym (choice_got c.args.newer.now.entries c.args.number c.args.older.now c.get.result (Some c.in-Some.newer) c.get.ensures.value c.in-Some.is
    ∙ ap (fault_unless VariantChanged) (sym c.is_same_variant.ensures ∙ c.if-is_same_variant.true))

pub returns-in-Some-2 : goal.returns-in-Some-2
returns-in-Some-2 c =
    sym (choice_got c.args.newer.now.entries c.args.number c.args.older.now c.get.result (Some c.in-Some.newer) c.get.ensures.value c.in-Some.is
    ∙ ap (fault_unless VariantChanged) (sym c.is_same_variant.ensures ∙ c.if-is_same_variant.false))

pub returns-in-None : goal.returns-in-None
returns-in-None c = sym (choice_got c.args.newer.now.entries c.args.number c.args.older.now c.get.result None c.get.ensures.value c.in-None.is)
