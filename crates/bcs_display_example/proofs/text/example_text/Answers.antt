use Rattle.std.proofs.Common.{string_bytes, subst}
use Rattle.std.specs.Prelude.{IfSome}
use Rattle.bcs_registry_model.specs.View.{shape_of}
use Rattle.bcs_value_model.specs.View.{tree_of}
use Rattle.bcs_json_spec.proofs.Printed.{shown_denotes}
use Rattle.bcs_json_spec.specs.JsonContent.{of}
use Rattle.bcs_json_spec.specs.Shown.{shown}
use Rattle.bcs_json_spec.specs.Texts.{IsReadAs}
use Rattle.bcs_display_example.proofs.text.example_text.Goals as goal

pub returns-in-Some : goal.returns-in-Some
returns-in-Some c =
    let back = subst (λ o. IfSome o (λ x. IsReadAs (string_bytes x) (shown c.args.registry.now (tree_of c.in_ok-value.value) (of (shape_of c.args.format.now))))) c.in-Some.is c.in_ok-shown.ensures.reads_back in (
      tree_of c.in_ok-value.value,
      shown_denotes c.args.registry.now c.args.limits.now (shape_of c.args.format.now) c.recall.ensures.well_formed c.recall.ensures.orderly
          (tree_of c.in_ok-value.value) c.in_ok-value.ensures.sound (string_bytes c.in-Some.text) back.0 back.1,
    )
