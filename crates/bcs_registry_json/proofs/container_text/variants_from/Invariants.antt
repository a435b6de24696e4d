use Rattle.bcs_registry_json.proofs.Prelude.{view}
use Rattle.bcs_registry_json.proofs.Variants.{VariantsRead}
use Rattle.bcs_registry_json.proofs.container_text.variants_from.Given as goal

abbrev pub invariant-loop-digits : goal.invariant-loop-digits
invariant-loop-digits l = VariantsRead (view l.value) l.digits-iterator l.variants.entries
