-- What a refusal of a JSON document says.
use Rattle.std.specs.Prelude.{◌≢◌, ℕ, List, IfSome, map}
use Rattle.bcs_registry_model.specs.Container.{Entries}
use Rattle.bcs_registry_model.specs.Shape.{Shape}
use Rattle.bcs_value_model.specs.Limits.{Bounds}
use Rattle.bcs_json_spec.specs.Place.{pointer_step_of}
use Rattle.bcs_json_spec.specs.Texts.{MisspellsAt, RefusesText}
use Rattle.bcs_json_spec.specs.declared.json_fault.JsonFault.TheVariants.{OutOfMemory}
use Rattle.bcs_json.specs.declared.text_refusal.TextRefusal.{TextRefusal}

-- the document is refused with the fault, and the steps, if there are any, lead to the JSON that has it
abbrev pub IsRefusedAs : Entries → Bounds → Shape → List ℕ → TextRefusal → Type 0
IsRefusedAs registry limits s text r = (r.fault ≢ OutOfMemory → RefusesText registry limits s text r.fault)
    × IfSome r.steps (λ v. MisspellsAt registry limits s text (map pointer_step_of v.items) r.fault)
