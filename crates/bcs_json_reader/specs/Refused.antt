-- What a refusal says: the fault, and its location.
use Rattle.std.specs.Prelude.{◌≢◌, List, [], Option, Some, None, Result, Ok, Err, map, reverse, IfSome, ⊤}
use Rattle.bcs_registry_model.specs.Container.{Entries}
use Rattle.bcs_json_spec.specs.Place.{PointerStep, pointer_step_of, JsonPart, IsPlaceAmong}
use Rattle.bcs_json_spec.specs.declared.json_fault.JsonFault.{JsonFault}
use Rattle.bcs_json_spec.specs.declared.json_fault.JsonFault.TheVariants.{OutOfMemory}
use Rattle.bcs_json_reader.specs.declared.refusal.Refusal.{Refusal}
use Rattle.bcs_json_reader.specs.declared.refusal.JsonLocation.{JsonLocation}
use Rattle.bcs_json_reader.specs.declared.refusal.JsonLocation.TheVariants.{Here, Through, Unknown}

-- the steps from the outermost inwards, if they are known
abbrev pub steps : JsonLocation → Option (List PointerStep)
steps Here = Some []
steps (Through inner) = Some (reverse (map pointer_step_of inner.items))
steps Unknown = None

-- the result without the location of the fault
abbrev pub fault_alone : {X : Type 0} → Result X Refusal → Result X JsonFault
fault_alone (Ok x) = Ok x
fault_alone (Err r) = Err r.fault

abbrev pub location_of : {X : Type 0} → Result X Refusal → Option (List PointerStep)
location_of (Ok x) = None
location_of (Err r) = steps r.location

-- unless memory ran out, the location, if known, is the place among these parts
abbrev pub IsPlaced : {X : Type 0} → Entries → List JsonPart → Result X Refusal → Type 0
IsPlaced registry ps (Ok x) = ⊤
IsPlaced registry ps (Err r) = r.fault ≢ OutOfMemory → IfSome (steps r.location) (λ path. IsPlaceAmong registry path ps)
