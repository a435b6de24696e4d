-- Imports of the proofs: definitions and lemmas of other crates, and definitions of this one.
pub use Rattle.std.proofs.Common.{ap, Bool, Decides, Err, Global, IfErr, IfOk, IfSome, List, map, None, Ok, Option, option_map, refl, Result, rules, Some, string_bytes, subst, sym, Vec, ℕ, ◌↔◌, ◌≡◌, ◌≢◌, ◌≤◌}
pub use Rattle.std.proofs.lemmas.Option.{none-some, same_Some}
pub use Rattle.std.proofs.lemmas.Result.{err_from_is_err_and}
pub use Rattle.std.proofs.lemmas.Slice.Eq.{bytes_eq-Decides}
pub use Rattle.std.specs.Result.{result_err, result_ok}
pub use Rattle.bcs_decode_spec.specs.Accepting.{IsDecoded}
pub use Rattle.bcs_encode_spec.proofs.FormLaws.{bytes_decide_same}
pub use Rattle.bcs_encode_spec.specs.Encodes.{IsForm}
pub use Rattle.bcs_encode_spec.specs.Sound.{IsSound}
pub use Rattle.bcs_encode_spec.specs.declared.fault.EncodeFault.{EncodeFault}
pub use Rattle.bcs_json_reader.specs.Refused.{IsPlaced, steps}
pub use Rattle.bcs_json_reader.specs.declared.refusal.Refusal.{Refusal}
pub use Rattle.bcs_json_spec.proofs.Printed.{form_is_sound, form_nests, shown_denotes}
pub use Rattle.bcs_json_spec.proofs.TextOutcomes.{memory_alone, read_is_spelled, refused_value, stop_is_refusal}
pub use Rattle.bcs_json_spec.proofs.Verdict.{exact_data}
pub use Rattle.bcs_json_spec.specs.Causes.{fault_of_text, fault_of_value}
pub use Rattle.bcs_json_spec.specs.Headline.{Compares, HasBytes, Normalises}
pub use Rattle.bcs_json_spec.specs.JsonContent.{of}
pub use Rattle.bcs_json_spec.specs.Place.{IsPlaceOf, parts, pointer_step_of, PointerStep, value}
pub use Rattle.bcs_json_spec.specs.Reading.{read_data, Reports}
pub use Rattle.bcs_json_spec.specs.Shown.{shown}
pub use Rattle.bcs_json_spec.specs.Texts.{IsReadAs, IsTextOf, MisspellsAt, nesting_limit, RefusesText, SpelledBy}
pub use Rattle.bcs_json_spec.specs.declared.json_fault.JsonFault.{JsonFault}
pub use Rattle.bcs_json_spec.specs.declared.json_step.JsonStep.{JsonStep}
pub use Rattle.bcs_json_spec.specs.declared.json_fault.JsonFault.TheVariants.{OutOfMemory}
pub use Rattle.bcs_registry_json.specs.Json.{IsNotJson}
pub use Rattle.bcs_registry_json.specs.declared.json_reading.TextFault.{TextFault}
pub use Rattle.bcs_registry_json.specs.declared.json_reading.TextFault.TheVariants.{NotJson}
pub use Rattle.bcs_registry_model.specs.Container.{Entries}
pub use Rattle.bcs_registry_model.specs.Ranges.{IsOrderly}
pub use Rattle.bcs_registry_model.specs.Shape.{Shape}
pub use Rattle.bcs_registry_model.specs.View.{shape_of}
pub use Rattle.bcs_registry_model.specs.WellFormed.{IsWellFormed}
pub use Rattle.bcs_value_model.specs.Limits.{Bounds}
pub use Rattle.bcs_value_model.specs.Same.{Same}
pub use Rattle.bcs_value_model.specs.Tree.{Tree}
pub use Rattle.bcs_value_model.specs.View.{tree_of}
pub use Rattle.bcs_value_model.specs.declared.value.Value.{Value}
pub use Rattle.serde_json.specs.Data.{Data, depth}
pub use Rattle.serde_json.specs.View.{view}
pub use Rattle.serde_json.specs.declared.value.Value.{Value as Json}
pub use Rattle.bcs_json.specs.Printing.{Prints}
