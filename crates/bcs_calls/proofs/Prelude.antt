-- The imports that the proofs share.
pub use Rattle.std.proofs.BoxSteps.Steps.{box_in, box_out}
pub use Rattle.std.proofs.Common.{ap, arith, Bool, drop, Err, inl, inr, length, List, map, None, Ok, Option, refl, Result, rules, Some, string_bytes, subst, sym, take, ℕ, ◌++◌, ◌∙◌, ◌∷◌, ◌≡◌, ◌≢◌, ◌⊎◌}
pub use Rattle.std.proofs.Crossing.{crosses, frees, Vec-send}
pub use Rattle.std.proofs.boxed.Box.from_raw.Met.{met}
pub use Rattle.std.proofs.lemmas.Bool.{true≢false}
pub use Rattle.std.specs.Prelude.{IfOk, IfSome, is_ok}
pub use Rattle.std.specs.Result.{result_ok}
pub use Rattle.std.specs.contracts.impls.GlobalAllocator.TheImpl.{ghosts}
pub use Rattle.bcs_decode_parts.proofs.Parts.{one_path}
pub use Rattle.bcs_decode_parts.specs.Parts.{Part, part_at}
pub use Rattle.bcs_decode_parts.specs.PathSteps.{all_spelled}
pub use Rattle.bcs_decode_parts.specs.Steps.{GivesPart, step_of}
pub use Rattle.bcs_decode_spec.proofs.Verdicts.{accepts_once_is, no_two_verdicts_are, stops_once_is}
pub use Rattle.bcs_decode_spec.specs.Accepting.{Accepts}
pub use Rattle.bcs_decode_spec.specs.Stopping.{Stops}
pub use Rattle.bcs_decode_spec.specs.declared.reason.Reason.{Reason}
pub use Rattle.bcs_decode_spec.specs.declared.stop.Stop.{Stop}
pub use Rattle.bcs_encode_spec.specs.Plain.{plain as bytes_of}
pub use Rattle.bcs_json.specs.Showing.{Shows}
pub use Rattle.bcs_json.specs.declared.from_fault.FromFault.{FromFault}
pub use Rattle.bcs_json_spec.specs.Headline.{Compares, HasBytes, Normalises}
pub use Rattle.bcs_json_spec.specs.Place.{pointer_step_of}
pub use Rattle.bcs_json_spec.specs.Texts.{Denotes, MisspellsAt, RefusesText}
pub use Rattle.bcs_json_spec.specs.declared.json_fault.JsonFault.{JsonFault}
pub use Rattle.bcs_json_spec.specs.declared.json_fault.JsonFault.TheVariants.{OutOfMemory}
pub use Rattle.bcs_json_spec.specs.declared.json_step.JsonStep.{JsonStep}
pub use Rattle.bcs_registry.proofs.OneFault.{one_fault, one_format_fault}
pub use Rattle.bcs_registry.proofs.OneText.{same_format, same_registry}
pub use Rattle.bcs_registry.specs.Faults.{IsLeastFault, IsLeastFormatFault}
pub use Rattle.bcs_registry_model.proofs.format.Format.TheLaws.TheKnot.{send-Format}
pub use Rattle.bcs_registry_model.specs.Container.{Entries, of}
pub use Rattle.bcs_registry_model.specs.Grows.{Grows, IsFirstGrowthFault}
pub use Rattle.bcs_registry_model.specs.Shape.{Shape}
pub use Rattle.bcs_registry_model.specs.View.{shape_of}
pub use Rattle.bcs_registry_model.specs.declared.fault.RegistryFault.{RegistryFault}
pub use Rattle.bcs_value_model.specs.Limits.{Bounds}
pub use Rattle.bcs_value_model.specs.Tree.{Tree}
pub use Rattle.bcs_value_model.specs.View.{tree_of}
pub use base.Shift.{Keyless}
pub use denote.Enum.Declared.{shape}
pub use denote.Exit.{Exit, hidden, leaves, unchanged, under}
pub use denote.Param.Send.{AllSend, enum_send, IsSend, owning_send, part_keyless, Quiet, recorded_send, sendable, struct_send}
pub use denote.Struct.Owning.{fields}
pub use denote.Struct.Struct.{exits_of}
pub use Rattle.bcs_calls.specs.Answers.{placed, plain, refusal, sized, stop_at}
pub use Rattle.bcs_calls.specs.Asking.{AnswersIfAsked, AsksFor, given, IsUnlessMemory, no_format, no_limits, no_registry, on_handle, refused, RefusesAsk, Request, Whatever}
pub use Rattle.bcs_calls.specs.Compared.{AnswersComparing, different, equal, RefusesOne}
pub use Rattle.bcs_calls.specs.Denoted.{AnswersText, put}
pub use Rattle.bcs_calls.specs.Holding.{holds}
pub use Rattle.bcs_calls.specs.Named.{named}
pub use Rattle.bcs_calls.specs.Opened.{opened}
pub use Rattle.bcs_calls.specs.Output.{Puts}
pub use Rattle.bcs_calls.specs.Parts.{AnswersPart, AnswersSteps, Finds, found, IsPath, no_path, no_text, out_of_memory, RefusesPath, stepped, Steps, stopped}
pub use Rattle.bcs_display_errors.specs.Pointers.{pointer}
pub use Rattle.bcs_calls.specs.Places.{no_memory, stands, told, whole}
pub use Rattle.bcs_calls.specs.Registries.{breaks, has_fault, IsFormat, IsRegistry, no_newer, no_older, RefusesFor, RefusesFormat, RefusesRegistry}
pub use Rattle.bcs_calls.specs.Shown.{too_nested}
pub use Rattle.bcs_calls.specs.contracts.handle.Handle.{the_row, the_type}
pub use Rattle.bcs_calls.specs.contracts.raw_box.RawBox.into_box.{clauses, ended}
pub use Rattle.bcs_calls.specs.declared.answer.Answer.{Answer}
pub use Rattle.bcs_calls.specs.declared.fault.Fault.TheVariants.{Text}
pub use Rattle.bcs_calls.specs.declared.handle.Handle.{Handle}
pub use Rattle.bcs_calls.specs.declared.status.Status.{Status}
pub use Rattle.bcs_calls.specs.declared.status.Status.TheVariants.{Done, Format, Memory, Newer, No, Refused, Registry}
