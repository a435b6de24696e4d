-- What the proofs use from other crates, and from this crate's definitions.
pub use Rattle.std.proofs.Common.{[], ap, append-nil, append_assoc, ap₂, arith, Bool, bytes_eq, codes, cond, drop, Err, false, IfErr, IfOk, if◌then◌else◌, inl, inr, length, List, map, max, None, Ok, Option, refl, Result, Some, string_bytes, subst, suc, sym, take, true, zero, ℕ, ◌++◌, ◌+◌, ◌-◌, ◌<◌, ◌==◌, ◌∙◌, ◌∷◌, ◌≡◌, ◌≢◌, ◌≤◌, ◌⊎◌}
pub use Rattle.std.proofs.lemmas.Bool.{cases_Bool, cases_lt, true≢false}
pub use Rattle.std.proofs.lemmas.Bool.Decides.{eqb_tells}
pub use Rattle.std.proofs.lemmas.List.Elements.{All-cons, All-from_get_or, All-head, All-nil, All-tail}
pub use Rattle.std.proofs.lemmas.Option.{none-some}
pub use Rattle.std.proofs.lemmas.Result.{err_from_is_err_and, IfErr-weaker, IfOk-weaker}
pub use Rattle.std.proofs.lemmas.Slice.Eq.{bytes_eq-Decides}
pub use Rattle.std.specs.List.{All, prefix_len, suffix_len}
pub use Rattle.std.specs.Prelude.{is_some}
pub use Rattle.std.specs.Result.{IsErrAnd, result_err}
pub use Rattle.base64.proofs.EngineFacts.{decode_of-encode_of}
pub use Rattle.base64.specs.Engines.{standard}
pub use Rattle.base64.specs.GeneralPurpose.{encode_of, IsBytes, IsConsistent, IsDecodeFailure, IsStrict}
pub use Rattle.base64.specs.declared.decode.DecodeAllocError.{DecodeAllocError}
pub use Rattle.base64.specs.declared.decode.DecodeAllocError.TheVariants.{DecodeError as Failed}
pub use Rattle.base64.specs.declared.decode.DecodeError.{DecodeError}
pub use Rattle.base64.specs.declared.engine.general_purpose.GeneralPurpose.{GeneralPurpose}
pub use Rattle.bcs_decode_parts.proofs.Parts.{one_path}
pub use Rattle.bcs_decode_parts.proofs.SomePath.{some_path}
pub use Rattle.bcs_decode_parts.specs.Parts.{Part, part_at, Step}
pub use Rattle.bcs_decode_parts.specs.Path.{SpellsPath}
pub use Rattle.bcs_decode_parts.specs.Steps.{GivesPart, step_of}
pub use Rattle.bcs_decode_spec.proofs.Verdicts.{accepts_once_is, no_two_verdicts_are, no_two_verdicts_of_all_are, some_verdict_is, some_verdict_of_all_is, stops_all_once_is, stops_once_is}
pub use Rattle.bcs_decode_spec.specs.Accepting.{Accepts}
pub use Rattle.bcs_decode_spec.specs.Exact.{AreBytes}
pub use Rattle.bcs_decode_spec.specs.Stopping.{Stops, StopsAll}
pub use Rattle.bcs_decode_spec.specs.declared.reason.Reason.{Reason}
pub use Rattle.bcs_decode_spec.specs.declared.stop.Stop.{Stop}
pub use Rattle.bcs_display_pieces.specs.EndsAt.{EndsAt}
pub use Rattle.bcs_part_names.specs.Names.{is_name}
pub use Rattle.bcs_part_names.specs.Pointers.{is_pointer}
pub use Rattle.bcs_encode_spec.proofs.FormLaws.{bytes_decide_same, forms_same}
pub use Rattle.bcs_encode_spec.specs.Encodes.{Encodes, IsForm}
pub use Rattle.bcs_io.specs.Lines.{lines_of, onto}
pub use Rattle.bcs_json.proofs.Outcomes.{compares}
pub use Rattle.bcs_json.specs.Showing.{Shows}
pub use Rattle.bcs_json.specs.declared.from_fault.FromFault.{FromFault}
pub use Rattle.bcs_json_spec.proofs.Lowest.{shown_is_lowest}
pub use Rattle.bcs_json_spec.proofs.OneAnswer.{text_denotes_or_is_refused}
pub use Rattle.bcs_json_spec.proofs.SomeText.{some_bytes, some_normal_text, some_shown_text}
pub use Rattle.bcs_json_spec.proofs.TextLaws.{denoted_is_not_refused, denotes_once}
pub use Rattle.bcs_json_spec.specs.Bytes.{IsHexOf}
pub use Rattle.bcs_json_spec.specs.FaultNames.{json_fault_name}
pub use Rattle.bcs_json_spec.specs.Headline.{Compares, HasBytes, Normalises, ShowsBytes}
pub use Rattle.bcs_json_spec.specs.JsonContent.{of}
pub use Rattle.bcs_json_spec.specs.Shown.{shown}
pub use Rattle.bcs_json_spec.specs.Texts.{Denotes, nesting_limit, RefusesText}
pub use Rattle.bcs_json_spec.specs.declared.json_fault.JsonFault.{JsonFault}
pub use Rattle.bcs_registry.proofs.OneFault.{one_fault, one_format_fault}
pub use Rattle.bcs_registry.proofs.OneText.{same_format, same_registry}
pub use Rattle.bcs_registry.proofs.OrFault.{format_or_fault, registry_or_fault}
pub use Rattle.bcs_registry.specs.Faults.{IsLeastFault}
pub use Rattle.bcs_registry_model.proofs.FirstFaults.{fault_exactly, ok_exactly}
pub use Rattle.bcs_registry_model.specs.Container.{Container, container_at, Entries}
pub use Rattle.bcs_registry_model.specs.FaultNames.{growth_fault_name}
pub use Rattle.bcs_registry_model.specs.Growing.{growth_fault}
pub use Rattle.bcs_registry_model.specs.Grows.{Grows, IsFirstGrowthFault}
pub use Rattle.bcs_registry_model.specs.Ranges.{IsOrderly}
pub use Rattle.bcs_registry_model.specs.Shape.{name, Shape}
pub use Rattle.bcs_registry_model.specs.View.{shape_of}
pub use Rattle.bcs_registry_model.specs.declared.fault.RegistryFault.{RegistryFault}
pub use Rattle.bcs_registry_model.specs.declared.fault.RegistryFault.TheVariants.{UnknownName}
pub use Rattle.bcs_registry_model.specs.declared.growth_fault.GrowthFault.{GrowthFault}
pub use Rattle.bcs_tool_command_line.specs.Files.{size_limit}
pub use Rattle.bcs_tool_command_line.specs.Jobs.{coding_of}
pub use Rattle.bcs_tool_command_line.specs.declared.coding.Coding.{Coding}
pub use Rattle.bcs_tool_command_line.specs.declared.coding.Coding.TheVariants.{Base64, Hexadecimal, Raw}
pub use Rattle.bcs_tool_command_line.specs.declared.command.Command.{Command}
pub use Rattle.bcs_tool_command_line.specs.declared.command.Command.TheVariants.{Check, Decode, Diff, Encode, Example, Explain, FromMove, Normalise, Same, Scan, Schema, Show, Which}
pub use Rattle.bcs_tool_command_line.specs.declared.notation.Notation.{Notation}
pub use Rattle.bcs_tool_command_line.specs.declared.work.Work.{Work}
pub use Rattle.bcs_value_model.proofs.Equivalence.{same-refl}
pub use Rattle.bcs_value_model.specs.Limits.{Bounds}
pub use Rattle.bcs_value_model.specs.Tree.{Tree}
pub use Rattle.hex.proofs.HexLemmas.{decode_of-ok}
pub use Rattle.hex.specs.Hex.{decode_of}
pub use Rattle.hex.specs.declared.error.FromHexError.{FromHexError}
pub use Rattle.hex.specs.declared.error.FromHexError.TheVariants.{OutOfMemory}
pub use Rattle.serde_json.specs.Data.{depth}
pub use Rattle.serde_json.specs.Written.{compact_text}
pub use Rattle.bcs_tool_answers.specs.AnswerLaws.{IsExact, OneAnswer, OneAnswerALine, SomeAnswer, SomeAnswerALine}
pub use Rattle.bcs_tool_answers.specs.Answers.{Answers, AnswersTexts, checked, compared, count_line, damaged, decoded, described, differed, made, unmade, different, encoded, equal, exampled, explained, first_refused, found, front_stopped, grown, IsAsked, IsWithin, line_of, Lists, lists, no_bytes, no_content, normalised, nowhere, printed, printed_none, printed_part, refusal_line, refused, refused_early, scan_stopped, scanned, ScanStops, second_refused, sifted, stop_line, stopped, too_nested, unopened}
pub use Rattle.bcs_tool_answers.specs.Input.{GivesBytes, input_fault_name, is_blank, IsBase64Of, without_blanks}
unfoldable pub use Rattle.bcs_tool_answers.specs.Input.{base64_text}
pub use Rattle.bcs_tool_answers.specs.JsonRefusals.{HasForm, InForm, IsJsonRefusal, is_digit, is_of_name, place_digits, place_member, refusal_name}
pub use Rattle.bcs_tool_answers.specs.LineAnswers.{AnswersAll, AnswersLine, count_of, greatest, run_status}
pub use Rattle.bcs_tool_answers.specs.Notations.{SpellsNoSteps, SpellsSteps}
pub use Rattle.bcs_tool_answers.specs.PartBytes.{GivesBytesAt, GivesPrinted, printed_bytes, printed_place}
pub use Rattle.bcs_tool_answers.specs.Places.{IsAnswer, IsPrintable, MayReport, nothing, Places, PrintsWithoutPlace, told}
pub use Rattle.bcs_tool_answers.specs.Preparing.{IsAskedBy}
pub use Rattle.bcs_tool_answers.specs.Validating.{bytes_command, is_json_word, IsFormatWord, IsPathOf, IsRegistry, job_fault_name, name_of, NamesNone, ReadsInput, RefusesCheck, RefusesEarly, RefusesFormatted, RefusesFormatWord, RefusesGrowth, RefusesJobOf, RefusesPart, works_on_values}
pub use Rattle.bcs_part_names.specs.declared.contents.NoContent.{NoContent}
pub use Rattle.bcs_tool_answers.specs.declared.answer.Answer.{Answer}
pub use Rattle.bcs_tool_answers.specs.declared.job_fault.JobFault.{JobFault}
pub use Rattle.bcs_tool_answers.specs.declared.job_fault.JobFault.TheVariants.{BadPath, Growth, Registry}
pub use Rattle.bcs_tool_answers.specs.declared.validating.Asked.{Asked}
pub use Rattle.bcs_tool_answers.specs.declared.value_command.BytesCommand.{BytesCommand}
