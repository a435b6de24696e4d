-- What the proofs use of other crates, and of this crate's definitions.
pub use Rattle.std.proofs.Common.{[], ap, ap₂, arith, Bool, Bor, codes, cond, drop, encode_utf8, Err, false, find, fold, IfSome, inl, inr, is_some, length, List, map, min, None, not, Ok, Option, option_map, pos, refl, Result, rules, slice_get, Some, subst, suc, sym, true, true≢false, unwrap_or, zero, ℕ, ◌&&◌, ◌||◌, ◌++◌, ◌+◌, ◌<◌, ◌==◌, ◌^◌, ◌∙◌, ◌∷◌, ◌≡◌, ◌≤◌, ◌⊎◌}
pub use Rattle.std.proofs.lemmas.Bool.{ne_eqb}
pub use Rattle.std.proofs.lemmas.Grind.{common_steps}
pub use Rattle.std.proofs.lemmas.Int.{ints}
pub use Rattle.std.proofs.lemmas.List.{append-nil, append_assoc, at_drop_more, map-append}
pub use Rattle.std.proofs.lemmas.List.Folds.{list_all-append}
pub use Rattle.std.proofs.Math.ListN.{drop_of_length-le}
pub use Rattle.std.proofs.lemmas.Result.{IfOk-weaker}
pub use Rattle.std.proofs.lemmas.Slice.Eq.{bytes_eq-Decides}
pub use Rattle.std.proofs.lemmas.Str.Parse.{digit_from_value}
pub use Rattle.std.specs.Box.{box_value}
pub use Rattle.std.specs.List.{list_all, list_any}
pub use Rattle.std.specs.Option.{option_map_or, option_or}
pub use Rattle.std.specs.Prelude.{Box, flat_map, IsSomeAnd, option_and_then, string_bytes}
pub use Rattle.std.specs.Str.{bytes_eq, chars}
pub use Rattle.std.specs.Str.Parse.{digits_value, ExplainsUnsignedError, HasUnsignedDigitsIfOk, IsNumeral, ParsesUnsigned, starts_with_minus, without_leading_plus}
pub use Rattle.bcs_value_model.specs.Limits.{Bounds}
pub use Rattle.bcs_view_texts.specs.Kinds.{asked_of}
pub use Rattle.bcs_view_texts.specs.declared.view_kind.ViewKind.{ViewKind}
unfoldable pub use Rattle.clap.proofs.OnLiterals.{clap_on_literals}
pub use Rattle.clap.proofs.ValueTestLemmas.{accepts-Accepts}
pub use Rattle.clap.proofs.WalkLemmas.{both, first_value-rows, one_text-rows, raw_values-rows}
pub use Rattle.clap.specs.Facts.{explicit_source, parser_of_value, unwrap_or_range}
pub use Rattle.clap.specs.Faults.{action_fault, built_fault, bundle_fault, bundle_step_fault, check_fault, defaults_fault, entered_fault, fault_of, flag_word_fault, level_fault, long_fault, option_fault, other_fault, react_fault, repeat_fault, set_fault, settle_fault, short_fault, step_fault, stray_fault, turn_fault, use_fault, values_fault, word_fault}
unfoldable pub use Rattle.clap.specs.Faults.{flags_fault, walk_fault}
pub use Rattle.clap.specs.Kinds.{check_kinds, Kinds, or_else, range_kinds, values_kinds}
pub use Rattle.clap.specs.Lexer.{long_of, short_of, without_minus}
pub use Rattle.clap.specs.Matches.{one_text, ReadsOne, subcommand_name_of}
pub use Rattle.clap.specs.Simple.{app_of_fields, argument_words, built, entered, HasMatchesOf, is_simple, label_of, names_of, rows_at, Shape, subcommand_of, subcommand_rows, subcommand_rows_of}
pub use Rattle.clap.specs.Takes.{is_given}
pub use Rattle.clap.specs.ValueTests.{accepts}
pub use Rattle.clap.specs.Values.{IsSignedIn, reading_of}
pub use Rattle.clap.specs.Walk.{action_of, after_flag, after_step, answers_to, arg_by_id, arg_by_index, arg_by_long, arg_by_short, at_row, attached_value, bundle, bundle_step, count_of, counted, default_rows, done, finished, flag_met, has_row, Held, idle, is_pending, long_met, long_or_other, more_values, most_values, Names, new_count, next, nothing_held, one_of, option, option_met, option_word, Outcome, plain, plain_word, positional, reacted, reading_by, refused, Row, row_text, rows_after, Rule, settled, short_met, short_or_plain, Step, stop_after, subcommand, subcommand_met, subcommand_or_other, takes_several, takes_values, Text, to_positional, trailing, used, used_as, used_by_id, value, values_or_missing, Waiting, waits, Walk, walk, walk_from, walked_from, with_count, with_default, with_values, without, word_met}
unfoldable pub use Rattle.clap.specs.Walk.{bundle_met, walked}
pub use Rattle.clap.specs.Words.{App, app_of, found_of, HasKind, is_simple_and_free, IsAmong, kind_of, new_app, rows_of, with_rule}
pub use Rattle.clap.specs.declared.builder.action.ArgAction.{ArgAction}
pub use Rattle.clap.specs.declared.builder.action.ArgAction.TheVariants.{Append, Count, HelpLong, HelpShort, Set, SetFalse, SetTrue, Version}
pub use Rattle.clap.specs.declared.builder.command.Command.TheViews.{out-Command}
pub use Rattle.clap.specs.declared.builder.value_parser.Reading.{Reading}
pub use Rattle.clap.specs.declared.builder.value_parser.ValueParser.{ValueParser}
pub use Rattle.clap.specs.declared.builder.value_parser.ValueParser.TheVariants.{Signed}
pub use Rattle.clap.specs.declared.error.Error.{Error}
pub use Rattle.clap.specs.declared.error.kind.ErrorKind.{ErrorKind}
pub use Rattle.clap.specs.declared.error.kind.ErrorKind.TheVariants.{DisplayHelp, InvalidSubcommand, TooManyValues}
pub use Rattle.clap.specs.declared.parser.matches.ArgMatches.{ArgMatches}
pub use Rattle.clap.specs.declared.parser.matches.ArgMatches.TheViews.{out-ArgMatches, out-SubCommand}
pub use Rattle.clap.specs.declared.parser.matches.Found.{Found}
pub use Rattle.clap.specs.declared.parser.matches.SubCommand.{SubCommand}
pub use Rattle.clap.specs.declared.parser.matches.ValueSource.{ValueSource}
pub use Rattle.clap.specs.declared.parser.matches.ValueSource.TheVariants.{CommandLine, DefaultValue}
pub use Rattle.bcs_tool_command_line.specs.AcceptedArguments.{AcceptsArguments}
pub use Rattle.bcs_tool_command_line.specs.CommandLine.{bcs_app, reports_version, texts_of, wants_command, with_command}
pub use Rattle.bcs_tool_command_line.specs.Jobs.{coding, file_by, IsJob, IsJobOf, text_or_empty, views_by, WritesLimit, WritesLimits}
pub use Rattle.bcs_tool_command_line.specs.LineFaults.{IsFaultAmong, IsFaultOf, IsFaultOfKind, ReportsMisuse}
pub use Rattle.bcs_tool_command_line.specs.Misuses.{misuse_in, misuse_of}
pub use Rattle.bcs_tool_command_line.specs.Options.{app_of_command, command_named, commands, is_misuse, row_of, with_alias}
pub use Rattle.bcs_tool_command_line.specs.Spelling.{may_be_option, spelled, spelled_word}
unfoldable pub use Rattle.bcs_tool_command_line.specs.Spelling.{spelled_from}
pub use Rattle.bcs_tool_command_line.specs.Words.{rule_of_word}
pub use Rattle.bcs_tool_command_line.specs.declared.command.Command.{Command}
pub use Rattle.bcs_tool_command_line.specs.declared.job.Job.{Job}
pub use Rattle.bcs_tool_command_line.specs.declared.line_fault.LineFault.{LineFault}
pub use Rattle.bcs_tool_command_line.specs.declared.line_fault.LineFault.TheVariants.{Help, OutOfMemory, Usage}
pub use Rattle.bcs_tool_command_line.specs.declared.options.Misuse.{Misuse}
pub use Rattle.bcs_tool_command_line.specs.declared.notation.Notation.{Notation}
