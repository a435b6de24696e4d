-- What the proofs use from other crates and from this crate's definitions.
pub use Rattle.std.proofs.Common.{[], ap, drop, append-nil, append_assoc, arith, Bool, chars, cond, encode_utf8, Err, false, flat_map, if◌then◌else◌, inl, inr, IsUtf8, length, length-append, List, map, max, nat_lt, None, not, Ok, Option, refl, Result, rules, Some, string_bytes, subst, suc, sym, take, true, true≢false, zero, ℕ, ◌%◌, ◌&&◌, ◌++◌, ◌+◌, ◌-◌, ◌/◌, ◌<◌, ◌==◌, ◌^◌, ◌∙◌, ◌∷◌, ◌≡◌, ◌≢◌, ◌≤◌, ◌⊎◌}
pub use Rattle.std.proofs.Math.Seq.{take-append-add}
pub use Rattle.std.proofs.lemmas.Bool.{ltb-false, ltb-true}
pub use Rattle.std.proofs.lemmas.List.{get_or-map, length-map, take-append-le}
pub use Rattle.std.proofs.lemmas.List.Elements.{All-head, All-nil, All-push, All-tail}
pub use Rattle.std.proofs.lemmas.List.Folds.{list_any_at}
pub use Rattle.std.proofs.lemmas.Str.{chars-nil, chars_past_char, IsUtf8-past_char}
pub use Rattle.std.specs.Io.Buffered.{reader_remaining}
pub use Rattle.std.specs.Io.KnownBytes.{Consumes, IsAtEnd}
pub use Rattle.std.specs.List.{All, list_any}
pub use Rattle.std.specs.Prelude.{IfErr, IfSome, OnErr, OnOk, String}
pub use Rattle.std.specs.Result.{IsErrAnd}
pub use Rattle.std.specs.Str.Iter.{chars_rest}
pub use Rattle.std.specs.declared.alloc.Global.{Global}
pub use Rattle.bcs_decode.specs.Whole.{FrontGone, GoneTo, Trails}
pub use Rattle.bcs_decode_spec.specs.Accepting.{Accepts}
pub use Rattle.bcs_decode_spec.specs.Stopping.{Stops}
pub use Rattle.bcs_decode_spec.specs.declared.decode_fault.DecodeFault.{DecodeFault}
pub use Rattle.bcs_decode_spec.specs.declared.stop.Stop.{Stop}
unfoldable pub use Rattle.bcs_display_text.specs.Escaped.{numbered}
pub use Rattle.bcs_io.proofs.Ahead.{block_behind, short_ahead}
pub use Rattle.bcs_io.proofs.FeedLemmas.{feeds_append, feeds_before_block, feeds_none}
pub use Rattle.bcs_io.proofs.LineLemmas.{lines_of-last, lines_of-line, no_feed_first, no_feed_rest}
pub use Rattle.bcs_io.proofs.TakingLemmas.{Took-nothing, Took-then, TookThenFailed-then}
pub use Rattle.bcs_io.specs.Advancing.{FailsInLine, HasNoLine, IsLastLine, IsTooLong, TakesLine}
pub use Rattle.bcs_io.specs.Held.{HeldLine}
pub use Rattle.bcs_io.specs.Laws.{ended}
pub use Rattle.bcs_io.specs.Lines.{before_block, HasNoLineFeed, line_feeds, lines_of, onto}
pub use Rattle.bcs_io.specs.ReadSource.{allowance_of, failed, reader_of}
pub use Rattle.bcs_io.specs.Taking.{Took, TookThenFailed}
pub use Rattle.bcs_io.specs.declared.next_fault.NextFault.{NextFault}
pub use Rattle.bcs_io.specs.declared.taking.TakeFault.{TakeFault}
pub use Rattle.bcs_io.specs.declared.taking.TakeFault.TheVariants.{OutOfMemory}
pub use Rattle.bcs_registry_model.specs.Container.{Entries}
pub use Rattle.bcs_registry_model.specs.Shape.{Shape}
pub use Rattle.bcs_registry_model.specs.View.{shape_of}
pub use Rattle.bcs_tool_answers.proofs.AnswerLemmas.{status_below}
pub use Rattle.bcs_tool_answers.proofs.LineAnswerLemmas.{as_many, count_of-snoc, count_of_within, greatest-snoc, greatest_below, line_below, run_below}
pub use Rattle.bcs_tool_answers.specs.Answers.{Answers, count_line, IsAsked, line_of, scan_stopped, scanned, stop_line}
pub use Rattle.bcs_tool_answers.specs.Input.{GivesBytes}
pub use Rattle.bcs_tool_answers.specs.LineAnswers.{AnswersAll, AnswersLine, count_of, none, run_status, summary, tally_text}
pub use Rattle.bcs_tool_answers.specs.Places.{IsAnswer, Places, PrintsWithoutPlace}
pub use Rattle.bcs_tool_answers.specs.Preparing.{IsAskedBy, IsPrepared}
pub use Rattle.bcs_tool_answers.specs.Validating.{Asks, is_scan, is_unlimited, ReadsInput}
pub use Rattle.bcs_tool_answers.specs.declared.answer.Answer.{Answer}
pub use Rattle.bcs_tool_answers.specs.declared.validating.Asked.{Asked}
pub use Rattle.bcs_tool_command_line.specs.CommandLine.{texts_of}
pub use Rattle.bcs_tool_command_line.specs.FaultPlaces.{file_place, file_text, ReportsPlace}
pub use Rattle.bcs_tool_command_line.specs.Files.{file_note, is_registry_text, IsContent, IsFirstOf, size_limit}
pub use Rattle.bcs_tool_command_line.specs.Jobs.{coding_of, is_raw}
pub use Rattle.bcs_tool_command_line.specs.declared.coding.Coding.{Coding}
pub use Rattle.bcs_tool_command_line.specs.declared.coding.Coding.TheVariants.{Base64, Hexadecimal, Raw}
pub use Rattle.bcs_tool_command_line.specs.declared.command.Command.{Command}
pub use Rattle.bcs_tool_command_line.specs.declared.command.Command.TheVariants.{Scan}
pub use Rattle.bcs_tool_command_line.specs.declared.job.Job.{Job}
pub use Rattle.bcs_tool_command_line.specs.declared.line_fault.LineFault.{LineFault}
pub use Rattle.bcs_tool_command_line.specs.declared.line_fault.LineFault.TheVariants.{Help, Usage}
pub use Rattle.bcs_tool_command_line.specs.declared.work.Outcome.{Outcome}
pub use Rattle.bcs_tool_command_line.specs.declared.work.Work.{Work}
pub use mir.Val.{bool_byte}
pub use Rattle.bcs_tool.specs.Endings.{has_files, IsUnread, lacks_file, no_room, over_file, over_input, Performs, PerformsWork, Put, ReportsFault, unopened}
pub use Rattle.bcs_tool.specs.Blocks.{AreNext, BlockAnswered, BlockStopped, EndsBlock, PutsPartOfNext, StopsBefore}
pub use Rattle.bcs_tool.specs.HeldAnswers.{IsPartOf, whole}
pub use Rattle.bcs_tool.specs.Lines.{AllAnswered, AreRead, EndsLines, FailsNext, IsSoFar, IsTally, ReadsOn, StandBefore, TakesHeld, tally_status}
pub use Rattle.bcs_tool.specs.Running.{AreFirst, BrokeInLine, by_line, Ends, FailsAt, GaveFew, HasLines, IfTold, IsAnswered, IsLongBehind, IsOutcomeOf, IsTooLarge, IsUnhurt, of_next, once, PutBefore, PutFront, PutPart, PutsAnswer, ReadsNoFurther, Responds, Runs, StopsInLine, Streams}
pub use Rattle.bcs_tool.specs.Scanning.{AnswersScan, FaultOfScan, IsScanned, RefusesScan, Scans}
pub use Rattle.bcs_tool.specs.Visible.{breaks_lines, is_hidden, usage_text}
unfoldable pub use Rattle.bcs_tool.specs.Visible.{escape, visible, visible_char}
pub use Rattle.bcs_tool.specs.declared.jobs.interruption.Interruption.{Interruption}
pub use Rattle.bcs_tool.specs.declared.jobs.run_fault.RunFault.{RunFault}
pub use Rattle.bcs_tool.specs.declared.jobs.run_fault.RunFault.TheVariants.{Take, Write}
pub use Rattle.bcs_tool.specs.declared.lines.held_answers.HeldAnswers.{HeldAnswers}
pub use Rattle.bcs_tool.specs.declared.lines.tally.Tally.{Tally}
