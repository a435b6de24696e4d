use Rattle.bcs_tool.proofs.Prelude.{◌∙◌, List, ap, inl, inr, refl, subst, sym, ℕ, reader_remaining, allowance_of, failed, reader_of, ReportsPlace, file_place, file_note, file_text, IsUnread, has_files, lacks_file, no_room, over_file, over_input, unopened, Runs}
use Rattle.std.specs.Prelude.{string_bytes}
use Rattle.bcs_tool_command_line.specs.declared.unread_file.UnreadFile.{UnreadFile}
use Rattle.bcs_tool.proofs.jobs.opening.open_and_run.Goals as goal

-- a file that the work needs wasn't read
pub returns-in-Err : goal.returns-in-Err
returns-in-Err g c =
    let job = c.args.job in
    let refusal = c.in-Err.refusal in
    let name = string_bytes refusal.name in
    let of = c.in-Err.ensures.fault in
    lacks_file (record {
      unread = refusal.reason;
      name = name;
      status = c.failed.ensures.status;
      note = c.failed.ensures.note ∙ c.note.ensures ∙ ap file_note c.from-fault.ensures;
      place = subst (λ (place : List ℕ). ReportsPlace job.options.quiet (file_place refusal.reason name) place) (sym c.failed.ensures.place) c.place.ensures;
      named = of.1;
      known = of.0;
      needed = c.in-Err.ensures.good;
    }) refl refl

-- standard input
pub returns-in_default : goal.returns-in_default
returns-in_default g c =
    has_files c.in-Ok.read.0 c.in-Ok.ensures.work
    (over_input (sym c.in-Ok.ensures.file ∙ c.in_default.is) (record {
      result = c.validate_and_answer-ended.result;
      ends = c.validate_and_answer-ended.ensures.ends;
      is = c.outcome_of.ensures;
      untouched = c.validate_and_answer-ended.ensures.untouched;
    }))

-- a file
pub returns-in-Ok-open_input : goal.returns-in-Ok-open_input
returns-in-Ok-open_input g c =
    let work = c.in-Ok.read.0 in
    let run = c.validate_and_answer-ended-in-Ok-open_input in
    let outcome = c.outcome_of-in-Ok-open_input in
    let P : List ℕ → Type 0 = λ text. Runs (λ s. reader_remaining g.R.File.Read.remaining (reader_of s)) failed allowance_of g.O.ByteSink.taken g.O.ByteSink.is_failed
    work (file_text text) c.new.result run.new.input c.args.out.now run.new.out outcome.result in
    has_files work c.in-Ok.ensures.work
    (over_file c.in-Some.name c.new.result run.new.input (sym c.in-Ok.ensures.file ∙ c.in-Some.is) (subst P c.as_str-name.ensures.value (record {
      result = run.result;
      ends = run.ensures.ends;
      is = outcome.ensures;
      untouched = run.ensures.untouched;
    })) refl)

-- a file that couldn't be opened, or a block of it couldn't be allocated
pub returns : goal.returns
returns g c =
    let work = c.in-Ok.read.0 in
    let is = sym c.in-Ok.ensures.file ∙ c.in-Some.is in
    let P : List ℕ → Type 0 = λ name. IsUnread work.options.quiet name c.in-Err-open_input.reason c.unread.result in
    let of_name = subst P c.as_str-name.ensures.value c.unread.ensures in
    let Q : UnreadFile → Type 0 = λ reason. IsUnread work.options.quiet (string_bytes c.in-Some.name) reason c.unread.result in
    has_files work c.in-Ok.ensures.work (elim c.in-Err-open_input.ensures [
      | inl closed ↦ unopened c.in-Some.name is (closed.0, subst Q closed.1 of_name) refl refl
      | inr lost ↦ no_room c.in-Some.name is (subst Q lost of_name) refl refl
    ])
