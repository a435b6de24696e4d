-- How the program ends: what is written to standard output and standard error, and its status.
use Rattle.std.specs.Prelude.{◌≡◌, ◌≢◌, ◌⊎◌, ◌++◌, ℕ, List, [], Bool, Option, Some, None, String, codes, string_bytes}
use Rattle.std.specs.Io.Buffered.{reader_remaining}
use Rattle.std.specs.declared.alloc.Global.{Global}
use Rattle.std.specs.declared.io.buffered.BufReader.{BufReader}
use Rattle.bcs_io.specs.ReadSource.{allowance_of, failed, reader_of}
use Rattle.bcs_io.specs.Taking as sink
use Rattle.bcs_io.specs.declared.read_source.ReadSource.{ReadSource}
use Rattle.bcs_tool_answers.specs.Answers.{line_of}
use Rattle.bcs_tool_command_line.specs.FaultPlaces.{ReportsPlace, file_place, file_text, origin_text}
use Rattle.bcs_tool_command_line.specs.Files.{IsFaultOfFiles, IsWorkOf, NamesForWork, NamesNoFile, file_fault_of, file_note}
use Rattle.bcs_tool_command_line.specs.declared.file_cause.FileCause.{FileCause}
use Rattle.bcs_tool_command_line.specs.declared.origin.Origin.TheVariants.{StandardInput}
use Rattle.bcs_io.specs.declared.taking.TakeFault.TheVariants as taking
use Rattle.bcs_tool_command_line.specs.declared.unread_file.UnreadFile.{UnreadFile}
use Rattle.bcs_tool_command_line.specs.declared.unread_file.UnreadFile.TheVariants.{OpenFailed, ReadFailed}
use Rattle.bcs_tool_command_line.specs.declared.work.Outcome.{Outcome}
use Rattle.bcs_tool_command_line.specs.declared.work.Work.{Work}
use Rattle.bcs_tool_command_line.specs.declared.job.Job.{Job}
use Rattle.bcs_tool_command_line.specs.declared.line_fault.LineFault.{LineFault}
use Rattle.bcs_tool_command_line.specs.declared.line_fault.LineFault.TheVariants.{Usage, Help, OutOfMemory}
use Rattle.bcs_tool.specs.Running.{PutFront, Runs}
use Rattle.bcs_tool.specs.Visible.{usage_text}

-- ---- one stream

module _ {K : Type 0} (taken : K → Option (List ℕ)) (is_failed : K → Bool) where
  -- the text was written, or a prefix of it if the stream failed
  abbrev pub Put : K → K → List ℕ → Type 0
  Put old new text = sink.Took taken is_failed old new text ⊎ PutFront taken is_failed old new text

  -- the program ends with the outcome's status; the outcome's note is printed on a line of standard error, and then its place
  -- on another, if it has them
  abbrev pub PrintsReport : Outcome → K → K → ℕ → Type 0
  PrintsReport outcome old new status = (status ≡ outcome.status)
      × (outcome.note.now ≡ [] → outcome.place.items ≡ [] → new ≡ old)
      × (outcome.note.now ≢ [] → outcome.place.items ≡ [] → Put old new (line_of outcome.note.now))
      × (outcome.note.now ≡ [] → outcome.place.items ≢ [] → Put old new (line_of outcome.place.items))
      × (outcome.note.now ≢ [] → outcome.place.items ≢ [] → Put old new (line_of outcome.note.now ++ line_of outcome.place.items))

-- ---- arguments that aren't a job

module _ {O E : Type 0} (taken : O → Option (List ℕ)) (is_failed : O → Bool) (told : E → Option (List ℕ)) (has_failed : E → Bool) where
  -- a usage text is written to standard error with its hidden characters escaped, and the status is 3; the text of help or of
  -- the version is written to standard output, and the status is 0
  abbrev pub ReportsFault : Bool → LineFault → O → O → E → E → ℕ → Type 0
  ReportsFault keeps_lines (Usage text) out out' errors errors' status =
      (status ≡ 3) × (out' ≡ out) × Put told has_failed errors errors' (usage_text keeps_lines (string_bytes text))
  ReportsFault keeps_lines (Help text) out out' errors errors' status =
      ((status ≡ 0) × sink.Took taken is_failed out out' (string_bytes text) × (errors' ≡ errors))
      ⊎ ((status ≡ 4) × PutFront taken is_failed out out' (string_bytes text) × Put told has_failed errors errors' (line_of (codes "fault: write")))
  ReportsFault keeps_lines OutOfMemory out out' errors errors' status =
      (status ≡ 4) × (out' ≡ out) × Put told has_failed errors errors' (line_of (codes "fault: memory"))

-- why the system returns no arguments: one isn't UTF-8, or memory ran out
abbrev pub IsWordsFault : LineFault → Type 0
IsWordsFault (Usage text) = string_bytes text ≡ line_of (codes "error: an argument isn't UTF-8")
IsWordsFault (Help text) = ⊥
IsWordsFault OutOfMemory = Unit {0}

-- ---- a job

-- a file that the job needs for its work wasn't read; the place reports which one, unless memory ran out
module _ {F : Type 0} (remaining : F → Option (List ℕ)) where
  pub record LacksFile (job : Job) (outcome : Outcome) : Type 0 where
    pub unread : UnreadFile
    pub name : List ℕ
    pub status : outcome.status ≡ 4
    pub note : outcome.note.now ≡ file_note (file_fault_of unread)
    pub place : ReportsPlace job.options.quiet (file_place unread name) outcome.place.items
    pub named : unread ≢ ReadFailed taking.OutOfMemory → NamesForWork remaining job name
    pub known : IsFaultOfFiles remaining (file_fault_of unread)
    pub needed : NamesNoFile job → unread ≡ ReadFailed taking.OutOfMemory

-- the input's file of this name wasn't read, for this reason
pub record IsUnread (quiet : Bool) (name : List ℕ) (unread : UnreadFile) (outcome : Outcome) : Type 0 where
  pub status : outcome.status ≡ 4
  pub note : outcome.note.now ≡ file_note (file_fault_of unread)
  pub place : ReportsPlace quiet (file_place unread name) outcome.place.items

-- it couldn't be opened
abbrev pub IsUnopened : Bool → List ℕ → Outcome → Type 0
IsUnopened quiet name outcome = (cause : FileCause) × IsUnread quiet name (OpenFailed cause) outcome

module _ {S O F : Type 0} (content : S → Option (List ℕ)) (has_stopped : S → Bool) (allowance : S → ℕ)
    (taken : O → Option (List ℕ)) (is_failed : O → Bool) (remaining : F → Option (List ℕ)) where
  -- the outcome of a job's work: a run over standard input, or over an open file that is read in blocks; if the file couldn't be
  -- opened or a block couldn't be allocated, nothing is read or written
  pub data PerformsWork (work : Work) (file : Option (String Global)) (input input' : S) (out out' : O) (outcome : Outcome) : Type 0 where
    unopened : (name : String Global) → file ≡ Some name → IsUnopened work.options.quiet (string_bytes name) outcome → input' ≡ input → out' ≡ out
        → PerformsWork work file input input' out out' outcome
    no_room : (name : String Global) → file ≡ Some name → IsUnread work.options.quiet (string_bytes name) (ReadFailed taking.OutOfMemory) outcome → input' ≡ input
        → out' ≡ out → PerformsWork work file input input' out out' outcome
    over_input : file ≡ None → Runs content has_stopped allowance taken is_failed work (origin_text StandardInput) input input' out out' outcome
        → PerformsWork work file input input' out out' outcome
    over_file : (name : String Global) (source source' : ReadSource (BufReader F Global)) → file ≡ Some name
        → Runs (λ s. reader_remaining remaining (reader_of s)) failed allowance_of taken is_failed work (file_text (string_bytes name)) source source' out out' outcome
        → input' ≡ input → PerformsWork work file input input' out out' outcome

  -- the outcome of a job: a file that it needs wasn't read, and no input is read and nothing is written; or its work is done
  pub data Performs (job : Job) (input input' : S) (out out' : O) (outcome : Outcome) : Type 0 where
    lacks_file : LacksFile remaining job outcome → input' ≡ input → out' ≡ out → Performs job input input' out out' outcome
    has_files : (work : Work) → IsWorkOf remaining job work → PerformsWork work job.file input input' out out' outcome → Performs job input input' out out' outcome
