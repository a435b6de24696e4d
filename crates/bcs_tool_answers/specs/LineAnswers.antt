-- The program's answer to an input if each of its lines is an input of its own.
use Rattle.std.specs.Prelude.{◌≡◌, ◌==◌, ◌++◌, ◌∷◌, [], ℕ, suc, List, Bool, true, false, codes, if◌then◌else◌, max}
use Rattle.std.specs.Fmt.{decimal}
use Rattle.bcs_io.specs.Lines.{lines_of}
use Rattle.bcs_tool_answers.specs.Answers.{Answers}
use Rattle.bcs_tool_answers.specs.JsonRefusals.{InForm}
use Rattle.bcs_tool_command_line.specs.declared.work.Work.{Work}

-- the answer to a line: the same as to an input of its own, except that refusals are JSON with `--refusals json`
abbrev pub AnswersLine : Work → List ℕ → ℕ → List ℕ → Type 0
AnswersLine work line status output = InForm work.options.json_refusals (Answers work line) status output

-- the answers to these lines in order: their statuses, and their outputs joined
pub data AnswersAll (work : Work) : List (List ℕ) → List ℕ → List ℕ → Type 0 where
  none : AnswersAll work [] [] []
  next : (line : List ℕ) (lines : List (List ℕ)) (status : ℕ) (statuses output outputs : List ℕ) → AnswersLine work line status output → AnswersAll work lines statuses outputs → AnswersAll work (line ∷ lines) (status ∷ statuses) (output ++ outputs)

-- the greatest of the statuses, or 0 if there are none
abbrev pub greatest : List ℕ → ℕ
greatest [] = 0
greatest (s ∷ ss) = max s (greatest ss)

-- the number of statuses equal to this one
abbrev pub count_of : ℕ → List ℕ → ℕ
count_of n [] = 0
count_of n (s ∷ ss) = if s == n then suc (count_of n ss) else count_of n ss

-- the status of a run over lines: the greatest one. With refusals as JSON, refused lines don't count, so it is 1 if a line has
-- status 1, and otherwise 0
abbrev pub run_status : Bool → List ℕ → ℕ
run_status false statuses = greatest statuses
run_status true statuses = if count_of 1 statuses == 0 then 0 else 1

-- the number of lines with each status
abbrev pub tally_text : ℕ → ℕ → ℕ → List ℕ
tally_text done denied refused = codes "lines with status 0: " ++ decimal done
    ++ codes ", with status 1: " ++ decimal denied
    ++ codes ", with status 2: " ++ decimal refused

abbrev pub summary : List ℕ → List ℕ
summary statuses = tally_text (count_of 0 statuses) (count_of 1 statuses) (count_of 2 statuses)

-- the answers to the lines of this content, with the status of the run
abbrev pub AnswersLines : Work → List ℕ → ℕ → List ℕ → Type 0
AnswersLines work content status output = (statuses : List ℕ) × AnswersAll work (lines_of content) statuses output × (status ≡ run_status work.options.json_refusals statuses)
