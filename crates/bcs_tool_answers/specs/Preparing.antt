-- The result of validating a job's arguments before its input is read.
use Rattle.std.specs.Prelude.{◌≡◌, ◌++◌, ℕ, List, string_bytes, true}
use Rattle.bcs_registry_model.specs.View.{shape_of}
use Rattle.bcs_registry_model.specs.WellFormed.{Admits}
use Rattle.bcs_decode_parts.specs.PathSteps.{all_spelled}
use Rattle.bcs_tool_command_line.specs.declared.work.Work.{Work}
use Rattle.bcs_tool_answers.specs.Validating.{Asks, IsPathOf, ReadsInput, command_of, works_on_values}
use Rattle.bcs_tool_answers.specs.Answers.{Answers, Lists}
use Rattle.bcs_tool_answers.specs.Places.{IsAnswer, Places}
use Rattle.bcs_tool_answers.specs.declared.answer.Answer.{Answer}
use Rattle.bcs_tool_answers.specs.declared.preparing.Prepared.{Prepared}
use Rattle.bcs_tool_answers.specs.declared.preparing.Prepared.TheVariants as prepared
use Rattle.bcs_tool_answers.specs.declared.validating.Asked.{Asked}

-- the job works on values of this format from this registry, and its PATH gives these steps
pub record IsAskedBy (work : Work) (asked : Asked) : Type 0 where
  pub command : work.command ≡ command_of asked.command
  pub on_values : works_on_values work.command ≡ true
  pub asks : Asks work asked.registry (shape_of asked.format)
  pub admitted : Admits asked.registry (shape_of asked.format)
  pub path : IsPathOf work.command work.options.notation (string_bytes work.path) (all_spelled asked.path.items)

-- after any list that may come before a verdict on growth, it answers the job, whatever the input
abbrev pub IsVerdict : Work → Answer → Type 0
IsVerdict work a = (list input : List ℕ) → Lists work.options.list list
    → Answers work input a.status (list ++ a.output.items) × Places work input a.place.items

-- the job reads no input and has this answer, whatever the input; or this is its parsed request
abbrev pub IsPrepared : Work → Prepared → Type 0
IsPrepared work (prepared.Answered a) = (¬ ReadsInput work) × ((bytes : List ℕ) → IsAnswer work bytes a)
IsPrepared work (prepared.Asked asked) = IsAskedBy work asked
