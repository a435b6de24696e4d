use Rattle.bcs_tool_command_line.proofs.Prelude.{◌≡◌, ◌∙◌, ap, subst, sym, rules, [], List, map, Bor, ℕ, Text, app_of, found_of, rows_of, bcs_app, texts_of, spelled, IsFaultAmong}
use Rattle.clap.specs.Words.{fault_of}
use Rattle.bcs_tool_command_line.proofs.LineFaultLemmas.{fault_of_error, none_is_memory, taken_as}
use Rattle.bcs_tool_command_line.proofs.CommandNames.{found_job, found_misuse, met_found, met_is_named}
use Rattle.bcs_tool_command_line.proofs.CommandOptions.{met_limits}
use Rattle.bcs_tool_command_line.proofs.parsing.parsed_job.Goals as goal
use Rattle.bcs_tool_command_line.proofs.parsing.parsed_job.Goals.{After-drop-full}

-- the arguments that clap gets
abbrev given : List (Bor (List ℕ)) → List Text
given = map (λ t. t.now)

refused : (c : After-drop-full) → IsFaultAmong (fault_of bcs_app (spelled (texts_of c.args.words.now))) c.refusal.result
refused c = subst (λ (words : List Text). IsFaultAmong (fault_of bcs_app words) c.refusal.result) (ap given c.as_slice.ensures.value ∙ c.in_ok-full.ensures)
    (fault_of_error (app_of c.in_ok-definition.definition) (given c.as_slice.result.now) c.in-Err.error c.refusal.result
    c.in_ok-definition.ensures c.in-Err.ensures.kinds c.refusal.ensures)

pub returns-in-Err-clause-fault : goal.returns-in-Err-clause-fault
returns-in-Err-clause-fault c = refused c

pub returns-in-Err-clause-good : goal.returns-in-Err-clause-good
returns-in-Err-clause-good c = none_is_memory (fault_of bcs_app (spelled (texts_of c.args.words.now))) c.refusal.result (refused c)

pub unreachable-requires-in_default-named : goal.unreachable-requires-in_default-named
unreachable-requires-in_default-named c =
    let words = given c.as_slice.result.now in
    let definition = app_of c.in_ok-definition.definition in
    met_is_named definition words c.in-Ok.matches c.in-Some.name.now c.in_ok-definition.ensures c.in-Ok.ensures.matches
    (taken_as definition words c.in_ok-definition.ensures c.in-Ok.ensures.kinds)
    c.in-Some.ensures.name (sym c.named.ensures ∙ c.in_default-named.is)

pub job_of-requires : goal.job_of-requires
job_of-requires c =
    let words = given c.as_slice.result.now in
    let definition = app_of c.in_ok-definition.definition in
    met_limits definition words c.in-Ok.matches (rows_of (found_of c.in-Some.given.now)) c.in_ok-definition.ensures c.in-Ok.ensures.matches
    (taken_as definition words c.in_ok-definition.ensures c.in-Ok.ensures.kinds) c.in-Some.ensures.rows

pub returns-clause-taken : goal.returns-clause-taken
returns-clause-taken c =
    subst (λ (words : List Text). fault_of bcs_app words ≡ []) (ap given c.as_slice.ensures.value ∙ c.in_ok-full.ensures)
    (taken_as (app_of c.in_ok-definition.definition) (given c.as_slice.result.now) c.in_ok-definition.ensures c.in-Ok.ensures.kinds)

pub returns-in_err-definition-clause-job : goal.returns-in_err-definition-clause-job
returns-in_err-definition-clause-job c = search rules

pub returns-in_err-definition-clause-taken : goal.returns-in_err-definition-clause-taken
returns-in_err-definition-clause-taken c = search rules

pub returns-in_err-definition-clause-fault : goal.returns-in_err-definition-clause-fault
returns-in_err-definition-clause-fault c = search rules

pub returns-in_err-definition-clause-good : goal.returns-in_err-definition-clause-good
returns-in_err-definition-clause-good c = search rules

pub returns-in-Err-clause-job : goal.returns-in-Err-clause-job
returns-in-Err-clause-job c = search rules

pub returns-in-Err-clause-taken : goal.returns-in-Err-clause-taken
returns-in-Err-clause-taken c = search rules

pub returns-in_err-job_of-clause-job : goal.returns-in_err-job_of-clause-job
returns-in_err-job_of-clause-job c = search rules

pub returns-in_err-job_of-clause-taken : goal.returns-in_err-job_of-clause-taken
returns-in_err-job_of-clause-taken c = search rules

pub returns-in_err-job_of-clause-fault : goal.returns-in_err-job_of-clause-fault
returns-in_err-job_of-clause-fault c = search rules

pub returns-in_err-job_of-clause-good : goal.returns-in_err-job_of-clause-good
returns-in_err-job_of-clause-good c = search rules

pub returns-clause-job : goal.returns-clause-job
returns-clause-job c =
    let rows = rows_of (found_of c.in-Some.given.now) in
    let found = met_found (app_of c.in_ok-definition.definition) (given c.as_slice.result.now) (spelled (texts_of c.args.words.now)) c.in-Ok.matches c.in-Some.name.now rows
    c.in_ok-definition.ensures c.in-Ok.ensures.matches (ap given c.as_slice.ensures.value ∙ c.in_ok-full.ensures) c.in-Some.ensures.name c.in-Some.ensures.rows in
    found_job (texts_of c.args.words.now) c.in-Some.name.now rows c.in-Some-named.command c.in_ok-job_of.field-0 found c.in-Some-named.ensures c.in_ok-job_of.ensures

pub returns-clause-misuse : goal.returns-clause-misuse
returns-clause-misuse c =
    let rows = rows_of (found_of c.in-Some.given.now) in
    let found = met_found (app_of c.in_ok-definition.definition) (given c.as_slice.result.now) (spelled (texts_of c.args.words.now)) c.in-Ok.matches c.in-Some.name.now rows
    c.in_ok-definition.ensures c.in-Ok.ensures.matches (ap given c.as_slice.ensures.value ∙ c.in_ok-full.ensures) c.in-Some.ensures.name c.in-Some.ensures.rows in
    c.misuse_in-misuse.ensures ∙ found_misuse (texts_of c.args.words.now) c.in-Some.name.now rows c.in-Some-named.command found c.in-Some-named.ensures

pub returns-clause-fault : goal.returns-clause-fault
returns-clause-fault c = search rules

pub returns-clause-good : goal.returns-clause-good
returns-clause-good c = search rules
