use Rattle.bcs_tool.proofs.jobs.running.run_from.Goals as goal

pub returns : goal.returns
returns g c = record {
  result = c.validate_and_answer-ended.result;
  ends = c.validate_and_answer-ended.ensures.ends;
  is = c.outcome_of.ensures;
  untouched = c.validate_and_answer-ended.ensures.untouched;
}
