use Rattle.bcs_json_tokens.proofs.Invalid.{not_valid}
use Rattle.bcs_json_tokens.proofs.validity.is_not_json.Goals as goal

pub returns-in-Ok-is_valid : goal.returns-in-Ok-is_valid
returns-in-Ok-is_valid c = not_valid c.in-Ok-is_valid.valid c.in-Ok.text.now c.args.text.now c.in-Ok.ensures.cases.0 c.in-Ok-is_valid.ensures.ok
