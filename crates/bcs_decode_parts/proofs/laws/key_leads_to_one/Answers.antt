use Rattle.bcs_decode_parts.proofs.KeysLead.{key_leads_to_one_is}
use Rattle.bcs_decode_parts.proofs.laws.key_leads_to_one.Goals as goal

pub returns : goal.returns
returns c = key_leads_to_one_is
