use Rattle.bcs_encode_spec.proofs.Refusals.{refused_or_sound}
use Rattle.bcs_encode_spec.proofs.laws.refused_or_sound.Goals as goal

pub returns : goal.returns
returns c = refused_or_sound
