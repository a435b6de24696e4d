use Rattle.bcs_value_model.proofs.MapsInWords.{maps_in_words}
use Rattle.bcs_value_model.proofs.laws.same_maps.Goals as goal

pub returns : goal.returns
returns c = maps_in_words
