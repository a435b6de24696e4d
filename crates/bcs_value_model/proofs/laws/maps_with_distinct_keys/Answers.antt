use Rattle.bcs_value_model.proofs.MapsInWords.{keys_in_words}
use Rattle.bcs_value_model.proofs.laws.maps_with_distinct_keys.Goals as goal

pub returns : goal.returns
returns c = keys_in_words
