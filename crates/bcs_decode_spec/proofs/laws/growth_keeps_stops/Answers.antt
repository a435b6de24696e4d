use Rattle.bcs_decode_spec.proofs.Growing.{keeps_stops, keeps_stops_all}
use Rattle.bcs_decode_spec.proofs.laws.growth_keeps_stops.Goals as goal

pub returns-clause-front : goal.returns-clause-front
returns-clause-front c = keeps_stops

pub returns-clause-whole : goal.returns-clause-whole
returns-clause-whole c = keeps_stops_all
