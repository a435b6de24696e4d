use Rattle.std.proofs.Common.{rules}
use Rattle.bcs_decode_spec.specs.Reading.{key_after, give}
use Rattle.bcs_key_order.proofs.following.follows.Goals as goal

pub returns-in-Less-clause-validates : goal.returns-in-Less-clause-validates
unfolding key_after give
returns-in-Less-clause-validates c = search rules
