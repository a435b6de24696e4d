use Rattle.bcs_decode_source.proofs.Prelude.{arith, rules, chain, give, fail}
use Rattle.bcs_decode_source.proofs.Chains.{flag_is}
use Rattle.bcs_decode_source.proofs.leaves.flag.Goals as goal

pub returns-in_err-byte-clause-reads : goal.returns-in_err-byte-clause-reads
unfolding chain give fail
returns-in_err-byte-clause-reads g c =
    record { sees = (grind (arith, flag_is)); failed = search rules; room = search rules; goes = search rules; same = search rules }
