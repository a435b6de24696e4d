use Rattle.bcs_decode_slice.proofs.Prelude.{arith, shape_of}
use Rattle.bcs_decode_slice.proofs.FixedParts.{fixed_whole}
use Rattle.bcs_decode_slice.proofs.fixed_size.whole_size.Goals as goal

pub returns : goal.returns
returns c = (
  omega arith,
  λ registry d. fixed_whole registry d (shape_of c.args.format.now) c.in_ok-width.width (λ p m b. c.in_ok-width.ensures.reads.1 registry d p m b),
)
