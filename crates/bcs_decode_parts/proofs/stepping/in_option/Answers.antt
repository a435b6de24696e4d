use Rattle.bcs_decode_parts.proofs.Prelude.{refl, arith, shape_of}
use Rattle.bcs_decode_parts.proofs.HolderSteps.{option_leads}
use Rattle.bcs_decode_parts.proofs.stepping.in_option.Goals as goal

pub returns : goal.returns
returns c = λ registry t after h.
    option_leads registry c.args.ahead.now (shape_of c.args.content.now) t after c.in_ok-first.first.now c.in_ok-first.rest.now _ h c.in_ok-first.ensures.cases.0 (omega arith)
    refl (record { depth_is = c.at.ensures.depth; nodes_are = c.at.ensures.nodes }) c.at.ensures.bytes
