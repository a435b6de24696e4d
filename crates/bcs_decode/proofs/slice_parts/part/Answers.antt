use Rattle.bcs_decode.proofs.Prelude.{drop, refl, rules, shape_of, Ahead, accepted_stands}
use Rattle.bcs_decode.proofs.slice_parts.part.Goals as goal

pub returns-clause-found : goal.returns-clause-found
returns-clause-found c =
    let r = c.args.registry.now in
    let l = c.args.limits.now in
    let s = shape_of c.args.format.now in
    let b = c.args.bytes.now in
    let n = c.in_ok-scan.field-0 in
    let good = c.in_ok-scan.ensures.found in
    let ahead : Ahead = record { bytes = c.args.bytes; depth = c.depth.result; nodes = c.nodes.result } in
    (n, good.0, good.1, c.walk.ensures good.0 (drop n b) (accepted_stands r l s b n good.0 ahead good.1 refl c.depth.ensures.is c.nodes.ensures.is))

pub returns-clause-stopped : goal.returns-clause-stopped
returns-clause-stopped c = λ e o bad. absurd (let h = c.in_ok-scan.ensures.stopped e o bad in cc)

pub returns-clause-only : goal.returns-clause-only
returns-clause-only c = search rules

pub returns-clause-stops : goal.returns-clause-stops
returns-clause-stops c = search rules
