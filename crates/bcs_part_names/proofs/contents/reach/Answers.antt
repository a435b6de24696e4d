use Rattle.std.proofs.Common.{◌+◌, List, None, Some, get_or, drop, map, sym, ap, subst, arith}
use Rattle.std.proofs.lemmas.List.{drop_all}
use Rattle.bcs_decode_parts.specs.Here.{content_of}
use Rattle.bcs_decode_parts.specs.Parts.{Step}
use Rattle.bcs_decode_parts.specs.Steps.{step_of}
use Rattle.bcs_decode_parts.specs.declared.step.Step.TheVariants.{Item}
use Rattle.bcs_decode_parts.proofs.Paths.{steps_next}
use Rattle.bcs_part_names.specs.Contents.{LeadsAlong}
use Rattle.bcs_part_names.proofs.PartContents.{along_arrives, along_ends, along_on}
use Rattle.bcs_part_names.proofs.contents.reach.Goals as goal

pub returns-in_err-at : goal.returns-in_err-at
returns-in_err-at c =
    (let r = c.args.registry.now in
    let path = c.args.path.now in
    let l = c.loop-step in
    let s = get_or path l.step-index (Item 0) in
    let next = steps_next path l.step-index (Item 0) (omega arith) in
    rw (c.from_residual.ensures)
    (l.invariant.whole None
    (subst (λ (p : List Step). LeadsAlong r l.at.ahead p (content_of l.at.here) None) (sym next)
    (along_ends r l.at.ahead (content_of l.at.here) (step_of s) (map step_of (drop (l.step-index + 1) path)) c.in_err-at.ensures))))

pub loop-step-preserved : goal.loop-step-preserved
loop-step-preserved c =
    (let r = c.args.registry.now in
    let path = c.args.path.now in
    let l = c.loop-step in
    let s = get_or path l.step-index (Item 0) in
    let next = steps_next path l.step-index (Item 0) (omega arith) in
    record {
      whole = λ q on. l.invariant.whole q
          (subst (λ (p : List Step). LeadsAlong r l.at.ahead p (content_of l.at.here) q) (sym next)
          (along_on r l.at.ahead (content_of l.at.here) (step_of s) (map step_of (drop (l.step-index + 1) path)) c.in_ok-at.at q c.in_ok-at.ensures on));
    })

pub returns : goal.returns
returns c =
    (let r = c.args.registry.now in
    let path = c.args.path.now in
    let l = c.loop-step in
    let none = ap (map step_of) (drop_all l.step-index path (omega arith)) in
    l.invariant.whole (Some l.at)
    (subst (λ (p : List Step). LeadsAlong r l.at.ahead p (content_of l.at.here) (Some l.at)) (sym none) (along_arrives r l.at)))
