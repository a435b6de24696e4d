use Rattle.bcs_decode_parts.proofs.Prelude.{◌+◌, List, [], Some, None, get_or, drop, map, length, refl, rules, sym, ap, subst, arith, drop_all, Item, Step, content_of, step_of}
use Rattle.bcs_decode_parts.specs.declared.part.Part.{Part}
use Rattle.bcs_decode_parts.proofs.Paths.{WalksIn, steps_next, walk_ends, walk_on, walk_arrives, walk_stuck, gives_from_front}
use Rattle.bcs_decode_parts.proofs.walking.walk.Goals as goal

pub returns-in_err-at : goal.returns-in_err-at
returns-in_err-at c = λ t after h.
    (let r = c.args.registry.now in
    let a = c.args.ahead.now in
    let path = c.args.path.now in
    let l = c.loop-step in
    let s = get_or path l.step-index (Item 0) in
    let next = steps_next path l.step-index (Item 0) (omega arith) in
    rw (c.from_residual.ensures)
    (gives_from_front r a.bytes.now _ None
    (l.invariant.whole None
    (subst (λ (p : List Step). WalksIn r a.bytes.now l.at.ahead (content_of l.at.here) p None) (sym next)
    (walk_ends r a.bytes.now l.at.ahead (content_of l.at.here) (step_of s) (map step_of (drop (l.step-index + 1) path)) c.in_err-at.ensures))
    [] t after refl h)))

pub loop-step-preserved : goal.loop-step-preserved
loop-step-preserved c =
    (let r = c.args.registry.now in
    let a = c.args.ahead.now in
    let path = c.args.path.now in
    let l = c.loop-step in
    let s = get_or path l.step-index (Item 0) in
    let next = steps_next path l.step-index (Item 0) (omega arith) in
    record {
      whole = λ q on. l.invariant.whole q
          (subst (λ (p : List Step). WalksIn r a.bytes.now l.at.ahead (content_of l.at.here) p q) (sym next)
          (walk_on r a.bytes.now l.at.ahead (content_of l.at.here) (step_of s) (map step_of (drop (l.step-index + 1) path)) c.in_ok-at.at q c.in_ok-at.ensures on));
    })

pub returns-in_err-behind : goal.returns-in_err-behind
returns-in_err-behind c = λ t after h.
    (let r = c.args.registry.now in
    let a = c.args.ahead.now in
    let path = c.args.path.now in
    let l = c.loop-step in
    let none = ap (map step_of) (drop_all l.step-index path (omega arith)) in
    rw (c.from_residual-in_err-behind.ensures)
    (gives_from_front r a.bytes.now _ None
    (l.invariant.whole None
    (subst (λ (p : List Step). WalksIn r a.bytes.now l.at.ahead (content_of l.at.here) p None) (sym none)
    (walk_stuck r a.bytes.now l.at.ahead (content_of l.at.here) None c.in_err-behind.ensures))
    [] t after refl h)))

pub returns : goal.returns
returns c = λ t after h.
    (let r = c.args.registry.now in
    let a = c.args.ahead.now in
    let path = c.args.path.now in
    let l = c.loop-step in
    let none = ap (map step_of) (drop_all l.step-index path (omega arith)) in
    let q : Part = record { bytes = c.bytes_before.result; place = length c.bytes_before-2.result.now } in
    let known = gives_from_front r a.bytes.now _ (Some q)
    (l.invariant.whole (Some q)
    (subst (λ (p : List Step). WalksIn r a.bytes.now l.at.ahead (content_of l.at.here) p (Some q)) (sym none)
    (walk_arrives r a.bytes.now l.at.ahead (content_of l.at.here) c.in_ok-behind.behind.now c.bytes_before.result.now c.bytes_before-2.result.now q c.in_ok-behind.ensures (search rules) c.bytes_before-2.ensures refl refl))
    [] t after refl h) in
    search (rules, known))
