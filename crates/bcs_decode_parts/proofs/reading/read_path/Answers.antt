use Rattle.bcs_decode_parts.proofs.Prelude.{◌≡◌, ◌∙◌, ◌∷◌, [], Err, ap, lit<, sym, split_steps, FindsChar, YieldsList-from_str_split, map-append, err_from_is_err_and, BadPath, all_spelled, spelled}
use Rattle.bcs_decode_parts.proofs.PathReading.{begins, ends, goes_on, stops}
use Rattle.bcs_decode_parts.proofs.reading.read_path.Goals as goal

pub loop-text-init : goal.loop-text-init
loop-text-init c =
    let made = c.split-text-items.ensures in
    let cut = YieldsList-from_str_split 47 c.args.word.now (lit< tt) made.text made.has_more made.pattern in (
      tt,
      tt,
      rw (c.into_iter-text-iterator.ensures.into_iter_gives, c.new-path.ensures.items)
          (begins (split_steps FindsChar (λ a b. b ≡ a)) (λ x. x.now) c.args.word.now c.split-text-items.result cut.runs),
    )

pub returns-in_err-read_step-clause-bad : goal.returns-in_err-read_step-clause-bad
returns-in_err-read_step-clause-bad c =
    let told = err_from_is_err_and c.from_residual.result c.from_residual.ensures.1 in
    λ bad. let both = sym told.1 ∙ bad in
    let is : told.0 ≡ BadPath = cc in
    stops (split_steps FindsChar (λ a b. b ≡ a)) (λ x. x.now) c.args.word.now c.loop-text.text-iterator c.next.new.self
    (all_spelled c.loop-text.path.items) c.in-Some.text c.loop-text.invariant.2 c.in-Some.ensures.steps
    (c.in_err-read_step.ensures.bad (ap Err (sym told.2 ∙ is))) (λ e. (let other = rw e at c.if-eq.ensures in cc))

pub loop-text-preserved : goal.loop-text-preserved
loop-text-preserved c =
    let path = c.loop-text.path.items in
    let step = c.in_ok-read_step.field-0 in (
      tt,
      tt,
      rw (c.in_ok-push.ensures.items, map-append spelled path (step ∷ []))
          (goes_on (split_steps FindsChar (λ a b. b ≡ a)) (λ x. x.now) c.args.word.now c.loop-text.text-iterator c.next.new.self
          (all_spelled path) c.in-Some.text (spelled step) c.loop-text.invariant.2 c.in-Some.ensures.steps c.in_ok-read_step.ensures.spelled),
    )

pub returns-clause-spelled : goal.returns-clause-spelled
returns-clause-spelled c =
    ends (split_steps FindsChar (λ a b. b ≡ a)) (λ x. x.now) c.args.word.now c.loop-text.text-iterator c.next.new.self
    (all_spelled c.loop-text.path.items) c.loop-text.invariant.2 c.in-None.ensures.steps
