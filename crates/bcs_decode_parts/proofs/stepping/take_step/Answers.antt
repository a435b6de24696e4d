use Rattle.bcs_decode_parts.proofs.Prelude.{ap, sym, subst, Step, content_of, StepsTo, step_of}
use Rattle.bcs_decode_parts.proofs.stepping.take_step.Goals as goal

pub returns-in-Item : goal.returns-in-Item
returns-in-Item c =
    subst (λ (s : Step). StepsTo c.args.registry.now c.args.at.now.ahead s (content_of c.args.at.now.here) c.to_item.result) (sym (ap step_of c.in-Item.is)) c.to_item.ensures

pub returns-in-Inner : goal.returns-in-Inner
returns-in-Inner c =
    subst (λ (s : Step). StepsTo c.args.registry.now c.args.at.now.ahead s (content_of c.args.at.now.here) c.to_inner.result) (sym (ap step_of c.in-Inner.is)) c.to_inner.ensures

pub returns-in-Key : goal.returns-in-Key
returns-in-Key c =
    subst (λ (s : Step). StepsTo c.args.registry.now c.args.at.now.ahead s (content_of c.args.at.now.here) c.to_value.result) (sym (ap step_of c.in-Key.is)) c.to_value.ensures
