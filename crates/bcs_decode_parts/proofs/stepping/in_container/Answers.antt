use Rattle.bcs_decode_parts.proofs.Prelude.{refl, ◌∙◌, sym, rules, content_found}
use Rattle.bcs_decode_parts.proofs.HolderSteps.{container_leads}
use Rattle.bcs_decode_parts.proofs.stepping.in_container.Goals as goal

pub returns : goal.returns
returns c = λ t after h.
    container_leads c.args.registry.now c.args.ahead.now c.args.name.now t after _ h
    (c.container_inside.ensures ∙ sym (content_found c.args.registry.now c.args.name.now c.container.result c.in_ok-container.container c.container.ensures.found (search rules))) refl refl refl
