use Rattle.std.proofs.Common.{◌≡◌, ◌++◌, string_bytes, ap, sym, subst, ◌∙◌, arith}
use Rattle.bcs_display_registry.specs.Shows.{WritesSome}
use Rattle.bcs_display_registry.proofs.LineEnd.{ended, writes_ended}
use Rattle.bcs_display_registry.proofs.as_json.whole_line.Goals as goal

pub returns : goal.returns
returns c =
    let text = string_bytes c.in_ok-text.text in
    let registry = c.args.registry.now in
    let line : c.into_bytes.result.items ≡ ended text = ap (λ v. v.items) c.into_bytes.ensures.value ∙ c.in_ok-push.ensures.bytes ∙ ap (λ bytes. text ++ bytes) (c.in_ok-push.ensures.ascii (omega arith)) in
    subst WritesSome (sym line) (registry, writes_ended text registry c.in_ok-text.ensures.reads_back, c.recall.ensures.well_formed)
