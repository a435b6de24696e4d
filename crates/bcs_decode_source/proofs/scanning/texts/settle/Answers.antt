use Rattle.bcs_decode_source.proofs.Prelude.{◌≡◌, ◌+◌, ◌-◌, take, drop, slice_range, length-take, sym, ap, subst, ◌∙◌, arith, drop-take, BeginsNoText}
use Rattle.bcs_decode_source.proofs.scanning.texts.settle.Goals as goal

pub returns-clause-behind : goal.returns-clause-behind
returns-clause-behind c =
    let block = c.args.block.now in
    let size = c.args.size in
    let valid = c.valid_len-valid.result in
    let whole : valid + (size - valid) ≡ size = omega (arith, c.valid_len-valid.ensures.within, length-take size block) in
    let same : drop valid (take size block) ≡ slice_range block valid size = ap (λ i. drop valid (take i block)) (sym whole) ∙ drop-take valid (size - valid) block in
    subst BeginsNoText same c.valid_len-valid.ensures.behind
