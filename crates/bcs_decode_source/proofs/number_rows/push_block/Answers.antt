use Rattle.bcs_decode_source.proofs.Prelude.{◌≡◌, ◌∙◌, ◌++◌, drop, map, ap, whole_len, tree_of, numbers}
use Rattle.bcs_decode_source.proofs.NumberRows.{pushed_more, pushed_all}
use Rattle.bcs_decode_source.proofs.number_rows.push_block.Goals as goal

pub loop-number-preserved : goal.loop-number-preserved
loop-number-preserved c n long =
    let f = c.args.format in
    let taken = c.in-Some.ensures.found in
    let rest : c.split_at.result.1.now ≡ drop (whole_len f) c.loop-number.rest.now = c.split_at.ensures.back ∙ ap (λ i. drop i c.loop-number.rest.now) c.byte_len.ensures in
    rw (rest, c.in_ok-push.ensures.items) (pushed_more f c.loop-number.found.items c.loop-number.rest.now (map tree_of c.args.found.now.items ++ numbers f n c.args.bytes.now) c.in-Some.number taken.0 taken.1 (c.loop-number.invariant n long))

pub returns : goal.returns
returns c n long = pushed_all c.args.format c.loop-number.found.items c.loop-number.rest.now (map tree_of c.args.found.now.items ++ numbers c.args.format n c.args.bytes.now) (c.front_number.ensures.none c.in_default.is) (c.loop-number.invariant n long)
