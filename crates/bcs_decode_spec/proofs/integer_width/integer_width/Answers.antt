use Rattle.bcs_decode_spec.proofs.Prelude.{ap, sym, ◌∙◌, arith, shape_seen, whole_here}
use Rattle.bcs_decode_spec.proofs.ScalarSteps.{past_scalar, nothing_is, whole_len-small}
use Rattle.bcs_decode_spec.proofs.integer_width.integer_width.Goals as goal

pub returns-in-Scalar-Unit-clause-reads : goal.returns-in-Scalar-Unit-clause-reads
returns-in-Scalar-Unit-clause-reads c =
    let f = c.args.format.now in
    let seen = shape_seen f c.kind.result _ c.kind.ensures c.in-Scalar-Unit.is in (
      omega arith,
      λ r d p m b. past_scalar r d f c.in-Scalar-Unit.field-0 _ seen c.in-Scalar-Unit.field-0-is p m b ∙ nothing_is p m b,
    )

pub returns-in-Scalar-Whole-clause-reads : goal.returns-in-Scalar-Whole-clause-reads
returns-in-Scalar-Whole-clause-reads c =
    let f = c.args.format.now in
    let seen = shape_seen f c.kind.result _ c.kind.ensures c.in-Scalar-Whole.is in (
      omega (arith, c.byte_len.ensures, whole_len-small c.in-Scalar-Whole.number),
      λ r d p m b. past_scalar r d f c.in-Scalar-Whole.field-0 _ seen c.in-Scalar-Whole.field-0-is p m b ∙ ap (λ k. whole_here k p m b) (sym c.byte_len.ensures),
    )
