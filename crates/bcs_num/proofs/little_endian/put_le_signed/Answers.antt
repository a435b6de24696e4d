use Rattle.bcs_num.proofs.Prelude.{◌∙◌, ap, w128, cast_unsigned, to_z-of_z, width_of, rules}
use Rattle.bcs_num.proofs.LeReading.{masked}
use Rattle.bcs_num.proofs.little_endian.put_le_signed.Goals as goal

pub returns-clause-bytes : goal.returns-clause-bytes
returns-clause-bytes c =
    let w = width_of c.args.width in
    let low = masked w c.args.n c.cast_unsigned.result c.greatest_unsigned.result c.requires (c.cast_unsigned.ensures ∙ ap (cast_unsigned w128) (to_z-of_z w128 c.args.n c.ranges.n)) c.greatest_unsigned.ensures in
    search (rules, low)
