use Rattle.bcs_num.proofs.Prelude.{◌<◌, All-from_get_or, width_of, IsSigned, le_signed}
use Rattle.bcs_num.proofs.LeReading.{signed_number, signed_read, signed_written, front_found, front_only}
use Rattle.bcs_num.proofs.little_endian.take_le_signed.Goals as goal

pub returns-clause-found : goal.returns-clause-found
returns-clause-found c =
    let w = width_of c.args.width in
    rw c.ok_or.ensures.value (front_found w (signed_number w) (IsSigned w) (le_signed w) c.args.bytes.now c.leading_signed.result c.leading_signed.ensures.found
    (All-from_get_or (λ b. b < 256) c.args.bytes.now 0 (λ i _. (c.type_inv.bytes i).fits)) (signed_read w))

pub returns-clause-only : goal.returns-clause-only
returns-clause-only c =
    let w = width_of c.args.width in
    rw c.ok_or.ensures.value (front_only w (signed_number w) (IsSigned w) (le_signed w) c.args.bytes.now c.leading_signed.result c.leading_signed.ensures.found c.leading_signed.ensures.none (signed_written w))
