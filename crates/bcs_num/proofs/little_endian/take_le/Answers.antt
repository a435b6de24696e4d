use Rattle.bcs_num.proofs.Prelude.{◌<◌, All-from_get_or, from_le_bytes, width_of, IsUnsigned, le}
use Rattle.bcs_num.proofs.LeReading.{unsigned_read, unsigned_written, front_found, front_only}
use Rattle.bcs_num.proofs.little_endian.take_le.Goals as goal

pub returns-clause-found : goal.returns-clause-found
returns-clause-found c =
    let w = width_of c.args.width in
    rw c.ok_or.ensures.value (front_found w (from_le_bytes w) (IsUnsigned w) (le w) c.args.bytes.now c.leading_unsigned.result c.leading_unsigned.ensures.found
    (All-from_get_or (λ b. b < 256) c.args.bytes.now 0 (λ i _. (c.type_inv.bytes i).fits)) (unsigned_read w))

pub returns-clause-only : goal.returns-clause-only
returns-clause-only c =
    let w = width_of c.args.width in
    rw c.ok_or.ensures.value (front_only w (from_le_bytes w) (IsUnsigned w) (le w) c.args.bytes.now c.leading_unsigned.result c.leading_unsigned.ensures.found c.leading_unsigned.ensures.none (unsigned_written w))
