use Rattle.std.proofs.Common.{sym, ◌∙◌, arith}
use Rattle.bcs_display_text.proofs.Digits.{digits_more, digits_all}
use Rattle.bcs_display_text.proofs.columns.put_hex.Goals as goal

pub loop-byte-preserved : goal.loop-byte-preserved
loop-byte-preserved c = rw c.in_ok-put_byte.ensures (digits_more c.loop-byte.out.items c.args.bytes.now c.loop-byte.byte-index _ c.loop-byte-test.true ∙ c.loop-byte.invariant)

pub returns : goal.returns
returns c = sym (digits_all c.loop-byte.out.items c.args.bytes.now c.loop-byte.byte-index (omega (arith, c.loop-byte-test.false))) ∙ c.loop-byte.invariant
