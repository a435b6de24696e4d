use Rattle.bcs_num.proofs.Prelude.{◌∙◌, rules, w8, w16, w32, w64, w128}
use Rattle.bcs_num.proofs.LeReading.{put_is, byte_low_first}
use Rattle.bcs_num.proofs.little_endian.put_le.Goals as goal

pub returns-in-W1 : goal.returns-in-W1
returns-in-W1 c = rw c.in-W1.is (put_is w8 c.args.n _ _ _ _ c.put_front.ensures.len (c.to_le_bytes.ensures ∙ byte_low_first c.args.n (rw c.in-W1.is at c.requires)) c.put_front.ensures.after)

pub returns-in-W2 : goal.returns-in-W2
returns-in-W2 c = rw c.in-W2.is (put_is w16 c.args.n _ _ _ _ c.put_front-in-W2.ensures.len (search rules) c.put_front-in-W2.ensures.after)

pub returns-in-W4 : goal.returns-in-W4
returns-in-W4 c = rw c.in-W4.is (put_is w32 c.args.n _ _ _ _ c.put_front-in-W4.ensures.len c.to_le_bytes-in-W4.ensures c.put_front-in-W4.ensures.after)

pub returns-in-W8 : goal.returns-in-W8
returns-in-W8 c = rw c.in-W8.is (put_is w64 c.args.n _ _ _ _ c.put_front-in-W8.ensures.len c.to_le_bytes-in-W8.ensures c.put_front-in-W8.ensures.after)

pub returns-in-W16 : goal.returns-in-W16
returns-in-W16 c = rw c.in-W16.is (put_is w128 c.args.n _ _ _ _ c.put_front-in-W16.ensures.len c.to_le_bytes-in-W16.ensures c.put_front-in-W16.ensures.after)
