use Rattle.bcs_io.proofs.Prelude.{◌+◌, ◌++◌, ◌∙◌, arith, take, length-take}
use Rattle.std.proofs.lemmas.List.{length-append}
use Rattle.bcs_io.proofs.GivingLemmas.{Gave-then}
use Rattle.bcs_io.proofs.taking.take_all.Goals as goal

-- the bytes read before, and one byte more than the limit allows
pub returns-then-left-count-clause-too_large : goal.returns-then-left-count-clause-too_large
returns-then-left-count-clause-too_large g c is =
    let l = c.loop-count in
    let now = c.in-Ok.ensures in
    let got = take c.in-Ok.count c.next.new.buf in (
      l.bytes.items ++ got,
      Gave-then g.S.ByteSource.content g.S.ByteSource.is_failed g.S.ByteSource.allowance c.args.input.now l.input c.next.new.self l.bytes.items got l.invariant.front now.2,
      omega (arith, length-append l.bytes.items got, length-take c.in-Ok.count c.next.new.buf, length-take (c.min.result + 1) l.block),
    )

pub returns-then-is_err-clause-memory : goal.returns-then-is_err-clause-memory
returns-then-is_err-clause-memory g c is =
    let l = c.loop-count in
    let now = c.in-Ok.ensures in
    let got = take c.in-Ok.count c.next.new.buf in (
      l.bytes.items ++ got,
      Gave-then g.S.ByteSource.content g.S.ByteSource.is_failed g.S.ByteSource.allowance c.args.input.now l.input c.next.new.self l.bytes.items got l.invariant.front now.2,
      omega (arith, length-append l.bytes.items got, length-take c.in-Ok.count c.next.new.buf),
      now.2.kept ∙ now.1,
    )
