use Rattle.bcs_io.proofs.Prelude.{length, sym, subst, ◌∙◌, ◌-◌, ◌≤◌, ◌≡◌, arith, length-drop, rules, put_mid, same_len_mid, Gave}
use Rattle.bcs_io.proofs.Filled.{filled_more}
use Rattle.bcs_io.proofs.GivingLemmas.{Gave-then}
use Rattle.bcs_io.proofs.filling.fill.Goals as goal

pub loop-filled-preserved : goal.loop-filled-preserved
loop-filled-preserved g c =
    let gives = c.in_ok-count.ensures in
    let old = c.loop-filled.buf in
    let at = c.loop-filled.filled in
    let len : length (put_mid at (length old - at) old c.next.new.buf) ≡ length old = same_len_mid at (length old - at) old c.next.new.buf (c.next.auto.buf) in
    let some : c.in_ok-count.count ≤ length c.next.new.buf = gives.0 in
    let more = filled_more at (length old - at) c.in_ok-count.count old c.next.new.buf (omega arith) some in
    record {
      good = gives.2.kept ∙ c.loop-filled.invariant.good;
      within = omega (arith, len, length-drop at old);
      len = len ∙ c.loop-filled.invariant.len;
      took = subst (λ l. Gave g.S.ByteSource.content g.S.ByteSource.is_failed g.S.ByteSource.allowance c.args.source.now c.next.new.self l) (sym more)
          (Gave-then g.S.ByteSource.content g.S.ByteSource.is_failed g.S.ByteSource.allowance _ _ _ _ _ c.loop-filled.invariant.took gives.2);
    }

pub returns-clause-fills : goal.returns-clause-fills
returns-clause-fills g c = search rules

pub returns-clause-len : goal.returns-clause-len
returns-clause-len g c = search rules
