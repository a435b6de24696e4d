use Rattle.bcs_io.proofs.Prelude.{common_steps, ◌≡◌, ◌∙◌, ◌+◌, ◌-◌, ◌++◌, arith, take, drop, length, length-drop, ℕ, List, ap, sym, subst, rules, take-add, take_all, Took}
use Rattle.bcs_io.proofs.TakingLemmas.{Took-then}
use Rattle.bcs_io.proofs.putting.put_all.Goals as goal

-- the bytes accepted before, followed by those accepted in this call
pub loop-at-preserved : goal.loop-at-preserved
loop-at-preserved g c =
    let l = c.loop-at in
    let p = c.args.bytes.now in
    let n = c.in-Ok.taken in
    let now = c.in-Ok.ensures in
    let rest : take (length p - l.at) (drop l.at p) ≡ drop l.at p = take_all _ _ (omega (arith, length-drop l.at p)) in
    let pieces : take (l.at + n) p ≡ take l.at p ++ take n (take (length p - l.at) (drop l.at p)) =
    take-add l.at n p ∙ ap (λ ys. take l.at p ++ take n ys) (sym rest) in
    record {
      within = omega (arith, now.0, length-drop {A = ℕ});
      front = subst (λ (bs : List ℕ). Took g.K.ByteSink.taken g.K.ByteSink.is_failed c.args.sink.now c.put.new.self bs) (sym pieces)
          (Took-then g.K.ByteSink.taken g.K.ByteSink.is_failed c.args.sink.now l.sink c.put.new.self (take l.at p) _ l.invariant.front now.3);
    }

pub returns-in-Err-clause-whole : goal.returns-in-Err-clause-whole
returns-in-Err-clause-whole g c = search rules

pub returns-in-Err-clause-part : goal.returns-in-Err-clause-part
returns-in-Err-clause-part g c = search rules

pub returns-clause-part : goal.returns-clause-part
returns-clause-part g c = search rules

pub returns-clause-whole : goal.returns-clause-whole
returns-clause-whole g c = grind (arith, common_steps)
