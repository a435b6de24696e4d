use Rattle.bcs_num.proofs.Prelude.{◌≡◌, ◌<◌, ◌+◌, ◌*◌, ◌&&◌, ◌==◌, nat_lt, false, Ok, Err, get_or, arith, rules, ◌∙◌, sym, ap, ℕ, refl, nat_tests, drop_all, All-from_get_or, LongForm, NumberTooLarge}
use Rattle.bcs_num.proofs.UlebReading.{verdict, decided, at_large, at_zero_last, at_last}
use Rattle.bcs_num.proofs.uleb.take_uleb.Goals as goal
use Rattle.bcs_num.proofs.uleb.take_uleb.Goals.{else-i-eq4-via-then-i-eq4+else-byte-gt15, else-i-eq4-via-else-i-eq4, else-byte-eq0-via-then-byte-eq0+else-i-gt0, else-byte-eq0-via-else-byte-eq0}

pub returns : goal.returns
returns c =
    verdict c.args.bytes.now _ (All-from_get_or (λ b. b < 256) c.args.bytes.now 0 (λ i _. (c.type_inv.bytes i).fits))
    (c.loop-i.invariant.whole ∙ rw (drop_all c.loop-i.i c.args.bytes.now c.loop-i-test.false) refl)

pub returns-then-byte-gt15 : goal.returns-then-byte-gt15
returns-then-byte-gt15 c =
    let known = verdict c.args.bytes.now _ (All-from_get_or (λ b. b < 256) c.args.bytes.now 0 (λ i _. (c.type_inv.bytes i).fits))
    (decided c.args.bytes.now c.loop-i.i c.loop-i.low c.loop-i.worth (Err NumberTooLarge) c.loop-i-test.true c.loop-i.invariant.whole
    (at_large c.loop-i.i _ _ c.if-i-eq4.true c.if-byte-gt15.true)) in
    search (rules, known)

pub returns-then-i-gt0-clause-found : goal.returns-then-i-gt0-clause-found
returns-then-i-gt0-clause-found c = search rules

pub returns-then-i-gt0-clause-ended : goal.returns-then-i-gt0-clause-ended
returns-then-i-gt0-clause-ended c = search rules

pub returns-then-i-gt0-clause-only : goal.returns-then-i-gt0-clause-only
returns-then-i-gt0-clause-only c =
    let known = verdict c.args.bytes.now _ (All-from_get_or (λ b. b < 256) c.args.bytes.now 0 (λ i _. (c.type_inv.bytes i).fits))
    (decided c.args.bytes.now c.loop-i.i c.loop-i.low c.loop-i.worth (Err LongForm) c.loop-i-test.true c.loop-i.invariant.whole
    (at_zero_last c.loop-i.i _ _ c.if-byte-eq0.true c.if-i-gt0.true)) in
    search (rules, known.only)

pub returns-then-i-gt0-clause-long : goal.returns-then-i-gt0-clause-long
returns-then-i-gt0-clause-long c =
    let known = verdict c.args.bytes.now _ (All-from_get_or (λ b. b < 256) c.args.bytes.now 0 (λ i _. (c.type_inv.bytes i).fits))
    (decided c.args.bytes.now c.loop-i.i c.loop-i.low c.loop-i.worth (Err LongForm) c.loop-i-test.true c.loop-i.invariant.whole
    (at_zero_last c.loop-i.i _ _ c.if-byte-eq0.true c.if-i-gt0.true)) in
    search (rules, known.long)

pub returns-then-i-gt0-clause-large : goal.returns-then-i-gt0-clause-large
returns-then-i-gt0-clause-large c =
    let known = verdict c.args.bytes.now _ (All-from_get_or (λ b. b < 256) c.args.bytes.now 0 (λ i _. (c.type_inv.bytes i).fits))
    (decided c.args.bytes.now c.loop-i.i c.loop-i.low c.loop-i.worth (Err LongForm) c.loop-i-test.true c.loop-i.invariant.whole
    (at_zero_last c.loop-i.i _ _ c.if-byte-eq0.true c.if-i-gt0.true)) in
    search (rules, known.large)

pub returns-then-byte-lt128 : goal.returns-then-byte-lt128
returns-then-byte-lt128 c =
    let byte = get_or c.args.bytes.now c.loop-i.i 0 in
    let small : ((c.loop-i.i == 4) && nat_lt 15 byte) ≡ false = elim c.else-i-eq4.branch [
      | else-i-eq4-via-then-i-eq4+else-byte-gt15 w ↦ grind (arith, nat_tests)
      | else-i-eq4-via-else-i-eq4 w ↦ grind (arith, nat_tests)
    ] in
    let shortest : ((byte == 0) && nat_lt 0 c.loop-i.i) ≡ false = elim c.else-byte-eq0.branch [
      | else-byte-eq0-via-then-byte-eq0+else-i-gt0 w ↦ grind (arith, nat_tests)
      | else-byte-eq0-via-else-byte-eq0 w ↦ grind (arith, nat_tests)
    ] in
    verdict c.args.bytes.now _ (All-from_get_or (λ b. b < 256) c.args.bytes.now 0 (λ i _. (c.type_inv.bytes i).fits))
    (decided c.args.bytes.now c.loop-i.i c.loop-i.low c.loop-i.worth (Ok (byte, 1)) c.loop-i-test.true c.loop-i.invariant.whole
    (at_last c.loop-i.i byte _ c.if-byte-lt128.true small shortest)
    ∙ ap (λ (n : ℕ). Ok (c.loop-i.low + n * c.loop-i.worth, c.loop-i.i + 1)) (sym c.from.ensures))
