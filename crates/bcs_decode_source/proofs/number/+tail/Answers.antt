use Rattle.bcs_decode_source.proofs.Prelude.{◌∙◌, ◌+◌, ◌-◌, ◌*◌, ap, sym, Ok, arith, chain, follow, give, tail_here, rest_of}
use Rattle.bcs_decode_source.proofs.Chains.{tail_last, tail_long, tail_next, tail_rest, tail_step}
use Rattle.bcs_decode_source.proofs.SourceSteps.{FindsFault-whole}
use Rattle.bcs_decode_source.proofs.Readers.{Reads-as, Reads-ends, Onward-none, Onward-then, Onward-done, Onward-ends, Onward-stops, Reads-exit}
use Rattle.bcs_decode_source.proofs.number.+tail.Goals as goal

pub returns-then-index-gt0-clause-reads : goal.returns-then-index-gt0-clause-reads
returns-then-index-gt0-clause-reads g t c =
    let on = Onward-then (Onward-none c.requires.ready) c.in_ok-byte.ensures.reads in
    Onward-stops on (omega (arith, on.goes.later)) (λ told. tail_long c.args.start c.args.index _ _ _ _ _ _ _ (c.in_ok-byte.ensures.reads.sees told).0 c.else-index-eq4.either c.if-byte-eq0.true c.if-index-gt0.true)

pub returns-then-byte-lt128-clause-reads : goal.returns-then-byte-lt128-clause-reads
returns-then-byte-lt128-clause-reads g t c =
    Onward-done (Onward-then (Onward-none c.requires.ready) c.in_ok-byte.ensures.reads)
    (λ told.
    (let byte = c.in_ok-byte.ensures.reads.sees told in (
      tail_last c.args.start c.args.index _ _ _ _ _ _ _ byte.0 c.else-index-eq4.either c.if-byte-lt128.true c.else-byte-eq0.either
          ∙ ap (λ n. Ok (n, c.byte.new.reader.at.now.place, c.byte.new.reader.at.now.nodes, rest_of (g.S.ByteSource.content c.byte.new.reader.source.now))) (sym c.from.ensures),
      byte.1,
    )))

pub returns-in_err-high-clause-reads : goal.returns-in_err-high-clause-reads
unfolding give
returns-in_err-high-clause-reads g t c =
    Reads-exit c.from_residual-in_err-high.ensures.1 (Onward-ends (Onward-then (Onward-none c.requires.ready) c.in_ok-byte.ensures.reads) c.in_err-high.ensures.reads (FindsFault-whole c.in_err-high.field-0.0 _ _ _ _ (tail_here c.args.start c.args.index) (tail_here c.args.start (c.args.index + 1)) (λ told. (c.in_ok-byte.ensures.reads.sees told).1)
    (λ e o told stop. tail_next c.args.start c.args.index _ _ _ _ _ _ _ (c.in_ok-byte.ensures.reads.sees told).0 c.else-index-eq4.either c.if-byte-lt128.false
    ∙ ap (λ r. follow r (λ high. give ((c.in_ok-byte.byte - 128) + high * 128))) stop) c.in_err-high.ensures.reads.sees))

pub returns-clause-reads : goal.returns-clause-reads
unfolding give
returns-clause-reads g t c =
    Onward-done (Onward-then (Onward-then (Onward-none c.requires.ready) c.in_ok-byte.ensures.reads) c.in_ok-high.ensures.reads)
    (λ told.
    (let byte = c.in_ok-byte.ensures.reads.sees told in
    let high = c.in_ok-high.ensures.reads.sees byte.1 in (
      tail_next c.args.start c.args.index _ _ _ _ _ _ _ byte.0 c.else-index-eq4.either c.if-byte-lt128.false
          ∙ ap (λ r. follow r (λ high. give ((c.in_ok-byte.byte - 128) + high * 128))) high.0
          ∙ ap (λ n. Ok (n + c.in_ok-high.high * 128, c.tail.new.reader.at.now.place, c.tail.new.reader.at.now.nodes, rest_of (g.S.ByteSource.content c.tail.new.reader.source.now))) (sym c.from-2.ensures),
      high.1,
    )))

pub returns-in_err-byte-clause-reads : goal.returns-in_err-byte-clause-reads
unfolding chain
returns-in_err-byte-clause-reads g t c = Reads-exit c.from_residual.ensures.1 (Reads-as (tail_step c.args.start c.args.index) (Reads-ends (tail_rest c.args.start c.args.index) c.in_err-byte.ensures.reads))
