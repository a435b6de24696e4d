use Rattle.bcs_decode_source.proofs.Prelude.{common_steps, take, sym, ap, ◌∙◌, ◌≡◌, ◌++◌, arith, rules, length-take-le, take_all, err_from_is_err_and, bytes_here}
use Rattle.bcs_decode_source.proofs.SourceSteps.{Along-taken, gave_taken}
use Rattle.bcs_decode_source.proofs.bytes.read_exact.Goals as goal

pub returns-in_default-clause-reads : goal.returns-in_default-clause-reads
returns-in_default-clause-reads g c =
    record { sees = search rules; failed = search rules; room = search rules; goes = (gave_taken _ _ c.args.reader.now.at.now c.in_default.ensures.fills.0 c.in_default.ensures.fills.1.front); same = search rules }

pub returns-in_err-record-clause-reads : goal.returns-in_err-record-clause-reads
returns-in_err-record-clause-reads g c =
    let p = err_from_is_err_and c.from_residual.result c.from_residual.ensures.1 in
    record {
      sees = (rw (p.1, p.2, c.in_err-record.ensures.fault) tt);
      failed = (rw (p.1, p.2, c.in_err-record.ensures.fault) (search rules));
      room = search rules;
      goes = (rw (p.1, p.2, c.in_err-record.ensures.fault) (gave_taken _ _ c.args.reader.now.at.now (take c.in-Ok.count c.fill.new.buf) c.in-Ok.ensures.fills.1.front));
      same = search rules;
    }

pub returns-clause-reads : goal.returns-clause-reads
unfolding bytes_here
returns-clause-reads g c =
    let fills = c.in-Ok.ensures.fills in
    let whole : take c.in-Ok.count c.fill.new.buf ≡ c.fill.new.buf = take_all c.in-Ok.count c.fill.new.buf (omega arith) in
    record {
      sees = (grind (arith, common_steps));
      failed = search rules;
      room = search rules;
      goes = (Along-taken _ _ (take c.in-Ok.count c.fill.new.buf) c.in-Ok.count _ _ fills.1.front (omega (arith, length-take-le c.in-Ok.count c.fill.new.buf fills.0))
          c.record.ensures.same.place c.record.ensures.same.key (λ no. (c.record.ensures.unrecorded no).1) (λ yes. c.in_ok-record.ensures.recorded yes ∙ ap (λ l. c.args.reader.now.at.now.kept.items ++ l) (sym whole)));
      same = search rules;
    }
