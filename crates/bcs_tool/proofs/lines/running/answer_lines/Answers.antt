use Rattle.bcs_tool.proofs.Prelude.{refl}
use Rattle.bcs_tool.proofs.RunLemmas.{reads_input, tallied}
use Rattle.bcs_tool.proofs.lines.running.answer_lines.Goals as goal

pub returns : goal.returns
returns g c =
    let work = c.args.work.now in
    tallied g.S.ByteSource.content g.S.ByteSource.is_failed g.S.ByteSource.allowance g.K.ByteSink.taken g.K.ByteSink.is_failed work
    c.args.input.now c.args.out.now c.answer_each_line.new.out c.in_ok-tally.tally _ (c.requires.by_line, reads_input work c.args.asked.now c.requires.asked)
    c.in_ok-tally.ensures c.run_status.ensures refl c.place_of_tally.ensures
