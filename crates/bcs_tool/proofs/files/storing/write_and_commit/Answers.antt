use Rattle.bcs_tool.proofs.StoringLemmas.{put_all, put_part}
use Rattle.bcs_tool.proofs.files.storing.write_and_commit.Goals as goal

pub returns-in-Ok-clause-all : goal.returns-in-Ok-clause-all
returns-in-Ok-clause-all g c =
    put_all g.T.OutputFile.stage g.T.OutputFile.received c.args.bytes.now c.args.file.now c.write.new.self c.sync_and_replace.new.file c.in-Ok.ensures c.sync_and_replace.result c.sync_and_replace.ensures.all

pub returns-in-Ok-clause-part : goal.returns-in-Ok-clause-part
returns-in-Ok-clause-part g c =
    put_part g.T.OutputFile.stage g.T.OutputFile.received c.args.bytes.now c.args.file.now c.write.new.self c.sync_and_replace.new.file c.in-Ok.ensures c.sync_and_replace.result c.sync_and_replace.ensures.part
