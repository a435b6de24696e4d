use Rattle.bcs_tool.specs.Delivering.{unopened, unstored}
use Rattle.bcs_tool.proofs.StoringLemmas.{stored_stage, unstored_stage}
use Rattle.bcs_tool.proofs.files.delivering.write_file.Goals as goal

-- FILE couldn't be opened
pub returns-in-Err-clause-fault : goal.returns-in-Err-clause-fault
returns-in-Err-clause-fault g c = unopened c.in-Err.ensures c.in-Err.why c.unopened.ensures

-- it was written
pub returns-in-Ok-clause-whole : goal.returns-in-Ok-clause-whole
returns-in-Ok-clause-whole g c =
    record {
      empty = c.open.new.self;
      opened = c.in_default.ensures;
      appended = c.in-Ok.ensures.all.appended;
      last = stored_stage _ _ _ c.in_default.ensures.opened c.in-Ok.ensures.all.next;
    }

-- it couldn't be written or replaced
pub returns-in-Err-write_and_commit-clause-fault : goal.returns-in-Err-write_and_commit-clause-fault
returns-in-Err-write_and_commit-clause-fault g c =
    let part = c.in-Err-write_and_commit.ensures.part in
    unstored (record {
      empty = c.open.new.self;
      opened = c.in_default.ensures;
      n = part.n;
      appended = part.appended;
      last = unstored_stage _ _ _ c.in_default.ensures.opened part.next;
    }) c.in-Err-write_and_commit.cause c.unwritten.ensures
