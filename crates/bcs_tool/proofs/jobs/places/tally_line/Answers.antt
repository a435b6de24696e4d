use Rattle.bcs_tool.proofs.Prelude.{refl}
use Rattle.bcs_tool.proofs.jobs.places.tally_line.Goals as goal

pub returns : goal.returns
returns c =
    rw c.in_ok-put_count-3.ensures (rw c.in_ok-put_count-2.ensures (rw c.in_ok-put_count.ensures (rw c.new-line.ensures.items (rw c.from.ensures (rw c.from-2.ensures (rw c.from-3.ensures refl))))))
