use Rattle.bcs_json_reader.proofs.Prelude.{view, items_view}
use Rattle.bcs_json_reader.proofs.Taken.{entry_of, no_entry}
use Rattle.bcs_json_reader.proofs.arrays.pair_of.Goals as goal

pub returns-clause-ok : goal.returns-clause-ok
returns-clause-ok c = entry_of (view c.args.entry) (items_view c.in_ok-array_of.field-0.items) c.in_ok-array_of.ensures.ok c.two_items.result c.two_items.ensures.ok

pub returns-clause-fault : goal.returns-clause-fault
returns-clause-fault c =
    no_entry (view c.args.entry) (items_view c.in_ok-array_of.field-0.items) c.in_ok-array_of.ensures.ok c.two_items.result c.two_items.ensures.other c.two_items.ensures.fault
