use Rattle.bcs_registry_model.proofs.Prelude.{◌≡◌, drop, growth_fault, entries_of}
use Rattle.bcs_registry_model.proofs.growth.containers_grow.Given as goal

abbrev pub invariant-loop-entry : goal.invariant-loop-entry
invariant-loop-entry l = growth_fault (entries_of l.older.entries.items) (entries_of l.newer.entries.items) ≡ growth_fault (entries_of (drop l.entry-index l.entries)) (entries_of l.newer.entries.items)
