use Rattle.bcs_registry_model.proofs.Prelude.{◌≡◌, drop, entries_of, names_differ}
use Rattle.bcs_registry_model.proofs.distinct.have_distinct_names.Given as goal

abbrev pub invariant-loop-entry : goal.invariant-loop-entry
invariant-loop-entry l = names_differ (entries_of l.containers.entries.items) ≡ names_differ (entries_of (drop l.entry-index l.entries))
