use Rattle.bcs_registry_model.proofs.Prelude.{◌≡◌, drop, list_all, keeps, entries_of, formats}
use Rattle.bcs_registry_model.proofs.rule.all_keep.Given as goal

abbrev pub invariant-loop-entry : goal.invariant-loop-entry
invariant-loop-entry l =
    list_all (keeps l.rule (entries_of l.containers.entries.items)) (formats (entries_of l.containers.entries.items))
    ≡ list_all (keeps l.rule (entries_of l.containers.entries.items)) (formats (entries_of (drop l.entry-index l.entries)))
