use Rattle.bcs_encode_impl.proofs.Prelude.{rules, sorted_by_bytes}
use Rattle.bcs_encode_impl.proofs.by_entries.sort_by_keys.Goals as goal

pub returns-clause-sorted : goal.returns-clause-sorted
returns-clause-sorted c = sorted_by_bytes (λ e. e.key.items) _ c.sort_unstable_by.ensures.sorted (λ a r q k. search rules)
