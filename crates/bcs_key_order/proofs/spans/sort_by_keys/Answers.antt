use Rattle.std.proofs.Common.{rules}
use Rattle.bcs_key_order.specs.Spans.{part}
use Rattle.bcs_encode_spec.proofs.Sorting.{sorted_by_bytes}
use Rattle.bcs_key_order.proofs.spans.sort_by_keys.Goals as goal

pub returns-clause-sorted : goal.returns-clause-sorted
returns-clause-sorted c = sorted_by_bytes (λ s. part c.args.bytes.now s.start s.end) _ c.sort_unstable_by.ensures.sorted (λ a r q k. search rules)

pub returns-clause-permutation : goal.returns-clause-permutation
returns-clause-permutation c = search rules
