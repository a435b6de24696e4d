use Rattle.bcs_encode_impl.proofs.Prelude.{rules, entry_of}
use Rattle.bcs_encode_impl.proofs.SortedEntries.{repeated_written, distinct_written}
use Rattle.bcs_encode_impl.proofs.WritingViews.{reports_along}
use Rattle.bcs_encode_impl.proofs.by_entries.push_in_order.Goals as goal

pub returns-then-have_equal_neighbours : goal.returns-then-have_equal_neighbours
returns-then-have_equal_neighbours c _ =
    repeated_written entry_of c.args.entries.items c.sort_by_keys.new.entries.items c.args.out.now.items
    c.sort_by_keys.ensures.permutation c.sort_by_keys.ensures.sorted
    (search rules)

pub returns : goal.returns
returns c =
    reports_along c.push_entries.result _ _ c.push_entries.new.out.items
    (distinct_written entry_of c.args.entries.items c.sort_by_keys.new.entries.items c.args.out.now.items
    c.sort_by_keys.ensures.permutation c.sort_by_keys.ensures.sorted
    (search rules))
    (search rules)
