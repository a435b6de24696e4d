use Rattle.bcs_value.proofs.Prelude.{◌≡◌, true, sym, ◌∙◌, rules, and_from, at_drop_all, is_within, entries_pairs, the_lemmas}
use Rattle.bcs_value.proofs.Classes.{within_full}
use Rattle.bcs_value.proofs.SameByViews.{all_same-unlike, is_within-step, same-Pairs}
use Rattle.bcs_value.proofs.sameness.+same.Goals as goal

pub all_same-returns-then-xs-ys : goal.all_same-returns-then-xs-ys
all_same-returns-then-xs-ys t c = sym (all_same-unlike _ _ c.if-xs-ys.true)

pub same-returns-in-Pairs-Pairs : goal.same-returns-in-Pairs-Pairs
same-returns-in-Pairs-Pairs t c =
    c.same_pairs.ensures
    ∙ same-Pairs _ _ _ _ _ _ c.in-Pairs-Pairs.is-0 c.in-Pairs-Pairs.is-1 c.deref-in-Pairs-Pairs.ensures.value c.deref-in-Pairs-Pairs-2.ensures.value

pub same_pairs-loop-pair-preserved : goal.same_pairs-loop-pair-preserved
same_pairs-loop-pair-preserved t c =
    c.loop-pair.invariant ∙ is_within-step _ _ _ _ c.loop-pair-test.true c.pair-item.is (sym c.if-not-is_among.ensures)

pub same_pairs-returns-then-not-has_repeated_entries : goal.same_pairs-returns-then-not-has_repeated_entries
same_pairs-returns-then-not-has_repeated_entries t c =
    let w : is_within (entries_pairs c.args.xs.now) (entries_pairs c.args.ys.now) ≡ true =
    c.loop-pair.invariant ∙ at_drop_all (λ zs. is_within (entries_pairs zs) (entries_pairs c.args.ys.now)) c.args.xs.now c.loop-pair.pair-index c.loop-pair-test.false in
    sym (and_from _ _ w (within_full _ _ c.if-xs-ys.true (sym c.has_repeated_entries.ensures ∙ c.if-not-has_repeated_entries.true) w))

pub same-returns-in-Named-Named : goal.same-returns-in-Named-Named
same-returns-in-Named-Named t c = search (rules, the_lemmas)
