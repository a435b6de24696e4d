use Rattle.bcs_encode_impl.proofs.Prelude.{◌≡◌, ◌∙◌, ◌+◌, ◌<◌, ℕ, List, Bool, Ok, true, false, ap, length, length-append, map, subst, sym, rules, vec_capacity, vec_len, flat_map, entry_bytes, Ordered, span_entry}
use Rattle.bcs_encode_impl.proofs.LayingLaws.{moved_len, ordered_written, repeated_refused}
use Rattle.bcs_encode_impl.proofs.spans.push_in_order.Goals as goal

pub returns-then-not-sort-clause-sorted : goal.returns-then-not-sort-clause-sorted
returns-then-not-sort-clause-sorted c =
    let is : c.sort.result ≡ false = search rules in
    repeated_refused c.args.bytes.now c.args.out.now.items c.args.spans.now c.sort.new.spans c.sort.ensures.moved
    (subst (λ (x : Bool). Ordered x c.args.bytes.now c.sort.new.spans) is c.sort.ensures.order)

pub returns-in-Ok-clause-sorted : goal.returns-in-Ok-clause-sorted
returns-in-Ok-clause-sorted c =
    let is : c.sort.result ≡ true = search rules in
    ordered_written c.args.bytes.now c.args.out.now.items c.args.spans.now c.sort.new.spans c.sort.ensures.moved
    (subst (λ (x : Bool). Ordered x c.args.bytes.now c.sort.new.spans) is c.sort.ensures.order)
    ∙ ap (λ (b : List ℕ). Ok b) (sym c.in-Ok.ensures.appended)

pub returns-in-Ok-clause-len : goal.returns-in-Ok-clause-len
returns-in-Ok-clause-len c = λ _.
    ap length c.in-Ok.ensures.appended
    ∙ length-append c.args.out.now.items (flat_map entry_bytes (map (span_entry c.args.bytes.now) c.sort.new.spans))
    ∙ ap (λ (n : ℕ). length c.args.out.now.items + n) (moved_len c.args.bytes.now c.args.out.now.items c.args.spans.now c.sort.new.spans c.sort.ensures.moved)

pub returns-in-Err-clause-full : goal.returns-in-Err-clause-full
returns-in-Err-clause-full c =
    subst (λ (n : ℕ). vec_capacity c.args.out.now < vec_len c.args.out.now + n)
    (moved_len c.args.bytes.now c.args.out.now.items c.args.spans.now c.sort.new.spans c.sort.ensures.moved)
    c.in-Err.ensures.full
