use Rattle.bcs_encode_impl.proofs.Prelude.{◌≡◌, ◌-◌, ◌∙◌, List, ℕ, Ok, ap, ap₂, sym, arith, take, drop, length, length-drop, map, take_all, IsPermutation-refl, lone_key_at, keys_rise, Span, true≢false, is_told, verdict_at, Extent}
use Rattle.bcs_encode_impl.proofs.EntryArranging.{keys_rise_up}
use Rattle.bcs_encode_impl.proofs.LayingLaws.{ordered_written}
use Rattle.bcs_encode_impl.proofs.output.Output.end_map.Goals as goal

pub returns-then-rise-clause-sorted : goal.returns-then-rise-clause-sorted
returns-then-rise-clause-sorted c = λ sorting _.
    let w = c.args.self.now in
    let m = c.deref.result.now in
    let zs = drop c.args.first w.spans.items in
    let spans : take (length m - c.args.first) (drop c.args.first m) ≡ zs =
    take_all (length m - c.args.first) (drop c.args.first m) (omega (arith, length-drop c.args.first m)) ∙ ap (drop c.args.first) c.deref.ensures.value in
    let ordered = ordered_written w.bytes.items (take c.args.start w.bytes.items) zs zs (IsPermutation-refl zs)
    (keys_rise_up (map (lone_key_at w.bytes.items) zs)
    (ap₂ (λ (x : List ℕ) (ys : List Span). keys_rise (map (lone_key_at x) ys)) (sym c.as_slice.ensures) (sym spans) ∙ sym c.rise.ensures ∙ c.if-rise.true)) in
    (ap (λ (x : Extent). verdict_at x w.bytes.items) sorting ∙ sym (ordered ∙ ap (λ (b : List ℕ). Ok b) (c.requires.laid sorting)), λ _. (sorting, c.truncate.ensures.items))

pub returns-then-rise-clause-full : goal.returns-then-rise-clause-full
returns-then-rise-clause-full c = λ sorting untold. absurd (true≢false (sym (ap is_told sorting) ∙ untold))
