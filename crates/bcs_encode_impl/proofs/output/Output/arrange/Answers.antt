use Rattle.bcs_encode_impl.proofs.Prelude.{◌∙◌, ◌+◌, List, ℕ, ◌++◌, Ok, Err, ap, sym, refl, if◌then◌else◌, length, take, drop, true≢false, RepeatedKey, HeldBytes, is_told}
use Rattle.bcs_encode_impl.proofs.LayingLaws.{arranged}
use Rattle.bcs_encode_impl.proofs.OutputSteps.{chosen_behind}
use Rattle.bcs_encode_impl.proofs.output.Output.arrange.Goals as goal

pub put_back-requires : goal.put_back-requires
put_back-requires c = λ differ.
    ap (λ (n : ℕ). c.args.start + n) (c.in-Ok.ensures.len differ) ∙ c.requires.filled ∙ sym (ap (λ (h : HeldBytes). length h.items) c.lay_in_order.ensures.bytes)

pub returns-in-Ok-clause-sorted : goal.returns-in-Ok-clause-sorted
returns-in-Ok-clause-sorted c = λ _.
    let w = c.args.self.now in
    let zs = drop c.args.first w.spans.items in
    let front : List ℕ = take c.args.start w.bytes.items in
    let entries : List ℕ = c.lay_in_order.new.self.scratch.items in
    let differ = c.in-Ok.differ in (
      c.put_back.ensures.told
          ∙ ap (λ (h : HeldBytes). if differ then Ok (take c.args.start h.items ++ entries) else Err RepeatedKey) c.lay_in_order.ensures.bytes
          ∙ chosen_behind differ front entries
          ∙ sym (arranged front w.bytes.items w.bytes.items zs zs (if differ then Ok entries else Err RepeatedKey) refl refl c.in-Ok.ensures.sorted),
      λ whole. let k = c.put_back.ensures.kept whole in (k.0, k.1 ∙ c.in-Ok.ensures.spans),
    )

pub returns-in-Ok-clause-full : goal.returns-in-Ok-clause-full
returns-in-Ok-clause-full c = λ untold. absurd (true≢false (sym c.put_back.ensures.is_told ∙ untold))

pub returns-in-Err-clause-sorted : goal.returns-in-Err-clause-sorted
returns-in-Err-clause-sorted c = λ is. absurd (true≢false (sym is ∙ ap is_told c.give_up.ensures.extent))

pub returns-in-Err-clause-full : goal.returns-in-Err-clause-full
returns-in-Err-clause-full c = λ _. c.in-Err.ensures.full
