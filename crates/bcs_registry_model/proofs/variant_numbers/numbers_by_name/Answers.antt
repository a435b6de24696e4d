use Rattle.bcs_registry_model.proofs.Prelude.{◌≡◌, ◌∷◌, ◌+◌, ◌∙◌, ap, arith, drop, drop_more, sym, subst, number_called, container_of}
use Rattle.bcs_registry_model.proofs.Rising.{Stored}
use Rattle.bcs_registry_model.proofs.Gathering.{AreGathered, begun, enum_put, no_number, other_passed, all_gathered, dropped}
use Rattle.bcs_registry_model.proofs.variant_numbers.numbers_by_name.Goals.{in-Enum+in_ok-numbers+in_ok-clone+in_ok-insert, in_default}
use Rattle.bcs_registry_model.proofs.variant_numbers.numbers_by_name.Goals as goal

pub loop-name-init : goal.loop-name-init
loop-name-init c = begun c.args.containers.now.entries.items c.entries-entries.result.now c.new-by_enum.result c.new-by_enum.ensures.empty c.entries-entries.ensures.is c.entries-entries.ensures.rise

pub loop-name-preserved : goal.loop-name-preserved
loop-name-preserved c =
    let all = c.args.containers.now.entries.items in
    let es = c.entries-entries.result.now in
    let i = c.loop-name.name-index in
    let e : Stored = c.loop-name-item.result in
    let left = drop (i + 1) es in
    let step : drop i es ≡ e ∷ left = drop_more es i e (omega (arith, c.loop-name-test.true)) ∙ ap (λ x. x ∷ left) (sym c.loop-name-item.is) in
    elim c.match-container.branch [
      | in-Enum+in_ok-numbers+in_ok-clone+in_ok-insert w ↦ subst (AreGathered all left) (sym w.by_enum-is)
          (enum_put all (drop i es) left c.loop-name.by_enum w.insert.new.self e w.in_ok-clone.field-0 w.in_ok-numbers.numbers step w.in_ok-clone.ensures.cases
          (λ word. w.in_ok-numbers.ensures word ∙ ap (λ d. number_called word (container_of d)) (sym w.in-Enum.is)) w.in_ok-insert.ensures.updates c.loop-name.invariant)
      | in_default w ↦ subst (AreGathered all left) (sym w.by_enum-is) (other_passed all (drop i es) left c.loop-name.by_enum e step (no_number e.1 w.in_default.not-Enum) c.loop-name.invariant)
    ]

pub returns : goal.returns
returns c = all_gathered c.args.containers.now.entries.items (drop c.loop-name.name-index c.entries-entries.result.now) c.loop-name.by_enum (dropped c.loop-name.name-index c.entries-entries.result.now (omega (arith, c.loop-name-test.false))) c.loop-name.invariant
