use Rattle.bcs_decode_parts.proofs.Prelude.{◌≡◌, split_steps, FindsChar, all_spelled}
use Rattle.bcs_decode_parts.proofs.PathReading.{IsRead}
use Rattle.bcs_decode_parts.proofs.reading.read_path.Given as goal

abbrev pub invariant-loop-text : goal.invariant-loop-text
invariant-loop-text l =
    (goal.iterator-loop-text).can_next l.text-iterator ×
    (goal.iterator-loop-text).is_finite l.text-iterator ×
    IsRead (split_steps FindsChar (λ a b. b ≡ a)) (λ x. x.now) l.fn.word l.text-iterator (all_spelled l.path.items)
