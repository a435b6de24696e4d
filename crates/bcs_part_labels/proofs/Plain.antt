-- Names that aren't empty.
use Rattle.std.proofs.Common.{◌≡◌, ◌==◌, ◌∷◌, [], ℕ, List, false, true≢false, length, refl}
use Rattle.bcs_part_labels.specs.Labels.{are_plain, is_plain}

pub plain_some : (name : List ℕ) → (length name == 0) ≡ false → are_plain name ≡ is_plain name
plain_some [] some = absurd (true≢false some)
plain_some (c ∷ cs) some = refl
