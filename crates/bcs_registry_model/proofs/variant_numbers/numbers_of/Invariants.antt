use Rattle.bcs_registry_model.proofs.Prelude.{◌≡◌, ℕ, List}
use Rattle.bcs_registry_model.proofs.Gathering.{number_among, number_joined}
use Rattle.bcs_registry_model.proofs.variant_numbers.numbers_of.Given as goal

-- the map and the remaining variants together give the same number as all variants
abbrev pub invariant-loop-number : goal.invariant-loop-number
invariant-loop-number l = (word : List ℕ) → number_joined l.numbers l.number-iterator word ≡ number_among word l.variants.entries
