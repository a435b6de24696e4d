-- What it means that a variant fits.
use Rattle.bcs_value_model.proofs.Prelude.{◌≡◌, ℕ, ◌<◌, ◌^◌, nat_lt, Bool, true, List, and_parts, ltb-true, Entries, Choice, one_of, choice_at, Tree, variant, fits}

module _ (loose : Bool) (r : Entries) (n : ℕ) (t : Tree) (cs : List Choice) (h : fits loose r (variant n t) (one_of cs) ≡ true) where
  pub number_fits : n < 2 ^ 32
  number_fits = ltb-true n (2 ^ 32) (and_parts (nat_lt n (2 ^ 32)) (fits loose r t (choice_at n cs)) h).0

  pub payload_fits : fits loose r t (choice_at n cs) ≡ true
  payload_fits = (and_parts (nat_lt n (2 ^ 32)) (fits loose r t (choice_at n cs)) h).1
