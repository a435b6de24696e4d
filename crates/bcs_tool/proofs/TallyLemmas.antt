-- Counts of statuses, with one more of them.
use Rattle.bcs_tool.proofs.Prelude.{◌≡◌, ◌≤◌, ◌+◌, ◌++◌, ◌∙◌, ◌==◌, ℕ, suc, Bool, true, false, List, [], ◌∷◌, arith, if◌then◌else◌, length-append, max, bool_byte, count_of, count_of-snoc, count_of_within, greatest-snoc, IsTally, Tally}

by_bit : (b : Bool) (m : ℕ) → (if b then suc m else m) ≡ m + bool_byte b
by_bit true m = omega arith
by_bit false m = omega arith

one_more : (n : ℕ) (statuses : List ℕ) (status : ℕ) → count_of n (statuses ++ status ∷ []) ≡ count_of n statuses + bool_byte (status == n)
one_more n statuses status = count_of-snoc n statuses status ∙ by_bit (status == n) (count_of n statuses)

pub bit_within : (b : Bool) → bool_byte b ≤ 1
bit_within true = omega arith
bit_within false = omega arith

pub tally_more : (before after : Tally) (status : ℕ) → after.answered ≡ before.answered + 1 → after.done ≡ before.done + bool_byte (status == 0)
    → after.negative ≡ before.negative + bool_byte (status == 1) → after.refused ≡ before.refused + bool_byte (status == 2) → after.status ≡ max before.status status
    → (statuses : List ℕ) → IsTally before statuses → IsTally after (statuses ++ status ∷ [])
tally_more before after status answered done negative refused greater statuses counted = record {
  answered = omega (arith, answered, counted.answered, length-append statuses (status ∷ []));
  done = omega (arith, done, counted.done, one_more 0 statuses status);
  negative = omega (arith, negative, counted.negative, one_more 1 statuses status);
  refused = omega (arith, refused, counted.refused, one_more 2 statuses status);
  status = omega (arith, greater, counted.status, greatest-snoc statuses status);
}

-- each count leaves room for one more
pub count_room : (tally : Tally) (statuses : List ℕ) → IsTally tally statuses → (tally.done ≤ tally.answered) × (tally.negative ≤ tally.answered) × (tally.refused ≤ tally.answered)
count_room tally statuses counted = (
  omega (arith, counted.answered, counted.done, count_of_within 0 statuses),
  omega (arith, counted.answered, counted.negative, count_of_within 1 statuses),
  omega (arith, counted.answered, counted.refused, count_of_within 2 statuses),
)
