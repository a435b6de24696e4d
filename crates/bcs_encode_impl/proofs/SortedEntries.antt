-- What is written for entries that are sorted by their encoded keys.
use Rattle.bcs_encode_impl.proofs.Prelude.{◌≡◌, ℕ, true, false, List, ◌++◌, map, sym, ◌∙◌, inl, inr, Ok, Err, flat_map, IsPermutation, IsSortedByKey, nat_cmp, slice_cmp, true≢false, IsPermutation-map, Entry, entry_bytes, RepeatedKey, rise_or_equal_neighbours, has_equal_neighbours, sorted_entries_written, rising_no_equal_neighbours, equal_neighbours_found}
use Rattle.bcs_encode_impl.proofs.EntryArranging.{sorted_written, equal_neighbours_written}

module _ {X : Type 0} (entry : X → Entry) (xs ys : List X) (b : List ℕ) (p : IsPermutation xs ys) (up : IsSortedByKey (λ x. (entry x).0) (slice_cmp nat_cmp) ys) where
  entries_move : IsPermutation (map entry xs) (map entry ys)
  entries_move = IsPermutation-map entry xs ys p

  -- two neighbours have equal keys
  pub repeated_written : has_equal_neighbours (map entry ys) ≡ true → sorted_entries_written (map entry xs) b ≡ Err RepeatedKey
  repeated_written h = elim (rise_or_equal_neighbours entry ys up) [
    | inl rises ↦ absurd (true≢false (sym h ∙ rising_no_equal_neighbours (map entry ys) rises))
    | inr equal_neighbours ↦ equal_neighbours_written (map entry xs) (map entry ys) b entries_move equal_neighbours
  ]

  -- no neighbours have equal keys
  pub distinct_written : has_equal_neighbours (map entry ys) ≡ false → sorted_entries_written (map entry xs) b ≡ Ok (b ++ flat_map entry_bytes (map entry ys))
  distinct_written h = elim (rise_or_equal_neighbours entry ys up) [
    | inl rises ↦ sorted_written (map entry xs) (map entry ys) b entries_move rises
    | inr equal_neighbours ↦ absurd (true≢false (sym (equal_neighbours_found (map entry ys) equal_neighbours) ∙ h))
  ]
