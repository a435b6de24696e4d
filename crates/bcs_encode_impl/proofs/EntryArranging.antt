-- Sorting entries by their encoded keys gives the same as inserting them in order, one by one.
use Rattle.bcs_encode_impl.proofs.Prelude.{◌≡◌, ℕ, true, false, List, [], ◌∷◌, ◌++◌, refl, arith, inl, inr, ◌⊎◌, Ok, Err, flat_map, IsPermutation, cases_Bool, and_parts, IsPermutation-refl, IsPermutation-sym, IsPermutation-trans, IsPermutation-cons, IsPermutation-swap, rising_no_equal_neighbours, equal_neighbours_found, Below, Keyed, Entry, entry_bytes, EntriesRiseFrom, EntriesRise, HasEqualNeighbours, is_below, keys_rise, insert_in_order, in_order, sorted_entries_written, RepeatedKey, order, not_below, Below-is_lt, rising_once, equal_neighbours_twice, once_moved, moved, rising_alike}

abbrev AtMost : List ℕ → List ℕ → Type 0
AtMost a b = (a ≡ b) ⊎ Below a b

module _ {V : Type 0} where
  -- ---- they are the same entries

  move_front : (e d : Keyed V) (ds es : List (Keyed V)) → IsPermutation (e ∷ ds) es → IsPermutation (e ∷ (d ∷ ds)) (d ∷ es)
  move_front e d ds es h =
      IsPermutation-trans (e ∷ (d ∷ ds)) (d ∷ (e ∷ ds)) (d ∷ es)
      (IsPermutation-swap (e ∷ (d ∷ ds)) (d ∷ (e ∷ ds)) 0 1 (omega arith) (omega arith) refl)
      (IsPermutation-cons d (e ∷ ds) es h)

  insert_moves : (e : Keyed V) (ds : List (Keyed V)) → IsPermutation (e ∷ ds) (insert_in_order e ds)
  insert_moves e [] = IsPermutation-refl (e ∷ [])
  insert_moves e (d ∷ ds) = elim (cases_Bool (is_below d.0 e.0)) [
    | inl is ↦ rw is (move_front e d ds (insert_in_order e ds) (insert_moves e ds))
    | inr isnt ↦ rw isnt (IsPermutation-refl (e ∷ (d ∷ ds)))
  ]

  pub in_order_moves : (es : List (Keyed V)) → IsPermutation es (in_order es)
  in_order_moves [] = IsPermutation-refl []
  in_order_moves (e ∷ es) =
      IsPermutation-trans (e ∷ es) (e ∷ in_order es) (insert_in_order e (in_order es))
      (IsPermutation-cons e es (in_order es) (in_order_moves es)) (insert_moves e (in_order es))

  -- ---- the keys ascend, or two neighbours have equal keys

  abbrev AscendsFrom : List ℕ → List (Keyed V) → Type 0
  AscendsFrom b [] = Unit {0}
  AscendsFrom b (e ∷ es) = AtMost b e.0 × AscendsFrom e.0 es

  abbrev Ascends : List (Keyed V) → Type 0
  Ascends [] = Unit {0}
  Ascends (e ∷ es) = AscendsFrom e.0 es

  at_most : (e d : Keyed V) → is_below d.0 e.0 ≡ false → AtMost e.0 d.0
  at_most e d isnt = elim (order e.0 d.0) [
    | inl same ↦ inl same
    | inr (inl lt) ↦ inr lt
    | inr (inr gt) ↦ absurd (not_below d.0 e.0 isnt gt)
  ]

  insert_ascends_from : (b : List ℕ) (e : Keyed V) (ds : List (Keyed V)) → AtMost b e.0 → AscendsFrom b ds → AscendsFrom b (insert_in_order e ds)
  insert_ascends_from b e [] low h = (low, tt)
  insert_ascends_from b e (d ∷ ds) low h = elim (cases_Bool (is_below d.0 e.0)) [
    | inl is ↦ rw is (h.0, insert_ascends_from d.0 e ds (inr ((Below-is_lt d.0 e.0).0 is)) h.1)
    | inr isnt ↦ rw isnt (low, (at_most e d isnt, h.1))
  ]

  insert_ascends : (e : Keyed V) (ds : List (Keyed V)) → Ascends ds → Ascends (insert_in_order e ds)
  insert_ascends e [] h = tt
  insert_ascends e (d ∷ ds) h = elim (cases_Bool (is_below d.0 e.0)) [
    | inl is ↦ rw is (insert_ascends_from d.0 e ds (inr ((Below-is_lt d.0 e.0).0 is)) h)
    | inr isnt ↦ rw isnt (at_most e d isnt, h)
  ]

  in_order_ascends : (es : List (Keyed V)) → Ascends (in_order es)
  in_order_ascends [] = tt
  in_order_ascends (e ∷ es) = insert_ascends e (in_order es) (in_order_ascends es)

  rises_or_equal_neighbours_from : (e : Keyed V) (es : List (Keyed V)) → AscendsFrom e.0 es → EntriesRiseFrom e.0 es ⊎ HasEqualNeighbours (e ∷ es)
  rises_or_equal_neighbours_from e [] h = inl tt
  rises_or_equal_neighbours_from e (d ∷ es) h = elim (rises_or_equal_neighbours_from d es h.1) [
    | inr equal_neighbours ↦ inr (inr equal_neighbours)
    | inl up ↦ elim h.0 [ inl same ↦ inr (inl same) | inr lt ↦ inl (lt, up) ]
  ]

  rises_or_equal_neighbours : (es : List (Keyed V)) → Ascends es → EntriesRise es ⊎ HasEqualNeighbours es
  rises_or_equal_neighbours [] h = inl tt
  rises_or_equal_neighbours (e ∷ es) h = rises_or_equal_neighbours_from e es h

  pub in_order_rises_or_equal_neighbours : (es : List (Keyed V)) → EntriesRise (in_order es) ⊎ HasEqualNeighbours (in_order es)
  in_order_rises_or_equal_neighbours es = rises_or_equal_neighbours (in_order es) (in_order_ascends es)

  -- ---- any way of sorting by encoded keys gives the same

  pub sorted_in_order : (es rs : List (Keyed V)) → IsPermutation es rs → EntriesRise rs → in_order es ≡ rs
  sorted_in_order es rs p up = elim (in_order_rises_or_equal_neighbours es) [
    | inl rises ↦ rising_alike (in_order es) rs rises up
        (λ e m. moved rs es (IsPermutation-sym es rs p) e (moved es (in_order es) (in_order_moves es) e m))
        (λ e m. moved (in_order es) es (IsPermutation-sym es (in_order es) (in_order_moves es)) e (moved es rs p e m))
    | inr equal_neighbours ↦ absurd (equal_neighbours_twice (in_order es) equal_neighbours
        (once_moved (in_order es) es (IsPermutation-sym es (in_order es) (in_order_moves es)) (once_moved es rs p (rising_once rs up))))
  ]

-- ---- what is written for them

pub sorted_written : (es rs : List Entry) (b : List ℕ) → IsPermutation es rs → EntriesRise rs → sorted_entries_written es b ≡ Ok (b ++ flat_map entry_bytes rs)
unfolding sorted_entries_written
sorted_written es rs b p up = rw (sorted_in_order es rs p up, rising_no_equal_neighbours rs up) refl

pub equal_neighbours_written : (es rs : List Entry) (b : List ℕ) → IsPermutation es rs → HasEqualNeighbours rs → sorted_entries_written es b ≡ Err RepeatedKey
unfolding sorted_entries_written
equal_neighbours_written es rs b p equal_neighbours = elim (in_order_rises_or_equal_neighbours es) [
  | inr again ↦ rw (equal_neighbours_found (in_order es) again) refl
  | inl rises ↦ absurd (equal_neighbours_twice rs equal_neighbours
      (once_moved rs es (IsPermutation-sym es rs p) (once_moved es (in_order es) (in_order_moves es) (rising_once (in_order es) rises))))
]

-- ---- entries that already ascend

rise_from : (e : Entry) (es : List Entry) → keys_rise (e ∷ es) ≡ true → EntriesRiseFrom e.0 es
rise_from e [] h = tt
rise_from e (d ∷ es) h = let p = and_parts (is_below e.0 d.0) (keys_rise (d ∷ es)) h in ((Below-is_lt e.0 d.0).0 p.0, rise_from d es p.1)

pub keys_rise_up : (es : List Entry) → keys_rise es ≡ true → EntriesRise es
keys_rise_up [] h = tt
keys_rise_up (e ∷ es) h = rise_from e es h
