-- How deep the members of a struct nest, field by field.
use Rattle.bcs_json_printer.proofs.Prelude.{◌≡◌, ◌≤◌, ◌∙◌, ◌<◌, ◌+◌, ℕ, max, nat_le, List, ◌∷◌, length, get_or, drop, map, None, true, ◌&&◌, sym, ap, arith, max-le, and_parts, common_steps, Data, Members, put, depth, members_depth, get_member, Field, Entries, shape_of, field_of, are_distinct, Format, Named, Tree, Trees, tree, tree_of, items_trees, Value, of, shown, shown_fields, put_depth, new_field, put_own_depth, put_others_depth}
use Rattle.bcs_json_printer.proofs.PrintedRows.{left_at}

abbrev pub names : List Field → List (List ℕ)
names fs = map (λ f. f.0) fs

-- a member with a new name nests beside the others
put_new : (k : List ℕ) (d : Data) (ms : Members) → get_member k ms ≡ None → members_depth (put k d ms) ≡ max (depth d) (members_depth ms)
put_new k d ms h =
    let beside : max (depth d) (members_depth ms) ≤ members_depth (put k d ms) = max-le (put_own_depth k d ms) (put_others_depth k d ms h) in
    omega (arith, beside, put_depth k d ms)

pub le_zero : (n : ℕ) → true ≡ nat_le 0 n
le_zero n = grind (arith, common_steps)

module _ (registry : Entries) where
  both_within : (a b n : ℕ) → nat_le (max a b) n ≡ (nat_le a n && nat_le b n)
  both_within a b n = grind (arith, common_steps)

  first_field : (t : Tree) (ts : Trees) (f : Field) (fs : List Field) (limit : ℕ) → are_distinct (names (f ∷ fs)) ≡ true
      → nat_le (members_depth (shown_fields registry (tree t ts) (f ∷ fs))) limit ≡ (nat_le (depth (shown registry t (of f.1))) limit && nat_le (members_depth (shown_fields registry ts fs)) limit)
  first_field t ts f fs limit h =
      ap (λ n. nat_le n limit) (put_new f.0 (shown registry t (of f.1)) (shown_fields registry ts fs) (new_field registry f ts fs h)) ∙ both_within _ _ _

  -- one of the remaining fields
  pub field_more : (xs : List Value) (fs : List (Named Format)) (i : ℕ) (x : Value) (f : Named Format) (limit : ℕ) → i < length xs → i < length fs → x ≡ get_or xs i x → f ≡ get_or fs i f
      → are_distinct (names (map field_of (drop i fs))) ≡ true
      → nat_le (members_depth (shown_fields registry (items_trees (drop i xs)) (map field_of (drop i fs)))) limit
      ≡ (nat_le (depth (shown registry (tree_of x) (of (shape_of f.value)))) limit
      && nat_le (members_depth (shown_fields registry (items_trees (drop (i + 1) xs)) (map field_of (drop (i + 1) fs)))) limit)
  field_more xs fs i x f limit h g is found distinct =
      let here = left_at xs i x h is in
      let there = left_at fs i f g found in
      rw (here, there) (first_field (tree_of x) (items_trees (drop (i + 1) xs)) (field_of f) (map field_of (drop (i + 1) fs)) limit (ap (λ ys. are_distinct (names (map field_of ys))) (sym there) ∙ distinct))

pub distinct_more : (fs : List (Named Format)) (i : ℕ) (f : Named Format) → i < length fs → f ≡ get_or fs i f → are_distinct (names (map field_of (drop i fs))) ≡ true → are_distinct (names (map field_of (drop (i + 1) fs))) ≡ true
distinct_more fs i f g found distinct =
    let there = left_at fs i f g found in
    (and_parts _ _ (ap (λ ys. are_distinct (names (map field_of ys))) (sym there) ∙ distinct)).1
