-- A member that was added is found by its name, and can be removed again.
use Rattle.bcs_json_spec.proofs.Prelude.{◌≡◌, ◌∙◌, ℕ, ◌≤◌, List, [], ◌∷◌, map, Some, None, true, false, true≢false, not, cond, bytes_eq, Ordering, Less, Equal, Greater, refl, ap, sym, subst, or_parts, not-true, is_eq-slice_cmp, slice_cmp, list_any, match_ordering, is_eq, Data, Members, no_members, member, put, depth, members_depth, get_member, get_member-put, get_member-put_other, Field, Entries, are_distinct, bytes-refl, Trees, no_trees, tree, of, without, shown, shown_fields}
use Rattle.std.specs.Ordering.{nat_cmp}
use Rattle.bcs_json_spec.proofs.Fitting.{and_left, and_right}
use Rattle.bcs_json_spec.proofs.Lowest.{found_depth, without_depth}

without_put_at : (o : Ordering) (k l : List ℕ) (d e : Data) (ms : Members) → slice_cmp nat_cmp k l ≡ o → match_ordering o (get_member k ms) (Some e) (get_member k ms) ≡ None
    → (get_member k ms ≡ None → without k (put k d ms) ≡ ms)
    → without k (match_ordering o (member k d (member l e ms)) (member l d ms) (member l e (put k d ms))) ≡ member l e ms
without_put_at Less k l d e ms is absent later = ap (λ b. cond b (member l e ms) (member k d (without k (member l e ms)))) (bytes-refl k)
without_put_at Equal k l d e ms is absent later = cc
without_put_at Greater k l d e ms is absent later =
    let other : bytes_eq k l ≡ false = sym (is_eq-slice_cmp k l) ∙ ap is_eq is in
    ap (λ b. cond b (put k d ms) (member l e (without k (put k d ms)))) other ∙ ap (member l e) (later absent)

-- removing a member that was added with a new name
pub without_put : (k : List ℕ) (d : Data) (ms : Members) → get_member k ms ≡ None → without k (put k d ms) ≡ ms
without_put k d no_members absent = ap (λ b. cond b no_members (member k d no_members)) (bytes-refl k)
without_put k d (member l e ms) absent = without_put_at (slice_cmp nat_cmp k l) k l d e ms refl absent (without_put k d ms)

-- the added member nests no deeper than all of them
pub put_own_depth : (k : List ℕ) (d : Data) (ms : Members) → depth d ≤ members_depth (put k d ms)
put_own_depth k d ms = found_depth k d (put k d ms) (get_member-put k d ms)

-- and neither do those that were there before
pub put_others_depth : (k : List ℕ) (d : Data) (ms : Members) → get_member k ms ≡ None → members_depth ms ≤ members_depth (put k d ms)
put_others_depth k d ms absent = subst (λ ns. members_depth ns ≤ members_depth (put k d ms)) (without_put k d ms absent) (without_depth k (put k d ms))

-- ---- a struct's members

apart : (k l : List ℕ) → bytes_eq k l ≡ false → k ≡ l → ⊥
apart k l h e = true≢false (sym (ap (bytes_eq k) (sym e) ∙ bytes-refl k) ∙ h)

module _ (registry : Entries) where
  new_at : (k : List ℕ) (ts : Trees) (fs : List Field) → list_any (bytes_eq k) (map (λ f. f.0) fs) ≡ false → get_member k (shown_fields registry ts fs) ≡ None
  new_at k (tree t ts) (f ∷ fs) h =
      let parts = or_parts (bytes_eq k f.0) (list_any (bytes_eq k) (map (λ g. g.0) fs)) h in
      get_member-put_other k f.0 (shown registry t (of f.1)) (shown_fields registry ts fs) (apart k f.0 parts.0) ∙ new_at k ts fs parts.1
  new_at k no_trees fs h = refl
  new_at k (tree t ts) [] h = refl

  -- no later field has the name of the first
  pub new_field : (f : Field) (ts : Trees) (fs : List Field) → are_distinct (map (λ g. g.0) (f ∷ fs)) ≡ true → get_member f.0 (shown_fields registry ts fs) ≡ None
  new_field f ts fs h = new_at f.0 ts fs (not-true (list_any (bytes_eq f.0) (map (λ g. g.0) fs)) (and_left _ _ h))

-- the names of the later fields differ too
pub later_names : (f : Field) (fs : List Field) → are_distinct (map (λ g. g.0) (f ∷ fs)) ≡ true → are_distinct (map (λ g. g.0) fs) ≡ true
later_names f fs h = and_right (not (list_any (bytes_eq f.0) (map (λ g. g.0) fs))) _ h
