-- The members of an object by the indices of its fields.
use Rattle.bcs_json_printer.proofs.Prelude.{◌≡◌, ◌∙◌, ◌<◌, ◌+◌, ℕ, zero, suc, List, [], ◌∷◌, length, get_or, drop, map, Bor, Ordering, Less, Equal, Greater, nat_cmp, slice_cmp, refl, ap, arith, insert_entry, match_ordering, Data, null, put, Entries, shape_of, field_of, Format, Named, tree_of, items_trees, Value, of, shown, shown_fields, name_of, placed, put_from}
use Rattle.bcs_json_printer.proofs.PrintedRows.{left_at}

abbrev Entry : Type 0
Entry = Bor (List ℕ) × ℕ

abbrev pub by_text : Bor (List ℕ) → Bor (List ℕ) → Ordering
by_text a b = slice_cmp nat_cmp a.now b.now

placed-match_ordering : (at : ℕ → Data) (o : Ordering) (a b c : List Entry) → placed at (match_ordering o a b c) ≡ match_ordering o (placed at a) (placed at b) (placed at c)
placed-match_ordering at Less a b c = refl
placed-match_ordering at Equal a b c = refl
placed-match_ordering at Greater a b c = refl

pub placed-insert_entry : (at : ℕ → Data) (es : List Entry) (k : Bor (List ℕ)) (n : ℕ) → placed at (insert_entry by_text es k n) ≡ put k.now (at n) (placed at es)
placed-insert_entry at [] k n = refl
placed-insert_entry at (e ∷ es) k n = placed-match_ordering at (by_text k e.0) _ _ _ ∙ rw (placed-insert_entry at es k n)

-- one field before those that have an index
pub put_from_more : (at : ℕ → Data) (fs : List (Named Format)) (n : ℕ) (f : Named Format) → n < length fs → f ≡ get_or fs n f
    → put (name_of f) (at n) (put_from at (n + 1) (map name_of (drop (n + 1) fs))) ≡ put_from at n (map name_of (drop n fs))
put_from_more at fs n f h e =
    let here = left_at fs n f h e in
    rw here (ap (λ m. put (name_of f) (at n) (put_from at m (map name_of (drop (n + 1) fs)))) (omega arith))

-- the JSON at an index
abbrev pub shown_at : Entries → List Value → List (Named Format) → ℕ → Data
shown_at r [] fs n = null
shown_at r (x ∷ xs) [] n = null
shown_at r (x ∷ xs) (f ∷ fs) zero = shown r (tree_of x) (of (shape_of f.value))
shown_at r (x ∷ xs) (f ∷ fs) (suc n) = shown_at r xs fs n

pub shown_at-is : (r : Entries) (xs : List Value) (fs : List (Named Format)) (n : ℕ) (x : Value) (f : Named Format) → n < length xs → n < length fs → x ≡ get_or xs n x → f ≡ get_or fs n f
    → shown_at r xs fs n ≡ shown r (tree_of x) (of (shape_of f.value))
shown_at-is r [] fs n x f h g is found = absurd (omega arith)
shown_at-is r (y ∷ xs) [] n x f h g is found = absurd (omega arith)
shown_at-is r (y ∷ xs) (e ∷ fs) zero x f h g is found = rw (is, found) refl
shown_at-is r (y ∷ xs) (e ∷ fs) (suc n) x f h g is found = shown_at-is r xs fs n x f (omega arith) (omega arith) is found

put_from-shift : (at later : ℕ → Data) → ((n : ℕ) → at (suc n) ≡ later n) → (n : ℕ) (ks : List (List ℕ)) → put_from at (suc n) ks ≡ put_from later n ks
put_from-shift at later same n [] = refl
put_from-shift at later same n (k ∷ ks) = rw (same n, put_from-shift at later same (suc n) ks) refl

-- the fields of a struct, inserted by their indices
pub shown_fields-places : (r : Entries) (xs : List Value) (fs : List (Named Format)) → length xs ≡ length fs
    → put_from (shown_at r xs fs) 0 (map name_of fs) ≡ shown_fields r (items_trees xs) (map field_of fs)
shown_fields-places r [] [] h = refl
shown_fields-places r [] (f ∷ fs) h = absurd (omega arith)
shown_fields-places r (x ∷ xs) [] h = absurd (omega arith)
shown_fields-places r (x ∷ xs) (f ∷ fs) h =
    ap (put (name_of f) (shown r (tree_of x) (of (shape_of f.value))))
    (put_from-shift (shown_at r (x ∷ xs) (f ∷ fs)) (shown_at r xs fs) (λ n. refl) 0 (map name_of fs) ∙ shown_fields-places r xs fs (omega arith))
