-- Lists that are sent one part after another.
use Rattle.bcs_json_printer.proofs.Prelude.{◌≡◌, ◌<◌, ◌≤◌, ◌-◌, max, common_steps, array, depth, items_depth, members_depth, Members, object, ℕ, zero, suc, List, [], ◌∷◌, length, get_or, map, true, false, true≢false, Bor, refl, sym, ap, arith, subst, and_parts, All, values_of, Data, items_len, members_len, Entries, field_shapes, at_format, Shape, field_of, formats_shapes, shape_of, Format, Named, each_fits, fits, nodes, pairs_nodes, trees_nodes, entries_pairs, items_trees, tree_of, Value, shown_all, shown_each, shown_pairs, placed}
use Rattle.serde_json.specs.Data.{Items}

-- a part of a list has at most as many nodes as the list
pub part_nodes : (xs : List Value) (i : ℕ) (x : Value) → i < length xs → x ≡ get_or xs i x → nodes (tree_of x) ≤ trees_nodes (items_trees xs)
part_nodes [] i x h is = absurd (omega arith)
part_nodes (y ∷ xs) zero x h is = let own = ap (λ (v : Value). nodes (tree_of v)) is in omega (arith, own)
part_nodes (y ∷ xs) (suc i) x h is = omega (arith, part_nodes xs i x (omega arith) is)

pub entry_nodes : (ps : List (Value × Value)) (i : ℕ) (p : Value × Value) → i < length ps → p ≡ get_or ps i p
    → (nodes (tree_of p.0) ≤ pairs_nodes (entries_pairs ps)) × (nodes (tree_of p.1) ≤ pairs_nodes (entries_pairs ps))
entry_nodes [] i p h is = absurd (omega arith)
entry_nodes (q ∷ ps) zero p h is =
    let key = ap (λ (e : Value × Value). nodes (tree_of e.0)) is in
    let value = ap (λ (e : Value × Value). nodes (tree_of e.1)) is in
    (omega (arith, key), omega (arith, value))
entry_nodes (q ∷ ps) (suc i) p h is = let rest = entry_nodes ps i p (omega arith) is in (omega (arith, rest.0), omega (arith, rest.1))

-- the number of parts in the JSON of a list
pub all_len : (r : Entries) (xs : List Value) (s : Shape) → items_len (shown_all r (items_trees xs) s) ≡ length xs
all_len r [] s = refl
all_len r (x ∷ xs) s = ap suc (all_len r xs s)

pub each_len : (r : Entries) (xs : List Value) (fs : List Format) → each_fits false r (items_trees xs) (formats_shapes fs) ≡ true → items_len (shown_each r (items_trees xs) (formats_shapes fs)) ≡ length xs
each_len r [] [] h = refl
each_len r [] (f ∷ fs) h = absurd (true≢false (sym h))
each_len r (x ∷ xs) [] h = absurd (true≢false (sym h))
each_len r (x ∷ xs) (f ∷ fs) h = ap suc (each_len r xs fs (and_parts _ _ h).1)

pub pairs_len : (r : Entries) (ps : List (Value × Value)) (k v : Shape) → items_len (shown_pairs r (entries_pairs ps) k v) ≡ length ps
pairs_len r [] k v = refl
pairs_len r (p ∷ ps) k v = ap suc (pairs_len r ps k v)

pub placed_len : (at : ℕ → Data) (es : List (Bor (List ℕ) × ℕ)) → members_len (placed at es) ≡ length es
placed_len at [] = refl
placed_len at (e ∷ es) = ap suc (placed_len at es)

module _ (r : Entries) where
  -- the value of a field has the format of the field
  pub field_fits : (xs : List Value) (fs : List (Named Format)) (n : ℕ) (x : Value) (f : Named Format) → n < length xs → n < length fs → x ≡ get_or xs n x → f ≡ get_or fs n f
      → each_fits false r (items_trees xs) (field_shapes (map field_of fs)) ≡ true → fits false r (tree_of x) (at_format (shape_of f.value)) ≡ true
  field_fits [] fs n x f h g is found fit = absurd (omega arith)
  field_fits (y ∷ xs) [] n x f h g is found fit = absurd (omega arith)
  field_fits (y ∷ xs) (e ∷ fs) zero x f h g is found fit = rw (is, found) ((and_parts _ _ fit).0)
  field_fits (y ∷ xs) (e ∷ fs) (suc n) x f h g is found fit = field_fits xs fs n x f (omega arith) (omega arith) is found (and_parts _ _ fit).1

-- the next index, and those after it
pub next_within : (es : List (Bor (List ℕ) × ℕ)) (e : Bor (List ℕ) × ℕ) (rest : List (Bor (List ℕ) × ℕ)) (n : ℕ) → es ≡ e ∷ rest → All (λ i. i < n) (values_of es)
    → (e.1 < n) × All (λ i. i < n) (values_of rest)
next_within es e rest n is h =
    let all : All (λ i. i < n) (e.1 ∷ values_of rest) = subst (λ (xs : List (Bor (List ℕ) × ℕ)). All (λ i. i < n) (values_of xs)) is h in
    (all 0 0 (omega arith), λ k d lt. all (suc k) d (omega arith))

-- ---- how deep what is sent nests, where at most n arrays and objects may

pub both_below : (a b n : ℕ) → a ≤ n - 1 → 0 < n → b < n → max a b < n
both_below a b n h some g = grind (arith, common_steps)

pub entry_below : (a b c n : ℕ) → a ≤ n - 2 → b ≤ n - 2 → 0 < n - 1 → c < n → max (suc (max a (max b 0))) c < n
entry_below a b c n h g some k = grind (arith, common_steps)

pub array_within : (ds : Items) (n : ℕ) → items_depth ds < n → depth (array ds) ≤ n
array_within ds n h = omega (arith, h)

pub object_within : (ms : Members) (n : ℕ) → members_depth ms < n → depth (object ms) ≤ n
object_within ms n h = omega (arith, h)

-- an object with one member
pub one_within : (d : Data) (n : ℕ) → depth d ≤ n - 1 → 0 < n → suc (max (depth d) 0) ≤ n
one_within d n h some = both_below (depth d) 0 n h some some
