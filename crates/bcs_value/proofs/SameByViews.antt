-- Lemmas about `same` in terms of the trees of values: lists of different length, and pairs one after another.
use Rattle.bcs_value.proofs.Prelude.{◌≡◌, ℕ, ◌+◌, ◌<◌, List, [], ◌∷◌, length, drop, get_or, Vec, Global, true, false, ◌&&◌, refl, ap, ◌∙◌, subst, arith, and_right, drop_more, same, all_same, any_pair, all_pairs, is_within, has_pair, tree_of, items_trees, entries_pairs, Value, tree_of_pairs}
use Rattle.bcs_value_model.specs.declared.value.Value.{Pairs}

pub all_same-unlike : (xs ys : List Value) → (length xs ≡ length ys → ⊥) → all_same (items_trees xs) (items_trees ys) ≡ false
all_same-unlike [] [] h = absurd (h refl)
all_same-unlike [] (y ∷ ys) h = refl
all_same-unlike (x ∷ xs) [] h = refl
all_same-unlike (x ∷ xs) (y ∷ ys) h =
    and_right (same (tree_of x) (tree_of y)) _ (all_same-unlike xs ys (λ e. h (omega (arith, e))))

pub is_within-step : (xs ys : List (Value × Value)) (i : ℕ) (p : Value × Value) → i < length xs → p ≡ get_or xs i p
    → any_pair (λ k v. same (tree_of p.0) k && same (tree_of p.1) v) (entries_pairs ys) ≡ true
    → is_within (entries_pairs (drop i xs)) (entries_pairs ys) ≡ is_within (entries_pairs (drop (i + 1) xs)) (entries_pairs ys)
is_within-step xs ys i p h e t =
    let P : Value × Value → Type 0 = λ q. any_pair (λ k v. same (tree_of q.0) k && same (tree_of q.1) v) (entries_pairs ys) ≡ true in
    ap (λ zs. is_within (entries_pairs zs) (entries_pairs ys)) (drop_more xs i p h)
    ∙ ap (λ b. b && is_within (entries_pairs (drop (i + 1) xs)) (entries_pairs ys)) (subst P e t)

pub same-Pairs : (a b : Value) (xs ys : Vec (Value × Value) Global) (us vs : List (Value × Value)) → a ≡ Pairs xs → b ≡ Pairs ys → us ≡ xs.items → vs ≡ ys.items
    → (is_within (entries_pairs us) (entries_pairs vs) && all_pairs (has_pair (entries_pairs us)) (entries_pairs vs)) ≡ same (tree_of a) (tree_of b)
same-Pairs a b xs ys us vs h k e f = rw (h, k, e, f, tree_of_pairs xs, tree_of_pairs ys) refl
