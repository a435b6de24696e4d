-- Checking names one after another against the set of the earlier ones.
use Rattle.bcs_registry_model.proofs.Prelude.{◌≡◌, ℕ, ◌+◌, ◌<◌, List, [], ◌∷◌, length, get_or, drop, map, Bor, Bool, true, false, not, ◌&&◌, ◌||◌, cond, refl, sym, ap, ◌∙◌, list_all, list_any, bytes_eq, is_eq, nat_cmp, slice_cmp, is_at, BTreeSet, contains_by, drop_more, is_eq-slice_cmp, are_distinct}
use Rattle.std.specs.BTreeSet.{Updates}

-- no name is in the set, and none equals an earlier one
abbrev pub all_new : (List ℕ → Bool) → List (List ℕ) → Bool
all_new has [] = true
all_new has (n ∷ ns) = not (has n) && all_new (λ q. bytes_eq n q || has q) ns

-- the set contains the name
abbrev pub has_name : BTreeSet (Bor (List ℕ)) → List ℕ → Bool
has_name s q = contains_by (λ k. slice_cmp nat_cmp q k.now) s

all_new-same : (f g : List ℕ → Bool) → ((q : List ℕ) → f q ≡ g q) → (ns : List (List ℕ)) → all_new f ns ≡ all_new g ns
all_new-same f g h [] = refl
all_new-same f g h (n ∷ ns) = rw (h n) (ap (λ b. not (g n) && b) (all_new-same (λ q. bytes_eq n q || f q) (λ q. bytes_eq n q || g q) (λ q. ap (λ b. bytes_eq n q || b) (h q)) ns))

none_of_either : (a b c d : Bool) → (not (a || b) && (not c && d)) ≡ (not (a || c) && (not b && d))
none_of_either true b c d = refl
none_of_either false true true d = refl
none_of_either false true false d = refl
none_of_either false false true d = refl
none_of_either false false false d = refl

neither : (p has : List ℕ → Bool) (ns : List (List ℕ)) → list_all (λ m. not (p m || has m)) ns ≡ (not (list_any p ns) && list_all (λ m. not (has m)) ns)
neither p has [] = refl
neither p has (n ∷ ns) = ap (λ b. not (p n || has n) && b) (neither p has ns) ∙ none_of_either (p n) (has n) (list_any p ns) (list_all (λ m. not (has m)) ns)

shuffled : (a b c d : Bool) → (a && ((b && c) && d)) ≡ ((a && c) && (b && d))
shuffled false b c d = refl
shuffled true false true d = refl
shuffled true false false d = refl
shuffled true true c d = refl

all_new-is : (has : List ℕ → Bool) (ns : List (List ℕ)) → all_new has ns ≡ (list_all (λ n. not (has n)) ns && are_distinct ns)
all_new-is has [] = refl
all_new-is has (n ∷ ns) =
    ap (λ b. not (has n) && b) (all_new-is (λ q. bytes_eq n q || has q) ns ∙ ap (λ b. b && are_distinct ns) (neither (bytes_eq n) has ns))
    ∙ shuffled (not (has n)) (not (list_any (bytes_eq n) ns)) (list_all (λ m. not (has m)) ns) (are_distinct ns)

all_pass : (ns : List (List ℕ)) → list_all (λ n. true) ns ≡ true
all_pass [] = refl
all_pass (n ∷ ns) = all_pass ns

-- with an empty set
pub are_distinct-from_none : (s : BTreeSet (Bor (List ℕ))) (ns : List (List ℕ)) → s.keys ≡ [] → are_distinct ns ≡ all_new (has_name s) ns
are_distinct-from_none s ns e =
    sym (all_new-is (λ q. false) ns ∙ ap (λ b. b && are_distinct ns) (all_pass ns))
    ∙ all_new-same (λ q. false) (has_name s) (λ q. ap (λ ks. list_any (is_at (λ k. slice_cmp nat_cmp q k.now)) ks) (sym e)) ns

as_key : List ℕ → Bor (List ℕ)
as_key n = record { ref_ptr = (0, 0); now = n }

cond-or : (a b c : Bool) → a ≡ c → cond a true b ≡ (c || b)
cond-or true b c e = rw (sym e) refl
cond-or false b c e = rw (sym e) refl

-- inserting a name into the set
pub all_new-inserted : (s t : BTreeSet (Bor (List ℕ))) (k : Bor (List ℕ)) (ns : List (List ℕ)) → has_name s k.now ≡ false → Updates (λ x y. slice_cmp nat_cmp x.now y.now) s t k true → all_new (has_name s) (k.now ∷ ns) ≡ all_new (has_name t) ns
unfolding as_key
all_new-inserted s t k ns h u =
    rw h (sym (all_new-same (has_name t) (λ q. bytes_eq k.now q || has_name s q) (λ q. u.0 (as_key q) ∙ cond-or (is_eq (slice_cmp nat_cmp k.now q)) (has_name s q) (bytes_eq k.now q) (is_eq-slice_cmp k.now q)) ns))

not-true : (b c : Bool) → b ≡ true → b ≡ not c → c ≡ false
not-true b true e h = sym e ∙ h
not-true b false e h = refl

-- inserting the name of the next element
pub all_new-step : {A : Type 0} (name : A → List ℕ) (xs : List A) (i : ℕ) (x : A) (s t : BTreeSet (Bor (List ℕ))) (k : Bor (List ℕ)) (b : Bool) → i < length xs → x ≡ get_or xs i x → k.now ≡ name x
    → b ≡ true → b ≡ not (has_name s k.now) → Updates (λ x y. slice_cmp nat_cmp x.now y.now) s t k true
    → all_new (has_name s) (map name (drop i xs)) ≡ all_new (has_name t) (map name (drop (i + 1) xs))
all_new-step name xs i x s t k b h e n is new u =
    ap (λ zs. all_new (has_name s) (map name zs)) (drop_more xs i x h)
    ∙ ap (λ m. all_new (has_name s) (m ∷ map name (drop (i + 1) xs))) (ap name (sym e) ∙ sym n)
    ∙ all_new-inserted s t k (map name (drop (i + 1) xs)) (not-true b (has_name s k.now) is new) u

-- the same for a list that an iterator traverses
pub all_new-next : {A : Type 0} (name : A → List ℕ) (xs ys : List A) (x : A) (s t : BTreeSet (Bor (List ℕ))) (k : Bor (List ℕ)) (b : Bool) → xs ≡ x ∷ ys → k.now ≡ name x
    → b ≡ true → b ≡ not (has_name s k.now) → Updates (λ x y. slice_cmp nat_cmp x.now y.now) s t k true
    → all_new (has_name s) (map name xs) ≡ all_new (has_name t) (map name ys)
all_new-next name xs ys x s t k b e n is new u =
    ap (λ zs. all_new (has_name s) (map name zs)) e
    ∙ ap (λ m. all_new (has_name s) (m ∷ map name ys)) (sym n)
    ∙ all_new-inserted s t k (map name ys) (not-true b (has_name s k.now) is new) u
