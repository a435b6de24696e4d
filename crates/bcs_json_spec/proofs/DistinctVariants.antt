-- In a well-formed registry, the variants of an enum have different names. So a variant that is found by its number is
-- also found by its name.
use Rattle.bcs_json_spec.proofs.Prelude.{◌≡◌, ◌∙◌, ℕ, List, [], ◌∷◌, map, Some, Bool, true, false, not, ◌&&◌, ◌==◌, cond, bytes_eq, refl, ap, ap₂, sym, flat_map, list_all, list_any, false≢true, and_parts, or_right, Decides-eqb, none-some, same_Some, bytes_eq-Decides, list_all-found, Payload, Choice, Container, enumeration, Entries, container_at, choice_numbered, choice_called, container_names, payload_names, are_distinct, levels_hold, names_differ, names_known, IsWellFormed}

abbrev pub choice_names : List Choice → List (List ℕ)
choice_names = map (λ c. c.1.0)

-- ---- in a well-formed registry

pub container_distinct : (registry : Entries) → IsWellFormed registry → (n : List ℕ) (c : Container) → container_at n registry ≡ Some c → list_all are_distinct (container_names c) ≡ true
container_distinct registry good n c found =
    let first = (and_parts (levels_hold registry && names_differ registry) (names_known registry) good).0 in
    list_all-found are_distinct container_names _ registry c (and_parts (levels_hold registry) (names_differ registry) first).1 found

pub payload_distinct : (cs : List Choice) → list_all are_distinct (container_names (enumeration cs)) ≡ true → (k : ℕ) (v : List ℕ × Payload) → choice_numbered k cs ≡ Some v
    → list_all are_distinct (payload_names v.1) ≡ true
payload_distinct cs h k v found = list_all-found are_distinct (λ w. payload_names w.1) _ cs v (and_parts _ _ h).1 found

pub variants_differ : (registry : Entries) (n : List ℕ) (cs : List Choice) → IsWellFormed registry → container_at n registry ≡ Some (enumeration cs) → are_distinct (choice_names cs) ≡ true
variants_differ registry n cs good found =
    (and_parts (are_distinct (choice_names cs)) (list_all are_distinct (flat_map (λ c. payload_names c.1.1) cs)) (container_distinct registry good n (enumeration cs) found)).0

-- ---- in an enum

among_names_at : (name : List ℕ) (d : Choice) (ds : List Choice) (n : ℕ) (v : List ℕ × Payload) (b : Bool) → cond b (Some d.1) (choice_numbered n ds) ≡ Some v → bytes_eq name v.0 ≡ true
    → (choice_numbered n ds ≡ Some v → list_any (bytes_eq name) (choice_names ds) ≡ true) → list_any (bytes_eq name) (choice_names (d ∷ ds)) ≡ true
among_names_at name d ds n v true found is later = rw (ap (λ (w : List ℕ × Payload). bytes_eq name w.0) (same_Some d.1 v found) ∙ is) refl
among_names_at name d ds n v false found is later = or_right (bytes_eq name d.1.0) _ (later found)

-- the name of a variant found by its number is among the names
among_names : (name : List ℕ) (ds : List Choice) (n : ℕ) (v : List ℕ × Payload) → choice_numbered n ds ≡ Some v → bytes_eq name v.0 ≡ true → list_any (bytes_eq name) (choice_names ds) ≡ true
among_names name [] n v found is = absurd (none-some v found)
among_names name (d ∷ ds) n v found is = among_names_at name d ds n v (d.0 == n) found is (λ rest. among_names name ds n v rest is)

module _ (word : List ℕ) (d : Choice) (ds : List Choice) (c : Choice) (is : bytes_eq c.1.0 word ≡ true) where
  -- it is the first variant
  called_here : (d.0 == c.0) ≡ true → d.1 ≡ c.1 → choice_called word (d ∷ ds) ≡ Some c
  called_here number rest =
      let same : d ≡ c = ap₂ (λ (n : ℕ) (v : List ℕ × Payload). (n, v)) ((Decides-eqb d.0 c.0).0 number) rest in
      rw (ap (λ (x : Choice). bytes_eq x.1.0 word) same ∙ is) (ap Some same)

  -- it is a later variant, so the first has another name
  called_later : (b : Bool) → bytes_eq d.1.0 word ≡ b → not (list_any (bytes_eq d.1.0) (choice_names ds)) ≡ true → choice_numbered c.0 ds ≡ Some c.1
      → choice_called word ds ≡ Some c → cond b (Some d) (choice_called word ds) ≡ Some c
  called_later true here differ found later =
      let same : d.1.0 ≡ c.1.0 = (bytes_eq-Decides d.1.0 word).0 here ∙ sym ((bytes_eq-Decides c.1.0 word).0 is) in
      let twice = among_names d.1.0 ds c.0 c.1 found ((bytes_eq-Decides d.1.0 c.1.0).1 same) in
      absurd (false≢true (sym (ap not twice) ∙ differ))
  called_later false here differ found later = later

  called_at : (b : Bool) → (d.0 == c.0) ≡ b → cond b (Some d.1) (choice_numbered c.0 ds) ≡ Some c.1 → are_distinct (choice_names (d ∷ ds)) ≡ true
      → (choice_numbered c.0 ds ≡ Some c.1 → choice_called word ds ≡ Some c) → choice_called word (d ∷ ds) ≡ Some c
  called_at true number found differ later = called_here number (same_Some d.1 c.1 found)
  called_at false number found differ later =
      called_later (bytes_eq d.1.0 word) refl (and_parts (not (list_any (bytes_eq d.1.0) (choice_names ds))) (are_distinct (choice_names ds)) differ).0 found (later found)

-- a variant found by its number is also found by its name
pub numbered_called : (word : List ℕ) (ds : List Choice) (c : Choice) → are_distinct (choice_names ds) ≡ true → choice_numbered c.0 ds ≡ Some c.1 → bytes_eq c.1.0 word ≡ true
    → choice_called word ds ≡ Some c
numbered_called word [] c differ found is = absurd (none-some c.1 found)
numbered_called word (d ∷ ds) c differ found is =
    called_at word d ds c is (d.0 == c.0) refl found differ
    (λ rest. numbered_called word ds c (and_parts (not (list_any (bytes_eq d.1.0) (choice_names ds))) (are_distinct (choice_names ds)) differ).1 rest is)
