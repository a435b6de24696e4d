-- The content of a container, in a registry that an older one grew to.
use Rattle.bcs_json_spec.proofs.Prelude.{◌≡◌, ◌⊎◌, inl, inr, ℕ, List, [], ◌∷◌, All, Option, Some, None, Bool, true, false, cond, bytes_eq, refl, ap, sym, subst, option_map_or, All-head, All-tail, none-some, same_Some, Choice, Container, unit_struct, newtype_struct, tuple_struct, field_struct, enumeration, Entries, container_at, choice_called, Grows, GrowsTo, HasChoice, IsWellFormed, are_distinct, container_at-grows, JsonContent, one_of, nothing, json_content, json_content_at}
use Rattle.bcs_json_spec.proofs.DistinctVariants.{choice_names, variants_differ, numbered_called}

-- every older variant exists in the newer enum, with its name
abbrev pub HasNames : List Choice → List Choice → Type 0
HasNames cs ds = (word : List ℕ) (c : Choice) → choice_called word cs ≡ Some c → choice_called word ds ≡ Some c

called_in_at : (P : Choice → Type 0) (word : List ℕ) (d : Choice) (ds : List Choice) (c : Choice) (b : Bool) → bytes_eq d.1.0 word ≡ b → cond b (Some d) (choice_called word ds) ≡ Some c → P d
    → (choice_called word ds ≡ Some c → P c × (bytes_eq c.1.0 word ≡ true)) → P c × (bytes_eq c.1.0 word ≡ true)
called_in_at P word d ds c true is found here later = subst (λ (x : Choice). P x × (bytes_eq x.1.0 word ≡ true)) (same_Some d c found) (here, is)
called_in_at P word d ds c false is found here later = later found

-- the variant with this name has a property that all variants have
called_in : (P : Choice → Type 0) (word : List ℕ) (cs : List Choice) (c : Choice) → All P cs → choice_called word cs ≡ Some c → P c × (bytes_eq c.1.0 word ≡ true)
called_in P word [] c all found = absurd (none-some c found)
called_in P word (d ∷ ds) c all found = called_in_at P word d ds c (bytes_eq d.1.0 word) refl found (All-head P d ds all) (called_in P word ds c (All-tail P d ds all))

has_names : (cs ds : List Choice) → All (HasChoice ds) cs → are_distinct (choice_names ds) ≡ true → HasNames cs ds
has_names cs ds all differ word c found = let its = called_in (HasChoice ds) word cs c all found in numbered_called word ds c differ its.0 its.1

-- an older content and the newer one: the same, or an enum with more variants, or the older one is missing
abbrev pub StaysIn : JsonContent → JsonContent → Type 0
StaysIn f g = (f ≡ nothing) ⊎ ((f ≡ g) ⊎ ((cs : List Choice) × (ds : List Choice) × (f ≡ one_of cs) × (g ≡ one_of ds) × HasNames cs ds))

container_stays : (c d : Container) → GrowsTo c d → ((ds : List Choice) → d ≡ enumeration ds → are_distinct (choice_names ds) ≡ true) → StaysIn (json_content c) (json_content d)
container_stays (enumeration cs) (enumeration ds) h differ = inr (inr (cs, ds, refl, refl, has_names cs ds h (differ ds refl)))
container_stays (enumeration cs) _ h differ = inr (inl (ap json_content h))
container_stays unit_struct d h differ = inr (inl (ap json_content h))
container_stays (newtype_struct s) d h differ = inr (inl (ap json_content h))
container_stays (tuple_struct ss) d h differ = inr (inl (ap json_content h))
container_stays (field_struct fs) d h differ = inr (inl (ap json_content h))

module _ (newer : Entries) (good : IsWellFormed newer) (n : List ℕ) where
  looked_up_stays : (o : Option Container) → ((c : Container) → o ≡ Some c → (d : Container) × (container_at n newer ≡ Some d) × GrowsTo c d)
      → StaysIn (option_map_or json_content o nothing) (json_content_at n newer)
  looked_up_stays None h = inl refl
  looked_up_stays (Some c) h =
      let there = h c refl in
      subst (λ q. StaysIn (json_content c) (option_map_or json_content q nothing)) (sym there.1)
      (container_stays c there.0 there.2 (λ ds is. variants_differ newer n ds good (subst (λ x. container_at n newer ≡ Some x) is there.1)))

-- the content of a container stays
pub json_content_at-grows : (older newer : Entries) → IsWellFormed newer → Grows older newer → (n : List ℕ) → StaysIn (json_content_at n older) (json_content_at n newer)
json_content_at-grows older newer good grows n = looked_up_stays newer good n (container_at n older) (container_at-grows older newer grows n)
