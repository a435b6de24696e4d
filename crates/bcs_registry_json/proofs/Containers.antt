-- The containers of a registry by name, and inserting one.
use Rattle.bcs_registry_json.proofs.Prelude.{◌≡◌, ◌∙◌, ℕ, List, [], ◌∷◌, Ordering, Less, Equal, Greater, String, Global, ap, refl, string_bytes, string_cmp, subst, sym, insert_entry, AllByRecursion, IsStrictlySortedBy, keys_of, match_ordering, Entry, Data, put, view, IsContainerText, IsFaultBy, all_containers, is_container, is_registry, shown_container, shown_containers, IsInRange, IsRegistryText, container_of, entries_of, Container, RegistryFault, Stored, names_rise}
use Rattle.bcs_registry_model.specs.Container as container
use Rattle.bcs_registry_json.proofs.Entries.{IsRead, all_read, member_false, one_read}
use Rattle.bcs_registry_json.proofs.Rows.{passes_on}

abbrev pub AllInRange : List Stored → Type 0
AllInRange es = AllByRecursion (λ (e : List ℕ × container.Container). IsInRange e.1) (entries_of es)

shown_either : (o : Ordering) (a b c : List Stored)
    → shown_containers (entries_of (match_ordering o a b c)) ≡ match_ordering o (shown_containers (entries_of a)) (shown_containers (entries_of b)) (shown_containers (entries_of c))
shown_either Less a b c = refl
shown_either Equal a b c = refl
shown_either Greater a b c = refl

in_range_either : (o : Ordering) (a b c : List Stored) → AllInRange a → AllInRange b → AllInRange c → AllInRange (match_ordering o a b c)
in_range_either Less a b c h i j = h
in_range_either Equal a b c h i j = i
in_range_either Greater a b c h i j = j

module _ (k : String Global) (v : Container) where
  abbrev pub inserted : List Stored → List Stored
  inserted es = insert_entry string_cmp es k v

  pub insert_shown : (es : List Stored) → shown_containers (entries_of (inserted es)) ≡ put (string_bytes k) (shown_container (container_of v)) (shown_containers (entries_of es))
  insert_shown [] = refl
  insert_shown (e ∷ es) = shown_either (string_cmp k e.0) ((k, v) ∷ e ∷ es) ((e.0, v) ∷ es) (e ∷ inserted es) ∙ rw (insert_shown es) refl

  pub insert_in_range : IsInRange (container_of v) → (es : List Stored) → AllInRange es → AllInRange (inserted es)
  insert_in_range here [] all = (here, tt)
  insert_in_range here (e ∷ es) all =
      in_range_either (string_cmp k e.0) ((k, v) ∷ e ∷ es) ((e.0, v) ∷ es) (e ∷ inserted es) (here, all) (here, all.1) (all.0, insert_in_range here es all.1)

-- the containers that were read so far from the object of a registry
pub record ContainersRead (d : Data) (rest : List Entry) (es : List Stored) : Type 0 where
  pub read : IsRead d rest (shown_containers (entries_of es))
  pub names : IsStrictlySortedBy string_cmp (keys_of es)
  pub ranges : AllInRange es

pub registry_written : (d : Data) (rest : List Entry) (es : List Stored) → ContainersRead d rest es → rest ≡ [] → IsRegistryText d (entries_of es)
registry_written d rest es is none = record {
  is = all_read d rest (shown_containers (entries_of es)) is.read none;
  orderly = record { names = names_rise es is.names; containers = is.ranges };
}

pub one_container : (d : Data) (rest left : List Entry) (e : Entry) (es more : List Stored) (k : String Global) (v : Container) → ContainersRead d rest es → rest ≡ e ∷ left
    → more ≡ insert_entry string_cmp es k v → IsStrictlySortedBy string_cmp (keys_of more) → string_bytes k ≡ string_bytes e.0 → IsContainerText (view e.1) (container_of v)
    → ContainersRead d left more
one_container d rest left e es more k v is next inserted rise named written =
    let shown : shown_containers (entries_of more) ≡ put (string_bytes e.0) (view e.1) (shown_containers (entries_of es)) =
    ap (λ (xs : List Stored). shown_containers (entries_of xs)) inserted ∙ insert_shown k v es ∙ rw (named, written.is) refl in
    record {
      read = one_read d rest left (shown_containers (entries_of es)) e is.read next (shown_containers (entries_of more)) shown;
      names = rise;
      ranges = subst AllInRange (sym inserted) (insert_in_range k v written.range es is.ranges);
    }

pub container_fault : (d : Data) (rest left : List Entry) (e : Entry) (es : List Stored) (x : RegistryFault) → ContainersRead d rest es → rest ≡ e ∷ left
    → IsFaultBy (λ loose. is_container loose (view e.1)) x → IsFaultBy (λ loose. is_registry loose d) x
container_fault d rest left e es x is next =
    passes_on (λ loose. is_container loose (view e.1)) (λ loose. is_registry loose d) x
    (λ loose h. member_false d rest left (shown_containers (entries_of es)) e is.read next
    (λ k m. is_container loose m) (all_containers loose) (is_registry loose) (λ k m ms. refl) (λ ms. refl) h)
