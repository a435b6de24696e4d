-- JSON represents at most one format, and at most one registry.
use Rattle.bcs_registry.proofs.Prelude.{◌≡◌, ◌<◌, ◌^◌, ◌∙◌, ℕ, List, [], ◌∷◌, Bool, true, false, Option, Some, None, Ordering, Less, Equal, Greater, ap, arith, cond, decimal, nat_lt, option_map, refl, subst, sym, true≢false, Decides-ltb, nat_cmp_total, ranked, exact_unsigned, below_all, find, is_sorted, same_entries, list_all, AllByRecursion, IsStrictlySortedBy, keys_of, is_eq, T, get_member-put, get_member-put_other, Data, object, get_member, Choice, Container, Entries, Payload, shown_choices, shown_container, shown_containers, IsInRange, IsJson, Shape, IsFormatText, IsRegistryText, WritesFormat, WritesRegistry, OneFormat, OneRegistry, and-true_parts, has_number, numbered_below, texts_differ, variant_shown}
use Rattle.std.proofs.Common.{nat_cmp}
use Rattle.bcs_registry_model.specs.Container as container
use Rattle.bcs_registry.proofs.Back.{container_back, container_in, format_back, format_in, found_as, variant_back, variant_in}

pub one_format : OneFormat
one_format d s t is other = sym (format_back s) ∙ ap format_in (sym is.is ∙ other.is) ∙ format_back t

-- ---- variants

abbrev variant_numbered : ℕ → List Choice → Option (List ℕ × Payload)
variant_numbered n cs = find nat_cmp n cs

module _ (n : ℕ) where
  -- the member named by a number is the variant with that number
  seen_at : (c : Choice) (cs : List Choice) (o : Ordering) → nat_cmp n c.0 ≡ o → n < 2 ^ 32 → c.0 < 2 ^ 32
      → get_member (decimal n) (shown_choices cs) ≡ option_map variant_shown (variant_numbered n cs)
      → get_member (decimal n) (shown_choices (c ∷ cs)) ≡ option_map variant_shown (cond (is_eq o) (Some c.1) (variant_numbered n cs))
  seen_at c cs Equal is small fits later =
      let same : n ≡ c.0 = ranked n c.0 Equal (sym is) in
      ap (λ (k : ℕ). get_member (decimal k) (shown_choices (c ∷ cs))) same ∙ get_member-put (decimal c.0) (variant_shown c.1) (shown_choices cs)
  seen_at c cs Less is small fits later =
      let below : n < c.0 = ranked n c.0 Less (sym is) in
      get_member-put_other (decimal n) (decimal c.0) (variant_shown c.1) (shown_choices cs) (texts_differ n c.0 small fits (λ same. omega (arith, below, same))) ∙ later
  seen_at c cs Greater is small fits later =
      let above : c.0 < n = ranked n c.0 Greater (sym is) in
      get_member-put_other (decimal n) (decimal c.0) (variant_shown c.1) (shown_choices cs) (texts_differ n c.0 small fits (λ same. omega (arith, above, same))) ∙ later

  seen : n < 2 ^ 32 → (cs : List Choice) → list_all has_number cs ≡ true → get_member (decimal n) (shown_choices cs) ≡ option_map variant_shown (variant_numbered n cs)
  seen small [] h = refl
  seen small (c ∷ cs) h =
      let p = and-true_parts (has_number c) (list_all has_number cs) h in
      seen_at c cs (nat_cmp n c.0) refl small (numbered_below c.0 p.0) (seen small cs p.1)

  -- no variant has a larger number
  unseen_at : (c : Choice) (cs : List Choice) (o : Ordering) → nat_cmp n c.0 ≡ o → (n < 2 ^ 32 → ⊥) → c.0 < 2 ^ 32 → variant_numbered n cs ≡ None → cond (is_eq o) (Some c.1) (variant_numbered n cs) ≡ None
  unseen_at c cs Equal is large fits later = let same : n ≡ c.0 = ranked n c.0 Equal (sym is) in absurd (large (omega (arith, same, fits)))
  unseen_at c cs Less is large fits later = later
  unseen_at c cs Greater is large fits later = later

  unseen : (n < 2 ^ 32 → ⊥) → (cs : List Choice) → list_all has_number cs ≡ true → variant_numbered n cs ≡ None
  unseen large [] h = refl
  unseen large (c ∷ cs) h =
      let p = and-true_parts (has_number c) (list_all has_number cs) h in
      unseen_at c cs (nat_cmp n c.0) refl large (numbered_below c.0 p.0) (unseen large cs p.1)

back_of : (o : Option (List ℕ × Payload)) → option_map variant_in (option_map variant_shown o) ≡ o
back_of None = refl
back_of (Some v) = ap Some (variant_back v)

found_alike : (cs ds : List Choice) → list_all has_number cs ≡ true → list_all has_number ds ≡ true → shown_choices cs ≡ shown_choices ds → (n : ℕ) → variant_numbered n cs ≡ variant_numbered n ds
found_alike cs ds h i same n = at (nat_lt n (2 ^ 32)) refl
  where
    at : (b : Bool) → nat_lt n (2 ^ 32) ≡ b → variant_numbered n cs ≡ variant_numbered n ds
    at true is =
        let small = numbered_below n is in
        sym (back_of (variant_numbered n cs))
        ∙ ap (option_map variant_in) (sym (seen n small cs h) ∙ ap (get_member (decimal n)) same ∙ seen n small ds i)
        ∙ back_of (variant_numbered n ds)
    at false is =
        let large = λ (small : n < 2 ^ 32). let bad : true ≡ false = sym ((Decides-ltb n (2 ^ 32)).1 small) ∙ is in true≢false bad in
        unseen n large cs h ∙ sym (unseen n large ds i)

below_rest : (n : ℕ) (cs : List Choice) → AllByRecursion (λ m. nat_cmp n m ≡ Less) (keys_of cs) → below_all nat_cmp n cs ≡ true
below_rest n [] h = refl
below_rest n (c ∷ cs) h = rw (h.0, below_rest n cs h.1) refl

in_order : (cs : List Choice) → IsStrictlySortedBy nat_cmp (keys_of cs) → is_sorted nat_cmp cs ≡ true
unfolding IsStrictlySortedBy
in_order [] h = refl
in_order (c ∷ cs) h = rw (below_rest c.0 cs h.0, in_order cs h.1) refl

one_enum : (cs ds : List Choice) → IsInRange (container.enumeration cs) → IsInRange (container.enumeration ds) → shown_choices cs ≡ shown_choices ds → cs ≡ ds
one_enum cs ds h i same =
    same_entries nat_cmp nat_cmp_total exact_unsigned cs ds (subst T (sym (in_order cs h.rise)) tt) (subst T (sym (in_order ds i.rise)) tt)
    (found_alike cs ds h.numbers i.numbers same)

-- ---- containers

one_found : (c e : Container) → IsInRange c → IsInRange e → found_as c ≡ found_as e → c ≡ e
one_found (container.enumeration cs) (container.enumeration ds) h i same = ap container.enumeration (one_enum cs ds h i cc)
one_found (container.enumeration cs) _ h i same = cc
one_found _ (container.enumeration ds) h i same = cc
one_found _ _ h i same = cc

one_container : (c e : Container) → IsInRange c → IsInRange e → shown_container c ≡ shown_container e → c ≡ e
one_container c e h i same = one_found c e h i (sym (container_back c) ∙ ap container_in same ∙ container_back e)

one_map : (r q : Entries) → AllByRecursion (λ e. IsInRange e.1) r → AllByRecursion (λ e. IsInRange e.1) q → shown_containers r ≡ shown_containers q → r ≡ q
one_map [] [] h i same = refl
one_map [] (f ∷ fs) h i same = cc
one_map (e ∷ es) [] h i same = cc
one_map (e ∷ es) (f ∷ fs) h i same =
    let name : e.0 ≡ f.0 = cc in
    let written : shown_container e.1 ≡ shown_container f.1 = cc in
    let value = one_container e.1 f.1 h.0 i.0 written in
    let rest = one_map es fs h.1 i.1 cc in
    λ j. (name j, value j) ∷ rest j

pub one_registry : OneRegistry
one_registry d r q is other =
    let same : object (shown_containers r) ≡ object (shown_containers q) = sym is.is ∙ other.is in
    one_map r q is.orderly.containers other.orderly.containers cc

-- ---- documents

-- a document is parsed as at most one JSON value
pub same_json : (text : List ℕ) (d e : Data) → IsJson text d → IsJson text e → d ≡ e
same_json text d e is other = let same : Some d ≡ Some e = sym is.1 ∙ other.1 in cc

pub same_format : (text : List ℕ) (s t : Shape) → WritesFormat text s → WritesFormat text t → s ≡ t
same_format text s t is other =
    one_format is.0 s t is.2 (subst (λ (d : Data). IsFormatText d t) (same_json text other.0 is.0 other.1 is.1) other.2)

pub same_registry : (text : List ℕ) (r q : Entries) → WritesRegistry text r → WritesRegistry text q → r ≡ q
same_registry text r q is other =
    one_registry is.0 r q is.2 (subst (λ (d : Data). IsRegistryText d q) (same_json text other.0 is.0 other.1 is.1) other.2)
