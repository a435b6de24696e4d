-- Collecting variant numbers by name, from the variants of an enum and the enums of a registry.
use Rattle.bcs_registry_model.proofs.Prelude.{◌≡◌, ◌≤◌, arith, drop, length, lookup, is_at, nat_cmp, slice_cmp, ℕ, List, [], ◌∷◌, map, String, Global, Option, Some, None, is_some, Bool, true, false, cond, string_bytes, Less, refl, sym, ap, subst, ◌∙◌, BTreeMap, Updates, get_by_text, AllByRecursion, IsStrictlySortedBy, keys_of, option_or, option_map_or, is_eq, bytes_eq, string_cmp, true≢false, false≢true, nat_list_eq_equiv, btree_map_updates_text, is_eq-slice_cmp, bytes_eq-Decides, enumeration, container_at, number_called, variant_number, choice_of, container_of, entries_of, UnitStruct, NewTypeStruct, TupleStruct, Struct, Enum, Named, VariantFormat}
use Rattle.bcs_registry_model.specs.declared.container.Container as declared
use Rattle.bcs_registry_model.proofs.Lookup.{map-cond}
use Rattle.bcs_registry_model.proofs.Places.{Rise}
use Rattle.bcs_registry_model.proofs.Rising.{Stored, Variant}
use Rattle.std.proofs.Common.{suc, zero}

map_or-cond : {A B : Type 0} (f : A → B) (d : B) (b : Bool) (x : A) (o : Option A) → option_map_or f (cond b (Some x) o) d ≡ cond b (f x) (option_map_or f o d)
map_or-cond f d true x o = refl
map_or-cond f d false x o = refl

or_none : {A : Type 0} (o : Option A) → option_or o None ≡ o
or_none None = refl
or_none (Some x) = refl

or_kept : {A : Type 0} (o p q : Option A) → is_some o ≡ true → option_or o p ≡ option_or o q
or_kept None p q h = absurd (false≢true h)
or_kept (Some x) p q h = refl

is_none : {A : Type 0} (o : Option A) → is_some o ≡ false → o ≡ None
is_none None h = refl
is_none (Some x) h = absurd (true≢false h)

-- ---- the variants of an enum

abbrev pub Numbers : Type 0
Numbers = BTreeMap (String Global) ℕ

-- the number of the variant with this name among vs
abbrev pub number_among : List ℕ → List Variant → Option ℕ
number_among word vs = number_called word (enumeration (map choice_of vs))

-- the number in the map, or otherwise among the remaining variants
abbrev pub number_joined : Numbers → List Variant → List ℕ → Option ℕ
number_joined m vs word = option_or (get_by_text m word) (number_among word vs)

among_first : (word : List ℕ) (v : Variant) (vs : List Variant) → number_among word (v ∷ vs) ≡ cond (bytes_eq (string_bytes v.1.name) word) (Some v.0) (number_among word vs)
among_first word v vs = map-cond (λ c. c.0) (bytes_eq (string_bytes v.1.name) word) (choice_of v) _

joined_first : (m : Numbers) (xs ys : List Variant) (v : Variant) (name : List ℕ) → xs ≡ v ∷ ys → name ≡ string_bytes v.1.name → (word : List ℕ)
    → number_joined m xs word ≡ option_or (get_by_text m word) (cond (bytes_eq name word) (Some v.0) (number_among word ys))
joined_first m xs ys v name e named word =
    ap (λ zs. number_joined m zs word) e
    ∙ ap (option_or (get_by_text m word)) (among_first word v ys ∙ ap (λ s. cond (bytes_eq s word) (Some v.0) (number_among word ys)) (sym named))

put_new : (f : List ℕ → Option ℕ) (name word : List ℕ) (n : ℕ) (o : Option ℕ) (b : Bool) → (b ≡ true → name ≡ word) → f name ≡ None → option_or (f word) (cond b (Some n) o) ≡ option_or (cond b (Some n) (f word)) o
put_new f name word n o true same none = ap (λ p. option_or p (Some n)) (ap f (sym (same refl)) ∙ none)
put_new f name word n o false same none = refl

passed : (f : List ℕ → Option ℕ) (name word : List ℕ) (n : ℕ) (o : Option ℕ) (b : Bool) → (b ≡ true → name ≡ word) → is_some (f name) ≡ true → option_or (f word) (cond b (Some n) o) ≡ option_or (f word) o
passed f name word n o true same some = or_kept (f word) (Some n) o (ap (λ s. is_some (f s)) (sym (same refl)) ∙ some)
passed f name word n o false same some = refl

-- inserting a variant with a new name
pub variant_put : (m m' : Numbers) (xs ys : List Variant) (v : Variant) (s : List ℕ) (k : String Global) (b : Bool) → xs ≡ v ∷ ys → s ≡ string_bytes v.1.name → string_bytes k ≡ string_bytes v.1.name
    → b ≡ is_some (get_by_text m s) → b ≡ false → Updates string_cmp m m' k (Some v.0) → (word : List ℕ) → number_joined m xs word ≡ number_joined m' ys word
variant_put m m' xs ys v s k b e same named test new u word =
    let none : get_by_text m (string_bytes k) ≡ None = ap (get_by_text m) (named ∙ sym same) ∙ is_none _ (sym test ∙ new) in
    joined_first m xs ys v (string_bytes k) e named word
    ∙ put_new (get_by_text m) (string_bytes k) word v.0 (number_among word ys) (bytes_eq (string_bytes k) word) (bytes_eq-Decides (string_bytes k) word).0 none
    ∙ ap (λ o. option_or o (number_among word ys)) (sym (btree_map_updates_text (string_bytes k) m m' (Some v.0) u word))

-- skipping a variant whose name is already in the map
pub variant_passed : (m : Numbers) (xs ys : List Variant) (v : Variant) (s : List ℕ) (b : Bool) → xs ≡ v ∷ ys → s ≡ string_bytes v.1.name
    → b ≡ is_some (get_by_text m s) → b ≡ true → (word : List ℕ) → number_joined m xs word ≡ number_joined m ys word
variant_passed m xs ys v s b e same test old word =
    joined_first m xs ys v s e same word
    ∙ passed (get_by_text m) s word v.0 (number_among word ys) (bytes_eq s word) (bytes_eq-Decides s word).0 (sym test ∙ old)

-- ---- the enums of a registry

abbrev pub NumbersByEnum : Type 0
NumbersByEnum = BTreeMap (String Global) Numbers

abbrev pub found_under : NumbersByEnum → List ℕ → List ℕ → Option ℕ
found_under m name word = option_map_or (λ n. get_by_text n word) (get_by_text m name) None

-- the map has the numbers of the containers processed so far, and no name of a remaining one
pub record AreGathered (all left : List Stored) (m : NumbersByEnum) : Type 0 where
  pub rise : IsStrictlySortedBy string_cmp (keys_of left)
  pub new : AllByRecursion (λ k. get_by_text m (string_bytes k) ≡ None) (keys_of left)
  pub joined : (name word : List ℕ) → option_or (found_under m name word) (variant_number name word (entries_of left)) ≡ variant_number name word (entries_of all)

unlike : (k l : String Global) → string_cmp k l ≡ Less → bytes_eq (string_bytes k) (string_bytes l) ≡ false
unlike k l h = sym (is_eq-slice_cmp (string_bytes k) (string_bytes l)) ∙ ap is_eq h

none_above : (k : String Global) (es : List Stored) → AllByRecursion (λ l. string_cmp k l ≡ Less) (keys_of es) → container_at (string_bytes k) (entries_of es) ≡ None
none_above k [] h = refl
none_above k (e ∷ es) h = rw (unlike k e.0 h.0) (none_above k es h.1)

number_first : (name word : List ℕ) (e : Stored) (es : List Stored) → variant_number name word (entries_of (e ∷ es))
    ≡ cond (bytes_eq name (string_bytes e.0)) (number_called word (container_of e.1)) (variant_number name word (entries_of es))
number_first name word e es = map_or-cond (number_called word) None (bytes_eq name (string_bytes e.0)) (container_of e.1) _

still_new : (m m' : NumbersByEnum) (name k : String Global) (ns : Numbers) → string_bytes k ≡ string_bytes name → Updates string_cmp m m' k (Some ns)
    → (es : List Stored) → AllByRecursion (λ l. string_cmp name l ≡ Less) (keys_of es) → AllByRecursion (λ l. get_by_text m (string_bytes l) ≡ None) (keys_of es)
    → AllByRecursion (λ l. get_by_text m' (string_bytes l) ≡ None) (keys_of es)
still_new m m' name k ns named u [] above new = tt
still_new m m' name k ns named u (e ∷ es) above new =
    let apart : bytes_eq (string_bytes k) (string_bytes e.0) ≡ false = ap (λ s. bytes_eq s (string_bytes e.0)) named ∙ unlike name e.0 above.0 in (
      btree_map_updates_text (string_bytes k) m m' (Some ns) u (string_bytes e.0) ∙ ap (λ b. cond b (Some ns) (get_by_text m (string_bytes e.0))) apart ∙ new.0,
      still_new m m' name k ns named u es above.1 new.1,
    )

no_number_above : (name : String Global) (word : List ℕ) (es : List Stored) → AllByRecursion (λ l. string_cmp name l ≡ Less) (keys_of es) → variant_number (string_bytes name) word (entries_of es) ≡ None
no_number_above name word es h = ap (λ o. option_map_or (number_called word) o None) (none_above name es h)

put_enum : (f g : List ℕ → Option ℕ) (name q : List ℕ) (p : Option ℕ) (b : Bool) → (b ≡ true → name ≡ q) → f name ≡ None → g name ≡ None → option_or (f q) (cond b p (g q)) ≡ option_or (cond b p (f q)) (g q)
put_enum f g name q p true same new none = ap (λ o. option_or o p) (ap f (sym (same refl)) ∙ new) ∙ sym (ap (option_or p) (ap g (sym (same refl)) ∙ none) ∙ or_none p)
put_enum f g name q p false same new none = refl

pass_other : (g : List ℕ → Option ℕ) (name q : List ℕ) (b : Bool) → (b ≡ true → name ≡ q) → g name ≡ None → cond b None (g q) ≡ g q
pass_other g name q true same none = sym (ap g (sym (same refl)) ∙ none)
pass_other g name q false same none = refl

-- the first number, with the arguments of the comparison swapped
number_first_by : (name : List ℕ) (e : Stored) (es : List Stored) → name ≡ string_bytes e.0 → (q word : List ℕ)
    → variant_number q word (entries_of (e ∷ es)) ≡ cond (bytes_eq name q) (number_called word (container_of e.1)) (variant_number q word (entries_of es))
number_first_by name e es named q word =
    number_first q word e es
    ∙ ap (λ b. cond b (number_called word (container_of e.1)) (variant_number q word (entries_of es))) (ap (bytes_eq q) (sym named) ∙ nat_list_eq_equiv.symm q name)

found_after : (m m' : NumbersByEnum) (k : String Global) (ns : Numbers) → Updates string_cmp m m' k (Some ns) → (q word : List ℕ)
    → found_under m' q word ≡ cond (bytes_eq (string_bytes k) q) (get_by_text ns word) (found_under m q word)
found_after m m' k ns u q word =
    ap (λ o. option_map_or (λ n. get_by_text n word) o None) (btree_map_updates_text (string_bytes k) m m' (Some ns) u q)
    ∙ map_or-cond (λ n. get_by_text n word) None (bytes_eq (string_bytes k) q) ns (get_by_text m q)

-- inserting the numbers of an enum
pub enum_put : (all xs ys : List Stored) (m m' : NumbersByEnum) (e : Stored) (k : String Global) (ns : Numbers) → xs ≡ e ∷ ys → string_bytes k ≡ string_bytes e.0
    → ((word : List ℕ) → get_by_text ns word ≡ number_called word (container_of e.1)) → Updates string_cmp m m' k (Some ns) → AreGathered all xs m → AreGathered all ys m'
unfolding IsStrictlySortedBy
enum_put all xs ys m m' e k ns is named gives u gathered =
    let h = subst (λ zs. AreGathered all zs m) is gathered in
    let left = λ (q word : List ℕ). variant_number q word (entries_of ys) in
    let new : get_by_text m (string_bytes k) ≡ None = ap (get_by_text m) named ∙ h.new.0 in
    record {
      rise = h.rise.1;
      new = still_new m m' e.0 k ns named u ys h.rise.0 h.new.1;
      joined = λ q word.
          ap (λ o. option_or o (left q word)) (found_after m m' k ns u q word ∙ ap (λ o. cond (bytes_eq (string_bytes k) q) o (found_under m q word)) (gives word))
          ∙ sym (ap (option_or (found_under m q word)) (number_first_by (string_bytes k) e ys named q word)
          ∙ put_enum (λ s. found_under m s word) (λ s. left s word) (string_bytes k) q (number_called word (container_of e.1)) (bytes_eq (string_bytes k) q) (bytes_eq-Decides (string_bytes k) q).0
          (ap (λ o. option_map_or (λ n. get_by_text n word) o None) new) (ap (λ s. left s word) named ∙ no_number_above e.0 word ys h.rise.0))
          ∙ h.joined q word;
    }

-- only enums have numbers
pub no_number : (d : declared.Container) → ((vs : BTreeMap ℕ (Named VariantFormat)) → d ≡ Enum vs → ⊥) → (word : List ℕ) → number_called word (container_of d) ≡ None
no_number UnitStruct h word = refl
no_number (NewTypeStruct f) h word = refl
no_number (TupleStruct fs) h word = refl
no_number (Struct fs) h word = refl
no_number (Enum vs) h word = absurd (h vs refl)

-- skipping another container
pub other_passed : (all xs ys : List Stored) (m : NumbersByEnum) (e : Stored) → xs ≡ e ∷ ys → ((word : List ℕ) → number_called word (container_of e.1) ≡ None) → AreGathered all xs m → AreGathered all ys m
unfolding IsStrictlySortedBy
other_passed all xs ys m e is none gathered =
    let h = subst (λ zs. AreGathered all zs m) is gathered in
    let left = λ (q word : List ℕ). variant_number q word (entries_of ys) in
    record {
      rise = h.rise.1;
      new = h.new.1;
      joined = λ q word.
          ap (option_or (found_under m q word))
          (sym (number_first_by (string_bytes e.0) e ys refl q word ∙ ap (λ o. cond (bytes_eq (string_bytes e.0) q) o (left q word)) (none word)
          ∙ pass_other (λ s. left s word) (string_bytes e.0) q (bytes_eq (string_bytes e.0) q) (bytes_eq-Decides (string_bytes e.0) q).0 (no_number_above e.0 word ys h.rise.0)))
          ∙ h.joined q word;
    }

-- after the last container
pub all_gathered : (all xs : List Stored) (m : NumbersByEnum) → xs ≡ [] → AreGathered all xs m → (name word : List ℕ) → found_under m name word ≡ variant_number name word (entries_of all)
all_gathered all xs m is gathered name word =
    let h = subst (λ zs. AreGathered all zs m) is gathered in
    sym (or_none (found_under m name word)) ∙ h.joined name word

-- names that ascend as bytes ascend as texts
above_back : (name : String Global) (es : List Stored) → AllByRecursion (λ k. slice_cmp nat_cmp (string_bytes name) k ≡ Less) (map (λ e. e.0) (entries_of es)) → AllByRecursion (λ k. string_cmp name k ≡ Less) (keys_of es)
above_back name [] h = h
above_back name (e ∷ es) h = (h.0, above_back name es h.1)

pub rise_back : (es : List Stored) → Rise es → IsStrictlySortedBy string_cmp (keys_of es)
unfolding IsStrictlySortedBy
rise_back [] h = h
rise_back (e ∷ es) h = (above_back e.0 es h.0, rise_back es h.1)

none_there : (m : NumbersByEnum) (es : List Stored) → ((q : List ℕ) → get_by_text m q ≡ None) → AllByRecursion (λ k. get_by_text m (string_bytes k) ≡ None) (keys_of es)
none_there m [] h = tt
none_there m (e ∷ es) h = (h (string_bytes e.0), none_there m es h)

-- before the first container
pub begun : (all left : List Stored) (m : NumbersByEnum) → m.entries ≡ [] → left ≡ all → Rise all → AreGathered all left m
begun all left m empty is rise =
    let none : (q : List ℕ) → get_by_text m q ≡ None = λ q. ap (λ es. lookup (is_at (λ k. slice_cmp nat_cmp q (string_bytes k))) es) empty in
    subst (λ zs. AreGathered all zs m) (sym is) (record {
      rise = rise_back all rise;
      new = none_there m all none;
      joined = λ name word. ap (λ o. option_or (option_map_or (λ n. get_by_text n word) o None) (variant_number name word (entries_of all))) (none name);
    })

pub dropped : (m : ℕ) (es : List Stored) → length es ≤ m → drop m es ≡ []
dropped zero [] h = refl
dropped zero (e ∷ es) h = absurd (omega (arith, h))
dropped (suc m) [] h = refl
dropped (suc m) (e ∷ es) h = dropped m es (omega (arith, h))
