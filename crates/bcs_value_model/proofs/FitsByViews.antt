-- Lemmas about `fits` in terms of the trees of values.
use Rattle.bcs_value_model.proofs.Prelude.{◌≡◌, ℕ, suc, ◌^◌, ◌<◌, nat_lt, List, [], ◌∷◌, length, map, Vec, BTreeMap, get_or, Global, Option, Some, None, Box, Bor, Bool, true, false, ◌&&◌, String, refl, sym, ap, ◌∙◌, arith, and_from, and_right, lt-ltb, IsUtf8-string_bytes, is_utf8-from_IsUtf8, nat_cmp, lookup, option_copied, is_at, Entries, of, nothing, content, payload_shape, field_shapes, Unsupported, unsupported, shape_of, formats_shapes, field_of, payload_of, container_of, Named, Format, Str, Bytes, Map, VariantFormat, Enum, shape-Bytes, shape-Str, Tree, fits, each_fits, pairs_fit, are_bytes, tree_of, items_trees, entries_pairs, Value, Text, Variant}
use Rattle.bcs_registry_model.specs.declared.container.Container as declared
use Rattle.bcs_value_model.specs.Tree as tree
use Rattle.bcs_value_model.specs.declared.value.Value as value
use Rattle.bcs_value_model.specs.declared.value.Value.{Pairs}
use Rattle.bcs_value_model.proofs.Views.{tree_of_text, tree_of_bytes}
use Rattle.bcs_value_model.proofs.WalkViews.{at_enum, at_map, choice-found, choice-missing}

pub bytes_are : (bs : List ℕ) → ((i : ℕ) → get_or bs i 0 < 256) → are_bytes bs ≡ true
bytes_are [] h = refl
bytes_are (b ∷ bs) h = and_from _ _ (lt-ltb b 256 (h 0)) (bytes_are bs (λ i. h (suc i)))

pub each_fits-unlike : (loose : Bool) (r : Entries) (vs : List Value) (fs : List Format) → (length vs ≡ length fs → ⊥) → each_fits loose r (items_trees vs) (formats_shapes fs) ≡ false
each_fits-unlike loose r [] [] h = absurd (h refl)
each_fits-unlike loose r [] (f ∷ fs) h = refl
each_fits-unlike loose r (v ∷ vs) [] h = refl
each_fits-unlike loose r (v ∷ vs) (f ∷ fs) h =
    and_right _ _ (each_fits-unlike loose r vs fs (λ e. h (omega (arith, e))))

pub fields_fit-unlike : (loose : Bool) (r : Entries) (vs : List Value) (fs : List (Named Format)) → (length vs ≡ length fs → ⊥) → each_fits loose r (items_trees vs) (field_shapes (map field_of fs)) ≡ false
fields_fit-unlike loose r [] [] h = absurd (h refl)
fields_fit-unlike loose r [] (f ∷ fs) h = refl
fields_fit-unlike loose r (v ∷ vs) [] h = refl
fields_fit-unlike loose r (v ∷ vs) (f ∷ fs) h =
    and_right _ _ (fields_fit-unlike loose r vs fs (λ e. h (omega (arith, e))))

pub fits-nothing : (loose : Bool) (r : Entries) (t : Tree) → fits loose r t nothing ≡ false
fits-nothing loose r tree.unit = refl
fits-nothing loose r _ = refl

pub fits-unsupported : (loose : Bool) (r : Entries) (t : Tree) (u : Unsupported) → fits loose r t (of (unsupported u)) ≡ loose
fits-unsupported loose r tree.unit u = refl
fits-unsupported loose r _ u = refl

pub fits-text : (loose : Bool) (r : Entries) (v : Value) (f : Format) (s : String Global) → v ≡ Text s → f ≡ Str
    → true ≡ fits loose r (tree_of v) (of (shape_of f))
fits-text loose r v f s e g = rw (e, tree_of_text s, shape-Str f g) (sym (is_utf8-from_IsUtf8 _ (IsUtf8-string_bytes s)))

pub fits-bytes : (loose : Bool) (r : Entries) (v : Value) (f : Format) (b : Vec ℕ Global) (us : List ℕ) (is : Bool)
    → v ≡ value.Bytes b → f ≡ Bytes → us ≡ b.items → is ≡ are_bytes us
    → is ≡ fits loose r (tree_of v) (of (shape_of f))
fits-bytes loose r v f b us is e g h i = i ∙ rw (e, h, tree_of_bytes b, shape-Bytes f g) refl

pub fits-found : (loose : Bool) (r : Entries) (v w : Value) (k : declared.Container) (vs : BTreeMap ℕ (Named VariantFormat)) (n : ℕ) (inner : Box Value Global)
    (x : Bor (Named VariantFormat)) (o : Option (Bor (Named VariantFormat))) (b : Bool)
    → n < 2 ^ 32
    → k ≡ Enum vs → v ≡ Variant n inner → w ≡ inner.value → option_copied o ≡ lookup (is_at (nat_cmp n)) vs.entries → o ≡ Some x
    → b ≡ fits loose r (tree_of w) (of (payload_shape (payload_of x.now.value)))
    → b ≡ fits loose r (tree_of v) (content (container_of k))
fits-found loose r v w k vs n inner x o b low e f d found some h =
    h ∙ ap (λ u. fits loose r (tree_of u) (of (payload_shape (payload_of x.now.value)))) d
    ∙ sym (at_enum (fits loose r) v k vs n inner e f
    ∙ ap (λ c. nat_lt n (2 ^ 32) && fits loose r (tree_of inner.value) c) (choice-found n vs.entries x o found some)
    ∙ ap (λ l. l && fits loose r (tree_of inner.value) (of (payload_shape (payload_of x.now.value)))) (lt-ltb n (2 ^ 32) low))

pub fits-missing : (loose : Bool) (r : Entries) (v : Value) (k : declared.Container) (vs : BTreeMap ℕ (Named VariantFormat)) (n : ℕ) (inner : Box Value Global)
    (o : Option (Bor (Named VariantFormat)))
    → k ≡ Enum vs → v ≡ Variant n inner → option_copied o ≡ lookup (is_at (nat_cmp n)) vs.entries → o ≡ None
    → false ≡ fits loose r (tree_of v) (content (container_of k))
fits-missing loose r v k vs n inner o e f found none =
    sym (at_enum (fits loose r) v k vs n inner e f
    ∙ ap (λ c. nat_lt n (2 ^ 32) && fits loose r (tree_of inner.value) c) (choice-missing n vs.entries o found none)
    ∙ and_right (nat_lt n (2 ^ 32)) _ (fits-nothing loose r (tree_of inner.value)))

pub fits-map : (loose : Bool) (r : Entries) (v : Value) (f : Format) (ps : Vec (Value × Value) Global) (key value : Box Format Global) (us : List (Value × Value)) (k w : Format) (b : Bool)
    → v ≡ Pairs ps → f ≡ Map key value → us ≡ ps.items → k ≡ key.value → w ≡ value.value
    → b ≡ pairs_fit loose r (entries_pairs us) (shape_of k) (shape_of w)
    → b ≡ fits loose r (tree_of v) (of (shape_of f))
fits-map loose r v f ps key value us k w b e g h i j is = is ∙ rw (h, i, j) (sym (at_map (fits loose r) v f ps key value e g))
