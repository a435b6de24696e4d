-- Facts about views that writing needs.
use Rattle.bcs_encode_impl.proofs.Prelude.{◌≡◌, ℕ, suc, Bool, List, [], ◌∷◌, length, map, Vec, BTreeMap, Global, Option, Some, None, Box, Bor, Result, Err, refl, sym, ap, subst, ◌∙◌, ◌++◌, ◌==◌, if◌then◌else◌, ne_eqb, eq-eqb, nat_cmp, lookup, option_copied, is_at, uleb, tuple, Entries, of, nothing, content, field_shapes, payload_shape, shape_of, formats_shapes, field_of, payload_of, container_of, Named, Format, Map, Seq, TupleArray, VariantFormat, Enum, Tree, tree_of, items_trees, entries_pairs, Value, Items, Variant, ReportsVerdict, chain, length_written, sorted_entries_written, shape_count, written, items_written, each_written, entries_written, EncodeFault, NotOfFormat, count_items, count_pairs, at_enum, at_map, at_list, at_array, choice-found, choice-missing}
use Rattle.bcs_registry_model.specs.declared.container.Container as declared
use Rattle.bcs_value_model.specs.Tree as tree
use Rattle.bcs_value_model.specs.declared.value.Value.{Pairs}

pub count_formats : (fs : List Format) → shape_count (formats_shapes fs) ≡ length fs
count_formats [] = refl
count_formats (f ∷ fs) = ap suc (count_formats fs)

pub count_fields : (fs : List (Named Format)) → shape_count (field_shapes (map field_of fs)) ≡ length fs
count_fields [] = refl
count_fields (f ∷ fs) = ap suc (count_fields fs)

-- replaces the verdict by an equal one
pub reports_along : {A B : Type 0} (r : Result A EncodeFault) (v w : Result B EncodeFault) (new : B) → v ≡ w → ReportsVerdict r w new → ReportsVerdict r v new
reports_along {B = B} r v w new e h = subst (λ (x : Result B EncodeFault). ReportsVerdict r x new) (sym e) h

pub nothing_written : (r : Entries) (t : Tree) (b : List ℕ) → written r t nothing b ≡ Err NotOfFormat
nothing_written r tree.unit b = refl
nothing_written r _ b = refl

-- a list
pub list_written : (r : Entries) (v : Value) (f : Format) (vs : Vec Value Global) (element : Box Format Global) (n : ℕ) (b : List ℕ)
    → v ≡ Items vs → f ≡ Seq element → n ≡ length vs.items
    → written r (tree_of v) (of (shape_of f)) b ≡ chain (length_written n b) (items_written r (items_trees vs.items) (shape_of element.value))
list_written r v f vs element n b e g i =
    at_list (λ t c. written r t c b) v f vs element e g
    ∙ ap (λ (k : ℕ). chain (length_written k b) (items_written r (items_trees vs.items) (shape_of element.value))) (count_items vs.items ∙ sym i)

-- an array with another size, and with the right size
pub array_refused : (r : Entries) (v : Value) (f : Format) (vs : Vec Value Global) (element : Box Format Global) (size n : ℕ) (b : List ℕ)
    → v ≡ Items vs → f ≡ TupleArray element size → n ≡ length vs.items → (n ≡ size → ⊥)
    → written r (tree_of v) (of (shape_of f)) b ≡ Err NotOfFormat
array_refused r v f vs element size n b e g i other =
    at_array (λ t c. written r t c b) v f vs element size e g
    ∙ ap (λ (x : Bool). if x then items_written r (items_trees vs.items) (shape_of element.value) b else Err NotOfFormat)
    (ap (λ (k : ℕ). k == size) (count_items vs.items ∙ sym i) ∙ ne_eqb n size other)

pub array_written : (r : Entries) (v : Value) (f : Format) (vs : Vec Value Global) (element : Box Format Global) (size n : ℕ) (b : List ℕ)
    → v ≡ Items vs → f ≡ TupleArray element size → n ≡ length vs.items → n ≡ size
    → written r (tree_of v) (of (shape_of f)) b ≡ items_written r (items_trees vs.items) (shape_of element.value) b
array_written r v f vs element size n b e g i same =
    at_array (λ t c. written r t c b) v f vs element size e g
    ∙ ap (λ (x : Bool). if x then items_written r (items_trees vs.items) (shape_of element.value) b else Err NotOfFormat)
    (ap (λ (k : ℕ). k == size) (count_items vs.items ∙ sym i) ∙ eq-eqb n size same)

-- a tuple or struct with the right number of parts
pub tuple_written : (r : Entries) (vs : List Value) (fs : List Format) (b : List ℕ) → length vs ≡ length fs
    → written r (tree.items (items_trees vs)) (of (tuple (formats_shapes fs))) b ≡ each_written r (items_trees vs) (formats_shapes fs) b
tuple_written r vs fs b e =
    ap (λ (x : Bool). if x then each_written r (items_trees vs) (formats_shapes fs) b else Err NotOfFormat)
    (eq-eqb _ _ (count_items vs ∙ e ∙ sym (count_formats fs)))

pub fields_written : (r : Entries) (vs : List Value) (fs : List (Named Format)) (b : List ℕ) → length vs ≡ length fs
    → written r (tree.items (items_trees vs)) (of (tuple (field_shapes (map field_of fs)))) b ≡ each_written r (items_trees vs) (field_shapes (map field_of fs)) b
fields_written r vs fs b e =
    ap (λ (x : Bool). if x then each_written r (items_trees vs) (field_shapes (map field_of fs)) b else Err NotOfFormat)
    (eq-eqb _ _ (count_items vs ∙ e ∙ sym (count_fields fs)))

-- a map
pub map_written : (r : Entries) (v : Value) (f : Format) (ps : Vec (Value × Value) Global) (key value : Box Format Global) (n : ℕ) (b : List ℕ)
    → v ≡ Pairs ps → f ≡ Map key value → n ≡ length ps.items
    → written r (tree_of v) (of (shape_of f)) b
    ≡ chain (length_written n b) (λ c. chain (entries_written r (entries_pairs ps.items) (shape_of key.value) (shape_of value.value) []) (λ es. sorted_entries_written es c))
map_written r v f ps key value n b e g i =
    at_map (λ t c. written r t c b) v f ps key value e g
    ∙ ap (λ (k : ℕ). chain (length_written k b) (λ c. chain (entries_written r (entries_pairs ps.items) (shape_of key.value) (shape_of value.value) []) (λ es. sorted_entries_written es c))) (count_pairs ps.items ∙ sym i)

-- a variant that exists, and one that doesn't
pub variant_written : (r : Entries) (v : Value) (k : declared.Container) (vs : BTreeMap ℕ (Named VariantFormat)) (n : ℕ) (inner : Box Value Global)
    (x : Bor (Named VariantFormat)) (o : Option (Bor (Named VariantFormat))) (b : List ℕ)
    → k ≡ Enum vs → v ≡ Variant n inner → option_copied o ≡ lookup (is_at (nat_cmp n)) vs.entries → o ≡ Some x
    → written r (tree_of v) (content (container_of k)) b ≡ written r (tree_of inner.value) (of (payload_shape (payload_of x.now.value))) (b ++ uleb n)
variant_written r v k vs n inner x o b e f found some =
    at_enum (λ t c. written r t c b) v k vs n inner e f
    ∙ ap (λ c. written r (tree_of inner.value) c (b ++ uleb n)) (choice-found n vs.entries x o found some)

pub no_variant_written : (r : Entries) (v : Value) (k : declared.Container) (vs : BTreeMap ℕ (Named VariantFormat)) (n : ℕ) (inner : Box Value Global)
    (o : Option (Bor (Named VariantFormat))) (b : List ℕ)
    → k ≡ Enum vs → v ≡ Variant n inner → option_copied o ≡ lookup (is_at (nat_cmp n)) vs.entries → o ≡ None
    → written r (tree_of v) (content (container_of k)) b ≡ Err NotOfFormat
no_variant_written r v k vs n inner o b e f found none =
    at_enum (λ t c. written r t c b) v k vs n inner e f
    ∙ ap (λ c. written r (tree_of inner.value) c (b ++ uleb n)) (choice-missing n vs.entries o found none)
    ∙ nothing_written r (tree_of inner.value) (b ++ uleb n)
