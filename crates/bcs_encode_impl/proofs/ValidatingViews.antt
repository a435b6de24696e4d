-- Facts about views that validation needs, shape by shape.
use Rattle.bcs_encode_impl.proofs.Prelude.{◌≡◌, ℕ, ℤ, suc, ◌+◌, ◌^◌, ◌<◌, ◌≤◌, nat_le, nat_lt, ◌==◌, Bool, false, ◌&&◌, List, [], length, map, Vec, BTreeMap, Box, Bor, Global, if◌then◌else◌, Option, Some, None, refl, sym, ap, ◌∙◌, arith, le-leb, lt-ltb, and_parts, and_from, eq-eqb, lt-leb, ne_eqb, nat_cmp, lookup, option_and_then, option_copied, is_at, Entries, Content, of, nothing, content, field_shapes, payload_shape, choice_at, Shape, Shapes, no_shapes, shape, tuple, shape_of, formats_shapes, field_of, payload_of, choice_of, container_of, whole_shape, shape-Map, shape-Tuple, Format, Map, Seq, Tuple, TupleArray, Named, VariantFormat, Enum, Struct, TupleStruct, IntegerKind, Unsigned, Signed, Tree, Trees, no_trees, tree, count, pair_count, tree_of, items_trees, entries_pairs, Value, Items, Variant, tree_of_items, tree_of_pairs, tree_of_signed, tree_of_unsigned, fits, all_fit, length_limit, count_items, count_pairs, at_array, at_enum, at_list, choice-found, choice-missing, shape_count, less, leaf, validated, all_validated, each_validated, pairs_validated}
use Rattle.bcs_registry_model.specs.Shape as shape
use Rattle.bcs_registry_model.specs.declared.variant_format.VariantFormat.TheVariants as variant_format
use Rattle.bcs_registry_model.specs.declared.container.Container as declared
use Rattle.bcs_value_model.specs.Tree as tree
use Rattle.bcs_value_model.specs.declared.value.Value as value
use Rattle.bcs_value_model.specs.declared.value.Value.{Pairs}
use Rattle.bcs_encode_impl.proofs.Options.{then_some, then_is, then_none, if_some, if_is, if_none, less_some, less_is, leaf_some, leaf_is, alike}

pub nothing_validated : (r : Entries) (t : Tree) (d n : ℕ) → validated r t nothing d n ≡ None
nothing_validated r tree.unit d n = refl
nothing_validated r _ d n = refl

-- lists of different lengths
pub each_unlike : (r : Entries) (ts : Trees) (ss : Shapes) (d n : ℕ) → (count ts ≡ shape_count ss → ⊥) → each_validated r ts ss d n ≡ None
each_unlike r no_trees no_shapes d n h = absurd (h refl)
each_unlike r no_trees (shape s ss) d n h = refl
each_unlike r (tree t ts) no_shapes d n h = refl
each_unlike r (tree t ts) (shape s ss) d n h = then_none (each_validated r ts ss d) (validated r t (of s) d n) (λ m. each_unlike r ts ss d m (λ e. h (ap suc e)))

-- a function of trees, applied to the value of an integer
pub at_unsigned : {A : Type 0} (walk : Tree → A) (v : Value) (n : ℕ) → v ≡ value.Unsigned n → walk (tree.unsigned n) ≡ walk (tree_of v)
at_unsigned walk v n e = rw (e, tree_of_unsigned n) refl

pub at_signed : {A : Type 0} (walk : Tree → A) (v : Value) (z : ℤ) → v ≡ value.Signed z → walk (tree.signed z) ≡ walk (tree_of v)
at_signed walk v z e = rw (e, tree_of_signed z) refl

-- a function of trees and contents, applied to the parts of a value as slices, or to the value
pub by_list : {A : Type 0} (walk : Tree → Content → A) (v : Value) (f : Format) (vs : Vec Value Global) (element : Box Format Global) (us : List Value) (g : Format)
    → v ≡ Items vs → f ≡ Seq element → us ≡ vs.items → g ≡ element.value
    → walk (tree.items (items_trees us)) (of (shape.seq (shape_of g))) ≡ walk (tree_of v) (of (shape_of f))
by_list walk v f vs element us g e h i j = rw (i, j) (sym (at_list walk v f vs element e h))

-- the entries of a map
pub at_pairs : {A : Type 0} (walk : Tree → A) (v : Value) (ps : Vec (Value × Value) Global) (qs : List (Value × Value)) → v ≡ Pairs ps → qs ≡ ps.items
    → walk (tree.pairs (entries_pairs qs)) ≡ walk (tree_of v)
at_pairs walk v ps qs e i = rw (e, i, tree_of_pairs ps) refl

pub by_tuple : {A : Type 0} (walk : Tree → Content → A) (v : Value) (f : Format) (vs : Vec Value Global) (fs : Vec Format Global) (us : List Value) (gs : List Format)
    → v ≡ Items vs → f ≡ Tuple fs → us ≡ vs.items → gs ≡ fs.items
    → walk (tree.items (items_trees us)) (of (tuple (formats_shapes gs))) ≡ walk (tree_of v) (of (shape_of f))
by_tuple walk v f vs fs us gs e h i j = rw (e, i, j, tree_of_items vs, shape-Tuple f fs h) refl

pub by_tuple_struct : {A : Type 0} (walk : Tree → Content → A) (v : Value) (k : declared.Container) (vs : Vec Value Global) (fs : Vec Format Global) (us : List Value) (gs : List Format)
    → k ≡ TupleStruct fs → v ≡ Items vs → us ≡ vs.items → gs ≡ fs.items
    → walk (tree.items (items_trees us)) (of (tuple (formats_shapes gs))) ≡ walk (tree_of v) (content (container_of k))
by_tuple_struct walk v k vs fs us gs h e i j = rw (e, h, i, j, tree_of_items vs) refl

pub by_struct : {A : Type 0} (walk : Tree → Content → A) (v : Value) (k : declared.Container) (vs : Vec Value Global) (fs : Vec (Named Format) Global)
    (us : List Value) (gs : List (Named Format))
    → k ≡ Struct fs → v ≡ Items vs → us ≡ vs.items → gs ≡ fs.items
    → walk (tree.items (items_trees us)) (of (tuple (field_shapes (map field_of gs)))) ≡ walk (tree_of v) (content (container_of k))
by_struct walk v k vs fs us gs h e i j = rw (e, h, i, j, tree_of_items vs) refl

pub by_tuple_payload : {A : Type 0} (walk : Tree → Content → A) (v : Value) (k : VariantFormat) (vs : Vec Value Global) (fs : Vec Format Global) (us : List Value) (gs : List Format)
    → k ≡ variant_format.Tuple fs → v ≡ Items vs → us ≡ vs.items → gs ≡ fs.items
    → walk (tree.items (items_trees us)) (of (tuple (formats_shapes gs))) ≡ walk (tree_of v) (of (payload_shape (payload_of k)))
by_tuple_payload walk v k vs fs us gs h e i j = rw (e, h, i, j, tree_of_items vs) refl

pub by_struct_payload : {A : Type 0} (walk : Tree → Content → A) (v : Value) (k : VariantFormat) (vs : Vec Value Global) (fs : Vec (Named Format) Global)
    (us : List Value) (gs : List (Named Format))
    → k ≡ variant_format.Struct fs → v ≡ Items vs → us ≡ vs.items → gs ≡ fs.items
    → walk (tree.items (items_trees us)) (of (tuple (field_shapes (map field_of gs)))) ≡ walk (tree_of v) (of (payload_shape (payload_of k)))
by_struct_payload walk v k vs fs us gs h e i j = rw (e, h, i, j, tree_of_items vs) refl

-- a list or a map that isn't too long
pub list_validated : (r : Entries) (vs : List Value) (s : Shape) (d n left : ℕ) → length vs ≤ length_limit → less 1 n ≡ Some left
    → validated r (tree.items (items_trees vs)) (of (shape.seq s)) d n ≡ all_validated r (items_trees vs) s d left
list_validated r vs s d n left short taken =
    ap (λ (b : Bool). if b then option_and_then (all_validated r (items_trees vs) s d) (less 1 n) else None)
    (le-leb (count (items_trees vs)) length_limit (omega (arith, short, count_items vs)))
    ∙ ap (option_and_then (all_validated r (items_trees vs) s d)) taken

at_map_format : (r : Entries) (ps : List (Value × Value)) (f : Format) (key value : Box Format Global) (d n : ℕ) → f ≡ Map key value
    → validated r (tree.pairs (entries_pairs ps)) (of (shape_of f)) d n
    ≡ (if nat_le (pair_count (entries_pairs ps)) length_limit then option_and_then (pairs_validated r (entries_pairs ps) (shape_of key.value) (shape_of value.value) d) (less 1 n) else None)
at_map_format r ps f key value d n e = ap (λ (s : Shape). validated r (tree.pairs (entries_pairs ps)) (of s) d n) (shape-Map f key value e)

pub map_validated : (r : Entries) (ps : List (Value × Value)) (f : Format) (key value : Box Format Global) (d n left : ℕ) → f ≡ Map key value → length ps ≤ length_limit → less 1 n ≡ Some left
    → validated r (tree.pairs (entries_pairs ps)) (of (shape_of f)) d n ≡ pairs_validated r (entries_pairs ps) (shape_of key.value) (shape_of value.value) d left
map_validated r ps f key value d n left e short taken =
    at_map_format r ps f key value d n e
    ∙ ap (λ (b : Bool). if b then option_and_then (pairs_validated r (entries_pairs ps) (shape_of key.value) (shape_of value.value) d) (less 1 n) else None)
    (le-leb (pair_count (entries_pairs ps)) length_limit (omega (arith, short, count_pairs ps)))
    ∙ ap (option_and_then (pairs_validated r (entries_pairs ps) (shape_of key.value) (shape_of value.value) d)) taken

-- a list or a map that is too long
pub long_map_validated : (r : Entries) (ps : List (Value × Value)) (f : Format) (key value : Box Format Global) (d n : ℕ) → f ≡ Map key value → length_limit < length ps
    → validated r (tree.pairs (entries_pairs ps)) (of (shape_of f)) d n ≡ None
long_map_validated r ps f key value d n e long =
    at_map_format r ps f key value d n e
    ∙ ap (λ (b : Bool). if b then option_and_then (pairs_validated r (entries_pairs ps) (shape_of key.value) (shape_of value.value) d) (less 1 n) else None)
    (lt-leb (pair_count (entries_pairs ps)) length_limit (omega (arith, long, count_pairs ps)))

-- an array with the right size, and with another size
pub array_validated : (r : Entries) (v : Value) (f : Format) (vs : Vec Value Global) (element : Box Format Global) (size k d n left : ℕ)
    → v ≡ Items vs → f ≡ TupleArray element size → k ≡ length vs.items → k ≡ size → less 1 n ≡ Some left
    → validated r (tree_of v) (of (shape_of f)) d n ≡ all_validated r (items_trees vs.items) (shape_of element.value) d left
array_validated r v f vs element size k d n left e g i same taken =
    at_array (λ t c. validated r t c d n) v f vs element size e g
    ∙ ap (λ (b : Bool). if b then option_and_then (all_validated r (items_trees vs.items) (shape_of element.value) d) (less 1 n) else None)
    (ap (λ (m : ℕ). m == size) (count_items vs.items ∙ sym i) ∙ eq-eqb k size same)
    ∙ ap (option_and_then (all_validated r (items_trees vs.items) (shape_of element.value) d)) taken

pub array_unlike : (r : Entries) (v : Value) (f : Format) (vs : Vec Value Global) (element : Box Format Global) (size k d n : ℕ)
    → v ≡ Items vs → f ≡ TupleArray element size → k ≡ length vs.items → (k ≡ size → ⊥)
    → validated r (tree_of v) (of (shape_of f)) d n ≡ None
array_unlike r v f vs element size k d n e g i other =
    at_array (λ t c. validated r t c d n) v f vs element size e g
    ∙ ap (λ (b : Bool). if b then option_and_then (all_validated r (items_trees vs.items) (shape_of element.value) d) (less 1 n) else None)
    (ap (λ (m : ℕ). m == size) (count_items vs.items ∙ sym i) ∙ ne_eqb k size other)

-- a variant that exists, and one that doesn't
pub variant_validated : (r : Entries) (v : Value) (k : declared.Container) (vs : BTreeMap ℕ (Named VariantFormat)) (number : ℕ) (inner : Box Value Global)
    (x : Bor (Named VariantFormat)) (o : Option (Bor (Named VariantFormat))) (d n left : ℕ)
    → number < 2 ^ 32 → k ≡ Enum vs → v ≡ Variant number inner → option_copied o ≡ lookup (is_at (nat_cmp number)) vs.entries → o ≡ Some x → less 1 n ≡ Some left
    → validated r (tree_of v) (content (container_of k)) d n ≡ validated r (tree_of inner.value) (of (payload_shape (payload_of x.now.value))) d left
variant_validated r v k vs number inner x o d n left low e f found some taken =
    at_enum (λ t c. validated r t c d n) v k vs number inner e f
    ∙ ap (λ (b : Bool). if b then option_and_then (validated r (tree_of inner.value) (choice_at number (map choice_of vs.entries)) d) (less 1 n) else None) (lt-ltb number (2 ^ 32) low)
    ∙ ap (option_and_then (validated r (tree_of inner.value) (choice_at number (map choice_of vs.entries)) d)) taken
    ∙ ap (λ c. validated r (tree_of inner.value) c d left) (choice-found number vs.entries x o found some)

pub no_variant_validated : (r : Entries) (v : Value) (k : declared.Container) (vs : BTreeMap ℕ (Named VariantFormat)) (number : ℕ) (inner : Box Value Global)
    (o : Option (Bor (Named VariantFormat))) (d n : ℕ)
    → k ≡ Enum vs → v ≡ Variant number inner → option_copied o ≡ lookup (is_at (nat_cmp number)) vs.entries → o ≡ None
    → validated r (tree_of v) (content (container_of k)) d n ≡ None
no_variant_validated r v k vs number inner o d n e f found none =
    at_enum (λ t c. validated r t c d n) v k vs number inner e f
    ∙ ap (λ c. if nat_lt number (2 ^ 32) then option_and_then (validated r (tree_of inner.value) c d) (less 1 n) else None) (choice-missing number vs.entries o found none)
    ∙ if_none (nat_lt number (2 ^ 32)) _ (then_none (validated r (tree_of inner.value) nothing d) (less 1 n) (λ m. nothing_validated r (tree_of inner.value) d m))

-- an integer is one node, and looks up no container
number_validated : (r : Entries) (w : IntegerKind) (t : Tree) (d n : ℕ) → validated r t (of (whole_shape w)) d n ≡ leaf (fits false [] t (of (whole_shape w))) n
number_validated r (Unsigned w) tree.unit d n = refl
number_validated r (Unsigned w) _ d n = refl
number_validated r (Signed w) tree.unit d n = refl
number_validated r (Signed w) _ d n = refl

-- subtracting one by one is subtracting at once
leaf_more : (f : ℕ → Option ℕ) (b c : Bool) (k n : ℕ) → ((x : ℕ) → f x ≡ (if c then less k x else None))
    → option_and_then f (leaf b n) ≡ (if b && c then less (suc k) n else None)
leaf_more f b c k n h = alike (option_and_then f (leaf b n)) (if b && c then less (suc k) n else None)
    (λ m is.
    let p = then_some f (leaf b n) m is in
    let a = leaf_some b n p.0 p.1 in
    let q = if_some c (less k p.0) m (sym (h p.0) ∙ p.2) in
    if_is (b && c) (less (suc k) n) m (and_from b c a.0 q.0) (less_is (suc k) n m (omega (arith, a.1, less_some k p.0 m q.1))))
    (λ m is.
    let p = if_some (b && c) (less (suc k) n) m is in
    let q = and_parts b c p.0 in
    then_is f (leaf b n) (k + m) m (leaf_is b n (k + m) q.0 (omega (arith, less_some (suc k) n m p.1)))
    (h (k + m) ∙ if_is c (less k (k + m)) m q.1 (less_is k (k + m) m refl)))

numbers_validated : (r : Entries) (w : IntegerKind) (s : Shape) (ts : Trees) (d n : ℕ) → s ≡ whole_shape w
    → all_validated r ts s d n ≡ (if all_fit false [] ts (whole_shape w) then less (count ts) n else None)
numbers_validated r w s no_trees d n e = sym (less_is 0 n n (omega arith))
numbers_validated r w s (tree t ts) d n e =
    ap (λ (x : Shape). option_and_then (all_validated r ts s d) (validated r t (of x) d n)) e
    ∙ ap (option_and_then (all_validated r ts s d)) (number_validated r w t d n)
    ∙ leaf_more (all_validated r ts s d) (fits false [] t (of (whole_shape w))) (all_fit false [] ts (whole_shape w)) (count ts) n (λ x. numbers_validated r w s ts d x e)

-- a list of integers is validated at once
pub row_validated : (r : Entries) (w : IntegerKind) (s : Shape) (vs : List Value) (d n : ℕ) → s ≡ whole_shape w
    → all_validated r (items_trees vs) s d n ≡ (if all_fit false [] (items_trees vs) (whole_shape w) then less (length vs) n else None)
row_validated r w s vs d n e =
    numbers_validated r w s (items_trees vs) d n e
    ∙ ap (λ (k : ℕ). if all_fit false [] (items_trees vs) (whole_shape w) then less k n else None) (count_items vs)
