-- Lemmas for recursive functions over values, in terms of the trees of values.
use Rattle.bcs_value_model.proofs.Prelude.{◌≡◌, ℕ, List, [], ◌∷◌, length, map, Vec, BTreeMap, Global, Option, Some, None, option_map, Box, Bor, refl, sym, ap, ◌∙◌, arith, string_bytes, nat_cmp, lookup, option_copied, option_map_or, is_at, Payload, Content, of, one_of, nothing, content, payload_shape, choice_at, seq, array, map_shape, shape_of, payload_of, choice_of, container_of, Named, Format, Map, Seq, TupleArray, VariantFormat, Enum, shape-Map, shape-Seq, shape-TupleArray, find-choice, Tree, count, pair_count, tree_of, items_trees, entries_pairs, Value, Items, Variant}
use Rattle.bcs_registry_model.specs.declared.container.Container as declared
use Rattle.bcs_value_model.specs.Tree as tree
use Rattle.bcs_value_model.specs.declared.value.Value.{Pairs}
use Rattle.bcs_value_model.proofs.Views.{tree_of_items, tree_of_pairs, tree_of_variant}

pub count_items : (vs : List Value) → count (items_trees vs) ≡ length vs
count_items [] = refl
count_items (v ∷ vs) = omega (arith, count_items vs)

pub count_pairs : (ps : List (Value × Value)) → pair_count (entries_pairs ps) ≡ length ps
count_pairs [] = refl
count_pairs (p ∷ ps) = omega (arith, count_pairs ps)

map-map_or : {A B C : Type 0} (f : B → C) (g : A → B) (d : C) (o : Option A) → option_map_or f (option_map g o) d ≡ option_map_or (λ a. f (g a)) o d
map-map_or f g d None = refl
map-map_or f g d (Some a) = refl

-- the content of a variant that was looked up in the map of an enum
abbrev chosen : Option (Named VariantFormat) → Content
chosen o = option_map_or (λ v. of (payload_shape (payload_of v.value))) o nothing

choice-is : (n : ℕ) (es : List (ℕ × Named VariantFormat)) → choice_at n (map choice_of es) ≡ chosen (lookup (is_at (nat_cmp n)) es)
choice-is n es =
    ap (λ (q : Option (List ℕ × Payload)). option_map_or (λ c. of (payload_shape c.1)) q nothing) (find-choice n es)
    ∙ map-map_or {B = List ℕ × Payload} (λ p. of (payload_shape p.1)) (λ v. (string_bytes v.name, payload_of v.value)) nothing (lookup (is_at (nat_cmp n)) es)

-- a variant that the look-up finds, and one that it doesn't
pub choice-found : (n : ℕ) (es : List (ℕ × Named VariantFormat)) (x : Bor (Named VariantFormat)) (o : Option (Bor (Named VariantFormat)))
    → option_copied o ≡ lookup (is_at (nat_cmp n)) es → o ≡ Some x → choice_at n (map choice_of es) ≡ of (payload_shape (payload_of x.now.value))
choice-found n es x o found some = choice-is n es ∙ ap chosen (sym found ∙ ap option_copied some)

pub choice-missing : (n : ℕ) (es : List (ℕ × Named VariantFormat)) (o : Option (Bor (Named VariantFormat)))
    → option_copied o ≡ lookup (is_at (nat_cmp n)) es → o ≡ None → choice_at n (map choice_of es) ≡ nothing
choice-missing n es o found none = choice-is n es ∙ ap chosen (sym found ∙ ap option_copied none)

-- the result of a function of trees and contents, for a variant and its enum
pub at_enum : {A : Type 0} (walk : Tree → Content → A) (v : Value) (k : declared.Container) (vs : BTreeMap ℕ (Named VariantFormat)) (n : ℕ) (inner : Box Value Global)
    → k ≡ Enum vs → v ≡ Variant n inner → walk (tree_of v) (content (container_of k)) ≡ walk (tree.variant n (tree_of inner.value)) (one_of (map choice_of vs.entries))
at_enum walk v k vs n inner e f = rw (e, f, tree_of_variant n inner) refl

-- the same for a map and its format
pub at_map : {A : Type 0} (walk : Tree → Content → A) (v : Value) (f : Format) (ps : Vec (Value × Value) Global) (key value : Box Format Global)
    → v ≡ Pairs ps → f ≡ Map key value → walk (tree_of v) (of (shape_of f)) ≡ walk (tree.pairs (entries_pairs ps.items)) (of (map_shape (shape_of key.value) (shape_of value.value)))
at_map walk v f ps key value e g = rw (e, tree_of_pairs ps, shape-Map f key value g) refl

-- for a list
pub at_list : {A : Type 0} (walk : Tree → Content → A) (v : Value) (f : Format) (vs : Vec Value Global) (element : Box Format Global)
    → v ≡ Items vs → f ≡ Seq element → walk (tree_of v) (of (shape_of f)) ≡ walk (tree.items (items_trees vs.items)) (of (seq (shape_of element.value)))
at_list walk v f vs element e g = rw (e, tree_of_items vs, shape-Seq f element g) refl

-- for an array
pub at_array : {A : Type 0} (walk : Tree → Content → A) (v : Value) (f : Format) (vs : Vec Value Global) (element : Box Format Global) (size : ℕ)
    → v ≡ Items vs → f ≡ TupleArray element size → walk (tree_of v) (of (shape_of f)) ≡ walk (tree.items (items_trees vs.items)) (of (array (shape_of element.value) size))
at_array walk v f vs element size e g = rw (e, tree_of_items vs, shape-TupleArray f element size g) refl
