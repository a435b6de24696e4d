-- Arrays of exactly `n` items.
use Rattle.bcs_json_reader.proofs.Prelude.{◌≡◌, ◌∙◌, ℕ, suc, List, [], ◌∷◌, length, Vec, Global, Bool, Ok, Err, ◌==◌, refl, ap, sym, rules, Decides-eqb, Data, Items, array, items_view, Json, Shape, formats_shapes, Format, Tree, Trees, items, tree_of, items_trees, Value, the_lemmas, JsonFault, BadShape, item_count, shape_count, item_parts, each_parts, array_parts, tuple_parts, Read, follow, read_all, read_array, read_tuple, read_shape, read_each, when_true, when_false}
use Rattle.bcs_registry_model.specs.Shape as shape
use Rattle.bcs_value_model.specs.declared.value.Value as value

-- the view has as many items as the list
count_items : (js : List Json) → item_count (items_view js) ≡ length js
count_items [] = refl
count_items (j ∷ js) = ap suc (count_items js)

pub other_items : (n : ℕ) (r : Items → Read Trees) (j : Data) (js : List Json) → j ≡ array (items_view js) → (length js ≡ n → ⊥) → read_tuple n r j ≡ Err BadShape
other_items n r j js is other =
    ap (read_tuple n r) is
    ∙ when_false (item_count (items_view js) == n) (follow (r (items_view js)) (λ ts. Ok (items ts))) (Err BadShape) (Decides-eqb (item_count (items_view js)) n)
    (λ same. other (sym (count_items js) ∙ same))

pub count_formats : (fs : List Format) → shape_count (formats_shapes fs) ≡ length fs
count_formats [] = refl
count_formats (f ∷ fs) = ap suc (count_formats fs)

tree_items : (v : Vec Value Global) → tree_of (value.Items v) ≡ items (items_trees v.items)
tree_items v = search (rules, the_lemmas)

-- the values of a list, as a value
pub items_read : (x : Read Trees) (v : Vec Value Global) → x ≡ Ok (items_trees v.items) → follow x (λ ts. Ok (items ts)) ≡ Ok (tree_of (value.Items v))
items_read x v h = ap (λ (y : Read Trees). follow y (λ ts. Ok (items ts))) h ∙ ap Ok (sym (tree_items v))

pub items_fault : (x : Read Trees) (e : JsonFault) → x ≡ Err e → follow x (λ ts. Ok (items ts)) ≡ Err e
items_fault x e h = ap (λ (y : Read Trees). follow y (λ ts. Ok (items ts))) h

-- a tuple, if there are as many items as formats
module _ (named : List ℕ → Data → Read Tree) (fs : List Format) (j : Data) where
  pub tuple_refused : (n : ℕ) (e : JsonFault) → n ≡ length fs → ((r : Items → Read Trees) → read_tuple n r j ≡ Err e) → read_shape named (shape.tuple (formats_shapes fs)) j ≡ Err e
  tuple_refused n e same h = ap (λ m. read_tuple m (read_each named (formats_shapes fs)) j) (count_formats fs ∙ sym same) ∙ h (read_each named (formats_shapes fs))

  module _ (v : Vec Json Global) (is : j ≡ array (items_view v.items)) where
    abbrev row : Read Tree
    row = follow (read_each named (formats_shapes fs) (items_view v.items)) (λ ts. Ok (items ts))

    pub tuple_row : length v.items ≡ length fs → read_shape named (shape.tuple (formats_shapes fs)) j ≡ row
    tuple_row same =
        ap (read_shape named (shape.tuple (formats_shapes fs))) is
        ∙ when_true (item_count (items_view v.items) == shape_count (formats_shapes fs)) row (Err BadShape) (Decides-eqb (item_count (items_view v.items)) (shape_count (formats_shapes fs)))
        (count_items v.items ∙ same ∙ sym (count_formats fs))

-- an array, with `n` items or with another number
module _ (bytes : Bool) (n : ℕ) (r : Data → Read Tree) (j : Data) (v : Vec Json Global) (is : j ≡ array (items_view v.items)) where
  abbrev elements : Read Tree
  elements = follow (read_all r (items_view v.items)) (λ ts. Ok (items ts))

  pub array_other : (length v.items ≡ n → ⊥) → read_array bytes n r j ≡ Err BadShape
  array_other other =
      ap (read_array bytes n r) is
      ∙ when_false (item_count (items_view v.items) == n) elements (Err BadShape) (Decides-eqb (item_count (items_view v.items)) n)
      (λ same. other (sym (count_items v.items) ∙ same))

  pub array_row : length v.items ≡ n → read_array bytes n r j ≡ elements
  array_row same =
      ap (read_array bytes n r) is
      ∙ when_true (item_count (items_view v.items) == n) elements (Err BadShape) (Decides-eqb (item_count (items_view v.items)) n) (count_items v.items ∙ same)

-- the parts of an array, with `n` items or with another number
module _ (left : ℕ) (s : Shape) (n : ℕ) (j : Data) (v : Vec Json Global) (is : j ≡ array (items_view v.items)) where
  pub array_other_none : (length v.items ≡ n → ⊥) → array_parts left s n j ≡ []
  array_other_none other =
      ap (array_parts left s n) is
      ∙ when_false (item_count (items_view v.items) == n) (item_parts left s 0 (items_view v.items)) [] (Decides-eqb (item_count (items_view v.items)) n)
      (λ same. other (sym (count_items v.items) ∙ same))

  pub array_items : length v.items ≡ n → array_parts left s n j ≡ item_parts left s 0 (items_view v.items)
  array_items same =
      ap (array_parts left s n) is
      ∙ when_true (item_count (items_view v.items) == n) (item_parts left s 0 (items_view v.items)) [] (Decides-eqb (item_count (items_view v.items)) n) (count_items v.items ∙ same)

-- the parts of a tuple
pub tuple_items : (left : ℕ) (fs : List Format) (j : Data) (v : Vec Json Global) → j ≡ array (items_view v.items) → length v.items ≡ length fs
    → tuple_parts left (formats_shapes fs) j ≡ each_parts left (formats_shapes fs) 0 (items_view v.items)
tuple_items left fs j v is same =
    ap (tuple_parts left (formats_shapes fs)) is
    ∙ when_true (item_count (items_view v.items) == shape_count (formats_shapes fs)) (each_parts left (formats_shapes fs) 0 (items_view v.items)) [] (Decides-eqb (item_count (items_view v.items)) (shape_count (formats_shapes fs)))
    (count_items v.items ∙ same ∙ sym (count_formats fs))
