-- Examples: the definitions, evaluated on some values.
use Rattle.bcs_decode_parts.proofs.Prelude.{◌≡◌, [], ◌∷◌, Some, None, true, false, refl, w16, uleb, Content, of, Tree, no_pairs, pair, part_at, item, key}
use Rattle.bcs_num.specs.Le as le_file
use Rattle.bcs_registry_model.specs.Shape as shape
use Rattle.bcs_value_model.specs.Tree as tree

-- {256: false, 1: true}, in ascending order of the encoded keys
abbrev switches : Tree
switches = tree.pairs (pair (tree.unsigned 256) (tree.truth false) (pair (tree.unsigned 1) (tree.truth true) no_pairs))

abbrev switching : Content
switching = of (shape.map (shape.unsigned w16) shape.truth)

later_key : part_at [] (key (1 ∷ 0 ∷ []) ∷ []) switching switches ≡ Some (record { value = tree.truth true; content = of shape.truth; place = 6 })
unfolding uleb le_file.le
later_key = refl

first_key : part_at [] (key (0 ∷ 1 ∷ []) ∷ []) switching switches ≡ Some (record { value = tree.truth false; content = of shape.truth; place = 3 })
unfolding uleb le_file.le
first_key = refl

no_key : part_at [] (key (2 ∷ 0 ∷ []) ∷ []) switching switches ≡ None
unfolding uleb le_file.le
no_key = refl

no_element : part_at [] (item 0 ∷ []) switching switches ≡ None
no_element = refl
