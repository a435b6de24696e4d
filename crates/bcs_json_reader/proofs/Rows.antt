-- Lists of values: those read so far, followed by those that are left.
use Rattle.bcs_json_reader.proofs.Prelude.{◌≡◌, ◌∙◌, ◌++◌, ℕ, suc, List, [], ◌∷◌, length, Ok, Err, refl, ap, sym, Data, view, items_view, Json, shape_of, formats_shapes, Format, Tree, Trees, no_trees, tree, unsigned, count, tree_of, items_trees, Value, byte_trees, JsonFault, Read, follow, read_all, read_shape, read_each}

-- appends trees to the trees of values
abbrev pub joined : List Value → Trees → Trees
joined [] ts = ts
joined (v ∷ vs) ts = tree (tree_of v) (joined vs ts)

pub joined-none : (vs : List Value) → joined vs no_trees ≡ items_trees vs
joined-none [] = refl
joined-none (v ∷ vs) = ap (tree (tree_of v)) (joined-none vs)

joined-more : (vs : List Value) (v : Value) (ts : Trees) → joined (vs ++ v ∷ []) ts ≡ joined vs (tree (tree_of v) ts)
joined-more [] v ts = refl
joined-more (w ∷ vs) v ts = ap (tree (tree_of w)) (joined-more vs v ts)

-- a byte as the next value
pub byte_more : (vs : List Value) (v : Value) (x : ℕ) (left xs : List ℕ) → left ≡ x ∷ xs → tree_of v ≡ unsigned x
    → joined vs (byte_trees left) ≡ joined (vs ++ v ∷ []) (byte_trees xs)
byte_more vs v x left xs h e = ap (λ ys. joined vs (byte_trees ys)) h ∙ ap (λ t. joined vs (tree t (byte_trees xs))) (sym e) ∙ sym (joined-more vs v (byte_trees xs))

-- as many values as bytes
pub count_bytes : (b : List ℕ) → count (byte_trees b) ≡ length b
count_bytes [] = refl
count_bytes (x ∷ b) = ap suc (count_bytes b)

step : (vs : List Value) (v : Value) (rest : Read Trees) → follow (follow rest (λ ts. Ok (tree (tree_of v) ts))) (λ ts. Ok (joined vs ts)) ≡ follow rest (λ ts. Ok (joined (vs ++ v ∷ []) ts))
step vs v (Ok ts) = ap Ok (sym (joined-more vs v ts))
step vs v (Err e) = refl

-- the first of the remaining values is read
pub row_more : (vs : List Value) (v : Value) (x : Read Tree) (rest : Read Trees) → x ≡ Ok (tree_of v)
    → follow (follow x (λ t. follow rest (λ ts. Ok (tree t ts)))) (λ ts. Ok (joined vs ts)) ≡ follow rest (λ ts. Ok (joined (vs ++ v ∷ []) ts))
row_more vs v x rest h = ap (λ (y : Read Tree). follow (follow y (λ t. follow rest (λ ts. Ok (tree t ts)))) (λ ts. Ok (joined vs ts))) h ∙ step vs v rest

-- or refused
pub row_fault : (vs : List Value) (x : Read Tree) (rest : Read Trees) (e : JsonFault) → x ≡ Err e
    → follow (follow x (λ t. follow rest (λ ts. Ok (tree t ts)))) (λ ts. Ok (joined vs ts)) ≡ Err e
row_fault vs x rest e h = ap (λ (y : Read Tree). follow (follow y (λ t. follow rest (λ ts. Ok (tree t ts)))) (λ ts. Ok (joined vs ts))) h

-- ---- items of one format

module _ (r : Data → Read Tree) (js : List Json) (vs : List Value) where
  abbrev items_from : List Json → Read Trees
  items_from ks = follow (read_all r (items_view ks)) (λ ts. Ok (joined vs ts))

  -- the first item is read
  pub item_more : (left : List Json) (j : Json) (v : Value) → js ≡ j ∷ left → r (view j) ≡ Ok (tree_of v)
      → items_from js ≡ follow (read_all r (items_view left)) (λ ts. Ok (joined (vs ++ v ∷ []) ts))
  item_more left j v h e = ap items_from h ∙ row_more vs v (r (view j)) (read_all r (items_view left)) e

  -- or refused
  pub item_fault : (left : List Json) (j : Json) (e : JsonFault) → js ≡ j ∷ left → r (view j) ≡ Err e → items_from js ≡ Err e
  item_fault left j e h f = ap items_from h ∙ row_fault vs (r (view j)) (read_all r (items_view left)) e f

  -- or no item is left
  pub items_done : js ≡ [] → items_from js ≡ Ok (items_trees vs)
  items_done h = ap items_from h ∙ ap Ok (joined-none vs)

-- ---- one item of each format

module _ (named : List ℕ → Data → Read Tree) (fs : List Format) (js : List Json) (vs : List Value) where
  abbrev each_from : List Format → List Json → Read Trees
  each_from gs ks = follow (read_each named (formats_shapes gs) (items_view ks)) (λ ts. Ok (joined vs ts))

  each_is : (gs : List Format) (ks : List Json) → fs ≡ gs → js ≡ ks → each_from fs js ≡ each_from gs ks
  each_is gs ks g h = ap (λ gs. each_from gs js) g ∙ ap (λ ks. each_from gs ks) h

  -- the first item is read
  pub each_more : (f : Format) (gs : List Format) (j : Json) (left : List Json) (v : Value) → fs ≡ f ∷ gs → js ≡ j ∷ left → read_shape named (shape_of f) (view j) ≡ Ok (tree_of v)
      → each_from fs js ≡ follow (read_each named (formats_shapes gs) (items_view left)) (λ ts. Ok (joined (vs ++ v ∷ []) ts))
  each_more f gs j left v g h e = each_is (f ∷ gs) (j ∷ left) g h ∙ row_more vs v (read_shape named (shape_of f) (view j)) (read_each named (formats_shapes gs) (items_view left)) e

  -- or no format is left
  pub each_done : fs ≡ [] → each_from fs js ≡ Ok (items_trees vs)
  each_done g = ap (λ gs. each_from gs js) g ∙ ap Ok (joined-none vs)
