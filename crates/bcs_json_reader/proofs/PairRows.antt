-- The entries of a map: those read so far, followed by those that are left.
use Rattle.bcs_json_reader.proofs.Prelude.{◌≡◌, ◌∙◌, ◌++◌, List, [], ◌∷◌, Ok, Err, refl, ap, sym, Data, view, items_view, Json, Tree, Pairs, no_pairs, pair, tree_of, entries_pairs, Value, Read, follow, read_pair, read_pairs}

abbrev pub joined_pairs : List (Value × Value) → Pairs → Pairs
joined_pairs [] ps = ps
joined_pairs (e ∷ es) ps = pair (tree_of e.0) (tree_of e.1) (joined_pairs es ps)

joined_pairs-none : (es : List (Value × Value)) → joined_pairs es no_pairs ≡ entries_pairs es
joined_pairs-none [] = refl
joined_pairs-none (e ∷ es) = ap (pair (tree_of e.0) (tree_of e.1)) (joined_pairs-none es)

joined_pairs-more : (es : List (Value × Value)) (e : Value × Value) (ps : Pairs) → joined_pairs (es ++ e ∷ []) ps ≡ joined_pairs es (pair (tree_of e.0) (tree_of e.1) ps)
joined_pairs-more [] e ps = refl
joined_pairs-more (d ∷ es) e ps = ap (pair (tree_of d.0) (tree_of d.1)) (joined_pairs-more es e ps)

step : (es : List (Value × Value)) (e : Value × Value) (rest : Read Pairs)
    → follow (follow rest (λ ps. Ok (pair (tree_of e.0) (tree_of e.1) ps))) (λ ps. Ok (joined_pairs es ps)) ≡ follow rest (λ ps. Ok (joined_pairs (es ++ e ∷ []) ps))
step es e (Ok ps) = ap Ok (sym (joined_pairs-more es e ps))
step es e (Err f) = refl

-- ---- an entry

-- ---- consecutive entries

module _ (k v : Data → Read Tree) (js : List Json) (es : List (Value × Value)) where
  abbrev pairs_from : List Json → Read Pairs
  pairs_from ls = follow (read_pairs k v (items_view ls)) (λ ps. Ok (joined_pairs es ps))

  abbrev after : List Json → Read (Tree × Tree) → Read Pairs
  after left x = follow (follow x (λ p. follow (read_pairs k v (items_view left)) (λ ps. Ok (pair p.0 p.1 ps)))) (λ ps. Ok (joined_pairs es ps))

  -- the first entry is read
  pub pair_more : (left : List Json) (j : Json) (x : Value × Value) → js ≡ j ∷ left → read_pair k v (view j) ≡ Ok (tree_of x.0, tree_of x.1)
      → pairs_from js ≡ follow (read_pairs k v (items_view left)) (λ ps. Ok (joined_pairs (es ++ x ∷ []) ps))
  pair_more left j x h r = ap pairs_from h ∙ ap (after left) r ∙ step es x (read_pairs k v (items_view left))

  -- or no entry is left
  pub pairs_done : js ≡ [] → pairs_from js ≡ Ok (entries_pairs es)
  pairs_done h = ap pairs_from h ∙ ap Ok (joined_pairs-none es)
