-- Validating and writing a list, from its next element on.
use Rattle.bcs_encode_impl.proofs.Prelude.{◌≡◌, ℕ, ◌+◌, ◌<◌, List, ◌∷◌, length, drop, get_or, Bor, Option, Some, option_map, sym, ap, ◌∙◌, drop_more, option_and_then, option_map_or, Entries, Content, of, nothing, content, content_at, container_at, Shape, container_of, Container, Tree, Pairs, pair, tree_of, items_trees, entries_pairs, Value, chain, written, items_written, less, validated, all_validated, pairs_validated}
use Rattle.bcs_registry_model.specs.Container as spec
use Rattle.bcs_registry_model.specs.Shape as shape
use Rattle.bcs_value_model.specs.Tree as tree

-- a list from its next element on
pub next : {X : Type 0} (xs : List X) (i : ℕ) (x : X) → i < length xs → x ≡ get_or xs i x → drop i xs ≡ x ∷ drop (i + 1) xs
next {X = X} xs i x low is = drop_more xs i x low ∙ ap (λ (y : X). y ∷ drop (i + 1) xs) (sym is)

module _ (r : Entries) (vs : List Value) (i : ℕ) (x : Value) (low : i < length vs) (is : x ≡ get_or vs i x) where
  pub item_written : (s : Shape) (b : List ℕ)
      → items_written r (items_trees (drop i vs)) s b ≡ chain (written r (tree_of x) (of s) b) (items_written r (items_trees (drop (i + 1) vs)) s)
  item_written s b = ap (λ (us : List Value). items_written r (items_trees us) s b) (next vs i x low is)

  pub item_validated : (s : Shape) (d n m : ℕ) → validated r (tree_of x) (of s) d n ≡ Some m
      → all_validated r (items_trees (drop i vs)) s d n ≡ all_validated r (items_trees (drop (i + 1) vs)) s d m
  item_validated s d n m h =
      ap (λ (us : List Value). all_validated r (items_trees us) s d n) (next vs i x low is)
      ∙ ap (option_and_then (all_validated r (items_trees (drop (i + 1) vs)) s d)) h

module _ (r : Entries) (ps : List (Value × Value)) (i : ℕ) (p : Value × Value) (low : i < length ps) (is : p ≡ get_or ps i p) where
  pub pair_next : entries_pairs (drop i ps) ≡ pair (tree_of p.0) (tree_of p.1) (entries_pairs (drop (i + 1) ps))
  pair_next = ap entries_pairs (next ps i p low is)

  pub pair_validated : (k v : Shape) (d n m q : ℕ) → validated r (tree_of p.0) (of k) d n ≡ Some m → validated r (tree_of p.1) (of v) d m ≡ Some q
      → pairs_validated r (entries_pairs (drop i ps)) k v d n ≡ pairs_validated r (entries_pairs (drop (i + 1) ps)) k v d q
  pair_validated k v d n m q first second =
      let rest = entries_pairs (drop (i + 1) ps) in
      ap (λ (qs : Pairs). pairs_validated r qs k v d n) pair_next
      ∙ ap (option_and_then (λ (x : ℕ). option_and_then (pairs_validated r rest k v d) (validated r (tree_of p.1) (of v) d x))) first
      ∙ ap (option_and_then (pairs_validated r rest k v d)) second

-- a container that was found, and the validation of its value
pub content_found : (r : Entries) (name : List ℕ) (o : Option (Bor Container)) (x : Bor Container) → option_map (λ (c : Bor Container). container_of c.now) o ≡ container_at name r → o ≡ Some x
    → content_at name r ≡ content (container_of x.now)
content_found r name o x found some =
    ap (λ (q : Option spec.Container). option_map_or content q nothing) (sym found ∙ ap (option_map (λ (c : Bor Container). container_of c.now)) some)

pub named_validated : (r : Entries) (t : Tree) (name : List ℕ) (f : Content) (d e n m q : ℕ) → less 1 d ≡ Some e → less 1 n ≡ Some m → content_at name r ≡ f → validated r t f e m ≡ Some q
    → validated r (tree.named t) (of (shape.name name)) d n ≡ Some q
named_validated r t name f d e n m q deeper one is h =
    ap (option_and_then (λ (x : ℕ). option_and_then (validated r t (content_at name r) x) (less 1 n))) deeper
    ∙ ap (option_and_then (validated r t (content_at name r) e)) one
    ∙ ap (λ (c : Content). validated r t c e m) is
    ∙ h
