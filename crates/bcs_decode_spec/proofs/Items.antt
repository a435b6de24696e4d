-- Lists of elements.
use Rattle.bcs_decode_spec.proofs.Prelude.{◌≡◌, ℕ, zero, suc, ◌+◌, List, [], ◌++◌, length, refl, sym, ap, ap₂, subst, ◌∙◌, append_assoc, arith, inl, inr, length-append, append-nil, Shape, Entries, Content, of, Tree, Trees, no_trees, tree, count, nodes, trees_nodes, plain, plain_items, Reason, Parser, items_here, building, Stopping, AllAre, ItemsStop, Reads, Exact}
use Rattle.bcs_decode_spec.proofs.Combine.{exact_give, exact_chain, exact_same, GiveReads, NoStop, ThenReads, ThenStop}

-- reading a tree with the property Good
abbrev pub Says : Entries → Content → (Tree → Type 0) → Reads Tree
Says registry f Good t w s = Good t × (w ≡ nodes t) × (s ≡ plain registry t f)

pub moved : (S : Stopping) {p q m l : ℕ} {b c : List ℕ} {e : Reason} {o : ℕ} → p ≡ q → m ≡ l → b ≡ c → S p m b e o → S q l c e o
moved S {e = e} {o = o} i j k s =
    subst (λ (z : ℕ × ℕ × List ℕ). S z.0 z.1 z.2 e o) (ap₂ (λ (x : ℕ) (y : ℕ × List ℕ). (x, y.0, y.1)) i (ap₂ (λ (x : ℕ) (y : List ℕ). (x, y)) j k)) s

abbrev pub ItemsReads : Entries → Shape → (Tree → Type 0) → ℕ → Reads Trees
ItemsReads registry f Good n ts w s = (count ts ≡ n) × AllAre Good ts × (w ≡ trees_nodes ts) × (s ≡ plain_items registry ts f)

module _ (registry : Entries) (f : Shape) (Good : Tree → Type 0) (S : Stopping) (parser : Parser Tree) (ex : Exact (Says registry (of f) Good) S parser) where
  abbrev bytes_of : Tree → List ℕ
  bytes_of t = plain registry t (of f)

  abbrev all_bytes : Trees → List ℕ
  all_bytes ts = plain_items registry ts f

  abbrev Here : Reads Tree
  Here = Says registry (of f) Good

  abbrev Row : ℕ → Reads Trees
  Row = ItemsReads registry f Good

  abbrev RowStop : ℕ → Stopping
  RowStop = ItemsStop registry f Good S

  abbrev MoreReads : ℕ → Reads Trees
  MoreReads n = ThenReads Here (λ t. ThenReads (Row n) (λ ts. GiveReads (tree t ts)))

  abbrev MoreStop : ℕ → Stopping
  MoreStop n = ThenStop Here S (λ _ t. ThenStop (Row n) (RowStop n) (λ _ ts. NoStop))

  none_to : (ts : Trees) (w : ℕ) (s : List ℕ) → GiveReads no_trees ts w s → Row 0 ts w s
  none_to ts w s g = subst (λ (us : Trees). Row 0 us w s) (sym g.0) (refl, tt, g.1, g.2)

  none_from : (ts : Trees) (w : ℕ) (s : List ℕ) → Row 0 ts w s → GiveReads no_trees ts w s
  none_from no_trees w s g = (refl, g.2, g.3)
  none_from (tree t ts) w s g = absurd (let e = g.0 in cc)

  to : (n : ℕ) (ts : Trees) (w : ℕ) (s : List ℕ) → MoreReads n ts w s → Row (suc n) ts w s
  to n y w s (t, v, u, r, z, g, (ts, v2, u2, r2, z2, g2, i2, e2, d2), e, d) =
      subst (λ (us : Trees). Row (suc n) us w s) (sym i2.0)
      (ap suc g2.0, (g.0, g2.1), omega (arith, e, e2, i2.1, g.1, g2.2), d ∙ ap₂ (λ (x y : List ℕ). x ++ y) g.2 (d2 ∙ ap₂ (λ (x y : List ℕ). x ++ y) g2.3 i2.2 ∙ append-nil (all_bytes ts)))

  from : (n : ℕ) (ts : Trees) (w : ℕ) (s : List ℕ) → Row (suc n) ts w s → MoreReads n ts w s
  from n no_trees w s g = absurd (let e = g.0 in cc)
  from n (tree t ts) w s g =
      let k : count ts ≡ n = (let e = g.0 in cc) in
      (t, nodes t, trees_nodes ts, bytes_of t, all_bytes ts, (g.1.0, refl, refl), (ts, trees_nodes ts, 0, all_bytes ts, [], (k, g.1.1, refl, refl), (refl, refl, refl), omega arith, sym (append-nil (all_bytes ts))), g.2, g.3)

  on : (n p m : ℕ) (b : List ℕ) (e : Reason) (o : ℕ) → MoreStop n p m b e o → RowStop (suc n) p m b e o
  on n p m b e o (inl s) = (no_trees, b, m, omega arith, tt, refl, omega arith, moved S (let z : p ≡ p + 0 = omega arith in z) refl refl s)
  on n p m b e o (inr (t, v, r, c, l, g, d, k, inl (ts, c2, l2, lt, all, d2, k2, s))) = (
    tree t ts,
    c2,
    l2,
    omega (arith, lt),
    (g.0, all),
    d ∙ ap₂ (λ (x y : List ℕ). x ++ y) g.2 d2 ∙ sym (append_assoc (bytes_of t) (all_bytes ts) c2),
    omega (arith, k, k2, g.1),
    moved S (let z : (p + length r) + length (all_bytes ts) ≡ p + length (bytes_of t ++ all_bytes ts) = omega (arith, ap length g.2, length-append (bytes_of t) (all_bytes ts)) in z) refl refl s,
  )
  on n p m b e o (inr (t, v, r, c, l, g, d, k, inr (ts, v2, r2, c2, l2, g2, d2, k2, s))) = absurd s

  back : (n p m : ℕ) (b : List ℕ) (e : Reason) (o : ℕ) → RowStop (suc n) p m b e o → MoreStop n p m b e o
  back n p m b e o (no_trees, c, l, lt, all, d, k, s) =
      inl (moved S (let z : p + 0 ≡ p = omega arith in z) (let z : l ≡ m = omega (arith, k) in z) (sym d) s)
  back n p m b e o (tree t ts, c, l, lt, all, d, k, s) =
      inr (
        t,
        nodes t,
        bytes_of t,
        all_bytes ts ++ c,
        trees_nodes ts + l,
        (all.0, refl, refl),
        d ∙ append_assoc (bytes_of t) (all_bytes ts) c,
        omega (arith, k),
        inl (
          ts,
          c,
          l,
          omega (arith, lt),
          all.1,
          refl,
          refl,
          moved S (let z : p + length (bytes_of t ++ all_bytes ts) ≡ (p + length (bytes_of t)) + length (all_bytes ts) = omega (arith, length-append (bytes_of t) (all_bytes ts)) in z) refl refl s,
        ),
      )

  pub exact_items : (n : ℕ) → Exact (Row n) (RowStop n) (items_here building parser n)
  unfolding items_here
  exact_items zero =
      exact_same (exact_give no_trees) none_to none_from (λ p m b e o s. absurd s) (λ p m b e o s. absurd (let lt = s.3 in omega arith))
  exact_items (suc n) =
      exact_same (exact_chain ex (λ t v r g. exact_chain (exact_items n) (λ ts u z h. exact_give (tree t ts)))) (to n) (from n) (on n) (back n)
