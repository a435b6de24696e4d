-- Skipping a value finds the one verdict.
use Rattle.bcs_decode_spec.proofs.Prelude.{◌≡◌, ℕ, ◌-◌, List, drop, Ok, Err, sym, ◌∙◌, Shape, Entries, Tree, nodes, Bounds, Reason, Accepts, skip_value, Stops}
use Rattle.bcs_decode_spec.proofs.Combine.{parts, fault_parts}
use Rattle.bcs_decode_spec.proofs.Verdicts.{accepts_skips, stops_skips}

module _ (registry : Entries) (limits : Bounds) (s : Shape) (b : List ℕ) where
  pub found_only : (q l : ℕ) (r : List ℕ) → skip_value registry limits s b ≡ Ok (tt, q, l, r) → (n : ℕ) (c : Tree) → Accepts registry limits s b n c → q ≡ n
  found_only q l r h n c good =
      (parts {A = Unit {0}} tt tt q n l (limits.nodes - nodes c) r (drop n b) (sym h ∙ accepts_skips registry limits s b n c good)).1

  pub found_never : (q l : ℕ) (r : List ℕ) → skip_value registry limits s b ≡ Ok (tt, q, l, r) → (e : Reason) (o : ℕ) → Stops registry limits s b e o → ⊥
  found_never q l r h e o bad = let same = sym h ∙ stops_skips registry limits s b e o bad in cc

  pub stopped_never : (e : Reason) (o : ℕ) → skip_value registry limits s b ≡ Err (e, o) → (n : ℕ) (c : Tree) → Accepts registry limits s b n c → ⊥
  stopped_never e o h n c good = let same = sym h ∙ accepts_skips registry limits s b n c good in cc

  pub stopped_only : (d : Reason) (p : ℕ) → skip_value registry limits s b ≡ Err (d, p) → (e : Reason) (o : ℕ) → Stops registry limits s b e o → (d ≡ e) × (p ≡ o)
  stopped_only d p h e o bad = fault_parts {A = Unit {0}} (skip_value registry limits s b) d e p o h (stops_skips registry limits s b e o bad)
