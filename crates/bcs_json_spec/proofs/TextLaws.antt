-- What texts denote; and that such texts aren't refused.
use Rattle.bcs_json_spec.proofs.Prelude.{◌≡◌, ◌∙◌, ℕ, ◌≤◌, List, sym, subst, arith, same_Some, Data, depth, Entries, IsJson, Shape, Bounds, Tree, LengthsHold, HasDistinctKeys, of, DenotesOnce, DenotedIsNotRefused, Refuses, Spells, nesting_limit, Denotes, SpelledBy, Misspells, JsonFault, NotJson, TooNested, TooManyNodes, TooLong, RepeatedKey, OutOfMemory}
use Rattle.bcs_value_model.specs.Tree as tree
use Rattle.bcs_json_spec.proofs.Verdict.{one_tree, one_verdict}

pub same_read : (text : List ℕ) (d e : Data) → IsJson text d → IsJson text e → d ≡ e
same_read text d e g h = same_Some d e (sym g.1 ∙ h.1)

pub denotes_once : DenotesOnce
denotes_once registry limits s text t u g h =
    one_tree registry (of s) h.read t u (subst (λ d. Spells registry t (of s) d) (same_read text g.read h.read g.is.0 h.is.0) g.spells) h.spells

module _ (registry : Entries) (limits : Bounds) (s : Shape) (text : List ℕ) (t : Tree) (g : Denotes registry limits s text t) where
  -- what the text spells is what it denotes
  same_tree : (u : Tree) → SpelledBy registry limits s text u → u ≡ t
  same_tree u h = one_tree registry (of s) g.read u t (subst (λ d. Spells registry u (of s) d) (same_read text h.read g.read h.is.0 g.is.0) h.spells.0) g.spells

  spelled : (e : JsonFault) → Misspells registry limits s text e → ⊥
  spelled e h =
      (one_verdict registry limits.depth (of s) g.read).not_both t e (g.spells, g.sound.depth_holds)
      (subst (λ d. Refuses registry limits.depth (of s) d e) (same_read text h.0 g.read h.1.0 g.is.0) h.2)

pub denoted_is_not_refused : DenotedIsNotRefused
denoted_is_not_refused registry limits s text t NotJson g h = h g.read g.is.0
denoted_is_not_refused registry limits s text t TooNested g h =
    let within : depth h.0 ≤ nesting_limit = subst (λ d. depth d ≤ nesting_limit) (same_read text g.read h.0 g.is.0 h.1) g.is.1 in
    omega (arith, within, h.2)
denoted_is_not_refused registry limits s text t TooManyNodes g h =
    let within : tree.nodes h.0 ≤ limits.nodes = subst (λ u. tree.nodes u ≤ limits.nodes) (sym (same_tree registry limits s text t g h.0 h.1)) g.sound.nodes_hold in
    omega (arith, within, h.2.2)
denoted_is_not_refused registry limits s text t TooLong g h = h.2.3 (subst (LengthsHold registry s) (sym (same_tree registry limits s text t g h.0 h.1)) g.sound.lengths)
denoted_is_not_refused registry limits s text t RepeatedKey g h = h.2.1 (subst HasDistinctKeys (sym (same_tree registry limits s text t g h.0 h.1)) g.sound.distinct)
denoted_is_not_refused registry limits s text t OutOfMemory g h = h
denoted_is_not_refused registry limits s text t e g h = spelled registry limits s text t g e h
