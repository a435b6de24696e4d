-- A step into an option, a container or a variant.
use Rattle.bcs_decode_parts.proofs.Prelude.{◌≡◌, ℕ, ◌-◌, ◌<◌, ◌^◌, List, [], ◌∷◌, ◌++◌, Some, false, refl, sym, subst, ◌∙◌, append_assoc, arith, uleb, Shape, Entries, Content, Choice, of, one_of, content_at, choice_at, Tree, number_fits, payload_fits, plain, IsDecodable, decodable, inner, step_at, Ahead, Reached, content_of, Fronts, LeadsTo}
use Rattle.bcs_registry_model.specs.Shape as shape
use Rattle.bcs_value_model.specs.Tree as tree
use Rattle.bcs_decode_parts.proofs.Arrivals.{AsLimited, fronts, reached}

module _ (registry : Entries) (ahead : Ahead) where
  -- ---- options

  module _ (s : Shape) where
    pub option_leads : (t : Tree) (after : List ℕ) (x : ℕ) (rest : List ℕ) (r : Reached) → Fronts registry ahead (of (shape.option s)) t after → ahead.bytes.now ≡ x ∷ rest → x ≡ 1
        → content_of r.here ≡ of s → AsLimited ahead r.ahead → r.ahead.bytes.now ≡ rest → LeadsTo registry ahead.bytes.now (step_at registry inner (of (shape.option s)) t) (Some r)
    option_leads tree.absent after x rest r h e one same alike on = absurd (let k = sym e ∙ h.is in cc)
    option_leads (tree.present t) after x rest r h e one same alike on =
        let g = h.good in
        let few = h.few in
        let k : rest ≡ plain registry t (of s) ++ after = (let same = sym e ∙ h.is in cc) in
        reached registry ahead (record { value = t; content = of s; place = 1 }) r ahead.bytes.now (1 ∷ []) after same alike
        (decodable registry ahead.depth (of s) t g.sound.fit g.canonical g.sound.depth_holds g.sound.lengths) (omega (arith, few)) refl h.is (on ∙ k)
    option_leads _ after x rest r h e one same alike on = absurd (let k = h.good.sound.fit in cc)

  -- ---- containers

  module _ (name : List ℕ) where
    inside : (t : Tree) (after : List ℕ) → Fronts registry ahead (of (shape.name name)) (tree.named t) after → IsDecodable registry (ahead.depth - 1) (content_at name registry) t
    inside t after h =
        let g = h.good in
        let deep = g.sound.depth_holds in
        decodable registry (ahead.depth - 1) (content_at name registry) t g.sound.fit g.canonical (omega (arith, deep)) g.sound.lengths

    pub container_leads : (t : Tree) (after : List ℕ) (r : Reached) → Fronts registry ahead (of (shape.name name)) t after → content_of r.here ≡ content_at name registry
        → r.ahead.depth ≡ ahead.depth - 1 → r.ahead.nodes ≡ ahead.nodes → r.ahead.bytes.now ≡ ahead.bytes.now → LeadsTo registry ahead.bytes.now (step_at registry inner (of (shape.name name)) t) (Some r)
    container_leads (tree.named t) after r h same deep many on =
        let few = h.few in
        let less : Ahead = record ahead { depth = ahead.depth - 1 } in
        reached registry less (record { value = t; content = content_at name registry; place = 0 }) r ahead.bytes.now [] after same (record { depth_is = deep; nodes_are = many })
        (inside t after h) (omega (arith, few)) refl h.is (on ∙ h.is)
    container_leads _ after r h same deep many on = absurd (let k = h.good.sound.fit in cc)

  -- ---- variants

  module _ (cs : List Choice) where
    variant_is : (n : ℕ) (t : Tree) (after : List ℕ) → Fronts registry ahead (one_of cs) (tree.variant n t) after
        → (n < 2 ^ 32) × (ahead.bytes.now ≡ uleb n ++ (plain registry t (choice_at n cs) ++ after)) × IsDecodable registry ahead.depth (choice_at n cs) t
    variant_is n t after h =
        let g = h.good in (
          number_fits false registry n t cs g.sound.fit,
          h.is ∙ append_assoc (uleb n) (plain registry t (choice_at n cs)) after,
          decodable registry ahead.depth (choice_at n cs) t (payload_fits false registry n t cs g.sound.fit) g.canonical g.sound.depth_holds g.sound.lengths,
        )

    -- the contents of the variant are ahead, after its number
    pub variant_stands : (t : Tree) (after : List ℕ) (s : Shape) (rest : List ℕ) (mid : Ahead) → Fronts registry ahead (one_of cs) t after
        → ((n : ℕ) (z : List ℕ) → n < 2 ^ 32 → ahead.bytes.now ≡ uleb n ++ z → (choice_at n cs ≡ of s) × (rest ≡ z)) → AsLimited ahead mid → mid.bytes.now ≡ rest
        → (u : Tree) × Fronts registry mid (of s) u after
    variant_stands (tree.variant n t) after s rest mid h found alike is =
        let v = variant_is n t after h in
        let c = found n (plain registry t (choice_at n cs) ++ after) v.0 v.1 in
        let few = h.few in
        (t, subst (λ (f : Content). Fronts registry mid f t after) c.0 (fronts registry ahead mid (choice_at n cs) t after alike v.2 (omega (arith, few)) (is ∙ c.1)))
    variant_stands _ after s rest mid h found alike is = absurd (let k = h.good.sound.fit in cc)
