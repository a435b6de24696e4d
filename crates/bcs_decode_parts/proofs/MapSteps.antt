-- A step to the value of a map entry.
use Rattle.bcs_decode_parts.proofs.Prelude.{◌≡◌, ℕ, ◌-◌, ◌<◌, ◌^◌, nat_le, List, ◌++◌, length, Option, Some, None, refl, sym, ap, subst, ◌∙◌, append_assoc, arith, and_parts, leb-true, length-append, uleb, Shape, Entries, of, Tree, Pairs, no_pairs, pair, pair_count, pairs_nodes, plain, plain_pairs, length_limit, pairs_hold, IsDecodable, AllRise, are_pairs, key, value_of, step_at, Ahead, Reached, content_of, Fronts, LeadsTo}
use Rattle.bcs_registry_model.specs.Shape as shape
use Rattle.bcs_value_model.specs.Tree as tree
use Rattle.bcs_decode_parts.proofs.Arrivals.{AsLimited, fronts, reached, somewhere, leads_after}
use Rattle.bcs_decode_parts.proofs.KeysLead.{same_bytes, other_bytes}
use Rattle.bcs_decode_parts.proofs.RowSteps.{NumberIs, RestIs, NoneStands}

module _ (registry : Entries) (ahead : Ahead) (f g : Shape) (wanted : List ℕ) where
  -- `bytes` begin with the entries `ps`, one after another
  pub record EntriesStand (bytes : List ℕ) (ps : Pairs) (after : List ℕ) : Type 0 where
    pub last : Option (List ℕ)
    pub all : AllRise registry f (IsDecodable registry ahead.depth (of f)) (IsDecodable registry ahead.depth (of g)) last ps
    pub few : pairs_nodes ps < ahead.nodes
    pub is : bytes ≡ plain_pairs registry ps f g ++ after

  -- `r` is the result of looking for the value among the next `n` entries
  abbrev pub Finds : List ℕ → ℕ → Option Reached → Type 0
  Finds bytes n r = (ps : Pairs) (after : List ℕ) → pair_count ps ≡ n → EntriesStand bytes ps after → LeadsTo registry bytes (value_of registry ps f g wanted) r

  -- the same for the whole map
  abbrev pub FindsInMap : Option Reached → Type 0
  FindsInMap r = (t : Tree) (after : List ℕ) → Fronts registry ahead (of (shape.map f g)) t after → LeadsTo registry ahead.bytes.now (step_at registry (key wanted) (of (shape.map f g)) t) r

  map_entries : (ps : Pairs) (after : List ℕ) → Fronts registry ahead (of (shape.map f g)) (tree.pairs ps) after
      → EntriesStand (plain_pairs registry ps f g ++ after) ps after × (pair_count ps < 2 ^ 32) × (ahead.bytes.now ≡ uleb (pair_count ps) ++ (plain_pairs registry ps f g ++ after))
  map_entries ps after h =
      let e = h.good in
      let p = and_parts (nat_le (pair_count ps) length_limit) (pairs_hold length_limit registry ps f g) e.sound.lengths in (
        record {
          last = None;
          all = are_pairs registry ahead.depth None f g ps (record { fit_is = e.sound.fit; canonical_is = e.canonical; deep_is = e.sound.depth_holds; long_is = p.1 });
          few = (let k = h.few in omega (arith, k));
          is = refl;
        },
        omega (arith, leb-true (pair_count ps) length_limit p.0),
        h.is ∙ append_assoc (uleb (pair_count ps)) (plain_pairs registry ps f g) after,
      )

  -- what is found among the entries after the count is found in the map
  pub found_in_map : (n : ℕ) (rest : List ℕ) → NumberIs ahead.bytes.now n rest → (r : Option Reached) → Finds rest n r → FindsInMap r
  found_in_map n rest number r found (tree.pairs ps) after h =
      let m = map_entries ps after h in
      let e = number (pair_count ps) (plain_pairs registry ps f g ++ after) m.1 m.2 in
      leads_after registry ahead.bytes.now (uleb (pair_count ps)) rest (value_of registry ps f g wanted) r (m.2 ∙ ap (λ (b : List ℕ). uleb (pair_count ps) ++ b) (sym e.1))
      (found ps after (sym e.0) (subst (λ (b : List ℕ). EntriesStand b ps after) (sym e.1) m.0))
  found_in_map n rest number r found _ after h = absurd (let e = h.good.sound.fit in cc)

  -- no entries are left
  pub none_left : (bytes : List ℕ) (n : ℕ) → n ≡ 0 → Finds bytes n None
  none_left bytes n e no_pairs after long h = tt
  none_left bytes n e (pair k v ps) after long h = absurd (omega (arith, e, long))

  -- ---- the next entry

  module _ (bytes : List ℕ) (k v : Tree) (ps : Pairs) (after : List ℕ) (h : EntriesStand bytes (pair k v ps) after) where
    abbrev key_bytes : List ℕ
    key_bytes = plain registry k (of f)

    abbrev value_bytes : List ℕ
    value_bytes = plain registry v (of g)

    abbrev others : List ℕ
    others = plain_pairs registry ps f g ++ after

    parted : bytes ≡ key_bytes ++ (value_bytes ++ others)
    parted = h.is ∙ append_assoc key_bytes (value_bytes ++ plain_pairs registry ps f g) after ∙ ap (λ (b : List ℕ). key_bytes ++ b) (append_assoc value_bytes (plain_pairs registry ps f g) after)

    key_stands : (mid : Ahead) → AsLimited ahead mid → mid.bytes.now ≡ bytes → Fronts registry mid (of f) k (value_bytes ++ others)
    key_stands mid alike is = let few = h.few in fronts registry ahead mid (of f) k (value_bytes ++ others) alike h.all.0 (omega (arith, few)) (is ∙ parted)

    value_stands : (mid : Ahead) → AsLimited ahead mid → mid.bytes.now ≡ value_bytes ++ others → Fronts registry mid (of g) v others
    value_stands mid alike is = let few = h.few in fronts registry ahead mid (of g) v others alike h.all.2 (omega (arith, few)) is

    others_stand : EntriesStand others ps after
    others_stand = record { last = Some key_bytes; all = h.all.3; few = (let few = h.few in omega (arith, few)); is = refl }

  module _ (bytes : List ℕ) (n : ℕ) (some : 0 < n) (first : Ahead) (limited : AsLimited ahead first) (is : first.bytes.now ≡ bytes) where
    pub key_stuck : NoneStands registry first (of f) → (r : Option Reached) → Finds bytes n r
    key_stuck none r no_pairs after long h = absurd (omega (arith, some, long))
    key_stuck none r (pair k v ps) after long h = absurd (none k (value_bytes bytes k v ps after h ++ others bytes k v ps after h) (key_stands bytes k v ps after h first limited is))

    module _ (behind front : List ℕ) (found : RestIs registry first (of f) behind) (before : (z : List ℕ) → bytes ≡ z ++ behind → front ≡ z) where
      key_is : (k v : Tree) (ps : Pairs) (after : List ℕ) (h : EntriesStand bytes (pair k v ps) after) → (behind ≡ plain registry v (of g) ++ (plain_pairs registry ps f g ++ after)) × (front ≡ plain registry k (of f))
      key_is k v ps after h =
          let rest = found k (value_bytes bytes k v ps after h ++ others bytes k v ps after h) (key_stands bytes k v ps after h first limited is) in
          (rest, before (plain registry k (of f)) (parted bytes k v ps after h ∙ ap (λ (b : List ℕ). plain registry k (of f) ++ b) (sym rest)))

      -- this entry has the key
      pub key_leads : (q : Reached) → front ≡ wanted → content_of q.here ≡ of g → AsLimited ahead q.ahead → q.ahead.bytes.now ≡ behind → Finds bytes n (Some q)
      key_leads q e same alike on no_pairs after long h = absurd (omega (arith, some, long))
      key_leads q e same alike on (pair k v ps) after long h =
          let is_key = key_is k v ps after h in
          let few = h.few in
          somewhere registry bytes _ (record { value = v; content = of g; place = length (plain registry k (of f)) }) q
          (rw (same_bytes wanted (plain registry k (of f)) (sym e ∙ is_key.1)) refl)
          (reached registry ahead _ q bytes (plain registry k (of f)) (plain_pairs registry ps f g ++ after) same alike h.all.2 (omega (arith, few)) refl (parted bytes k v ps after h) (on ∙ is_key.0))

      -- this entry has another key
      module _ (other : front ≡ wanted → ⊥) (second : Ahead) (limited2 : AsLimited ahead second) (is2 : second.bytes.now ≡ behind) where
        pub value_stuck : NoneStands registry second (of g) → (r : Option Reached) → Finds bytes n r
        value_stuck none r no_pairs after long h = absurd (omega (arith, some, long))
        value_stuck none r (pair k v ps) after long h =
            absurd (none v (others bytes k v ps after h) (value_stands bytes k v ps after h second limited2 (is2 ∙ (key_is k v ps after h).0)))

        pub next_finds : (rest : List ℕ) (r : Option Reached) → RestIs registry second (of g) rest → Finds rest (n - 1) r → Finds bytes n r
        next_finds rest r found2 next no_pairs after long h = absurd (omega (arith, some, long))
        next_finds rest r found2 next (pair k v ps) after long h =
            let is_key = key_is k v ps after h in
            let own = plain registry k (of f) in
            let value = plain registry v (of g) in
            let on = found2 v (others bytes k v ps after h) (value_stands bytes k v ps after h second limited2 (is2 ∙ is_key.0)) in
            let there = next ps after (omega (arith, long)) (subst (λ (b : List ℕ). EntriesStand b ps after) (sym on) (others_stand bytes k v ps after h)) in
            let whole : bytes ≡ (own ++ value) ++ rest = parted bytes k v ps after h ∙ ap (λ (b : List ℕ). own ++ (value ++ b)) (sym on) ∙ sym (append_assoc own value rest) in
            rw (other_bytes wanted own (λ e. other (is_key.1 ∙ sym e)), ← length-append own value)
            (leads_after registry bytes (own ++ value) rest (value_of registry ps f g wanted) r whole there)
