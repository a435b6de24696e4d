-- Skipping a value that is ahead.
use Rattle.bcs_decode_parts.proofs.Prelude.{◌≡◌, ℕ, suc, ◌-◌, List, ◌++◌, length, take, drop, Ok, Err, refl, sym, ap, ◌∙◌, arith, length-append, take-append-drop, take_at, drop_at, Shape, Entries, of, Tree, nodes, Bounds, plain, Reason, Accepts, Parser, Read, items_here, shape_here, value_here, node, chain, skipping, parts, decodable, accepts_skips, skip, Cursor, bare, Ahead, Fronts}
use Rattle.bcs_registry_model.specs.Shape as shape

module _ (registry : Entries) (ahead : Ahead) where
  module _ (s : Shape) (t : Tree) (after : List ℕ) (h : Fronts registry ahead (of s) t after) where
    abbrev own : List ℕ
    own = plain registry t (of s)

    accepted : Accepts registry (record { depth = ahead.depth; nodes = ahead.nodes }) s ahead.bytes.now (length own) t
    accepted = record {
      sound = record {
        fit = h.good.sound.fit;
        distinct = h.good.sound.distinct;
        depth_holds = h.good.sound.depth_holds;
        nodes_hold = h.few;
        lengths = h.good.sound.lengths;
      };
      canonical = h.good.canonical;
      within = omega (arith, ap length h.is, length-append own after);
      is = ap (take (length own)) h.is ∙ take_at own after (length own) refl;
    }

    -- skipping it ends at its last byte
    pub skipped : skip registry ahead.depth s 0 ahead.nodes ahead.bytes.now ≡ Ok (tt, length own, ahead.nodes - nodes t, after)
    skipped =
        accepts_skips registry (record { depth = ahead.depth; nodes = ahead.nodes }) s ahead.bytes.now (length own) t accepted
        ∙ ap (λ (c : List ℕ). Ok (tt, length own, ahead.nodes - nodes t, c)) (ap (drop (length own)) h.is ∙ drop_at own after (length own) refl)

  -- ---- what a cursor skips

  -- the cursor is at the start of what is ahead
  pub record Over (cursor : Cursor) : Type 0 where
    pub rest : cursor.rest.now ≡ ahead.bytes.now
    pub place : cursor.place ≡ 0
    pub nodes_are : cursor.nodes ≡ ahead.nodes

  abbrev from_front : {A : Type 0} → Parser A → Read A
  from_front f = f 0 ahead.nodes ahead.bytes.now

  at_front : {A : Type 0} (f : Parser A) (cursor : Cursor) → Over cursor → f cursor.place cursor.nodes cursor.rest.now ≡ from_front f
  at_front f cursor o = rw (o.place, o.nodes_are, o.rest) refl

  -- a parser that ends in two places, ends in the same place
  pub passed : (f : Parser (Unit {0})) (cursor : Cursor) (q l p m : ℕ) (c after : List ℕ) → Over cursor → f cursor.place cursor.nodes cursor.rest.now ≡ Ok (tt, q, l, c)
      → from_front f ≡ Ok (tt, p, m, after) → c ≡ after
  passed f cursor q l p m c after o h k = (parts {A = Unit {0}} tt tt q p l m c after (sym h ∙ at_front f cursor o ∙ k)).3

  pub stuck : (f : Parser (Unit {0})) (cursor : Cursor) (p m : ℕ) (e : Reason × ℕ) (after : List ℕ) → Over cursor → f cursor.place cursor.nodes cursor.rest.now ≡ Err e
      → from_front f ≡ Ok (tt, p, m, after) → ⊥
  stuck f cursor p m e after o h k = let same = sym h ∙ at_front f cursor o ∙ k in absurd cc

-- ---- sequences of values

-- an array is a node, followed by its elements
array_is : (registry : Entries) (d : ℕ) (s : Shape) (n p m : ℕ) (b : List ℕ) → skip registry d (shape.array s n) p (suc m) b ≡ items_here skipping (skip registry d s) n p m b
unfolding value_here shape_here node chain
array_is registry d s n p m b = bare (items_here skipping (value_here skipping registry d s) n p m b)

-- skipping the elements of an array that is ahead
pub row_skipped : (registry : Entries) (ahead : Ahead) (s : Shape) (n : ℕ) (t : Tree) (after : List ℕ) → Fronts registry ahead (of (shape.array s n)) t after
    → items_here skipping (skip registry ahead.depth s) n 0 ahead.nodes ahead.bytes.now ≡ Ok (tt, length (plain registry t (of (shape.array s n))), suc ahead.nodes - nodes t, after)
row_skipped registry ahead s n t after h =
    let more : Ahead = record ahead { nodes = suc ahead.nodes } in
    sym (array_is registry ahead.depth s n 0 ahead.nodes ahead.bytes.now)
    ∙ skipped registry more (shape.array s n) t after (record { good = h.good; few = (let k = h.few in omega (arith, k)); is = h.is })

-- ---- the whole input

-- an accepted value is ahead
pub accepted_stands : (registry : Entries) (limits : Bounds) (s : Shape) (b : List ℕ) (n : ℕ) (c : Tree) (ahead : Ahead) → Accepts registry limits s b n c
    → ahead.bytes.now ≡ b → ahead.depth ≡ limits.depth → ahead.nodes ≡ limits.nodes → Fronts registry ahead (of s) c (drop n b)
accepted_stands registry limits s b n c ahead h is deep many =
    let sound = h.sound in
    let few = sound.nodes_hold in
    let below = sound.depth_holds in
    record {
      good = decodable registry ahead.depth (of s) c sound.fit h.canonical (omega (arith, below, deep)) sound.lengths;
      few = omega (arith, few, many);
      is = is ∙ sym (take-append-drop n b) ∙ ap (λ (x : List ℕ). x ++ drop n b) h.is;
    }
