-- A step to an element of a list, an array, a tuple or a struct.
use Rattle.bcs_decode_parts.proofs.Prelude.{◌≡◌, ℕ, ◌<◌, ◌≤◌, ◌^◌, ◌==◌, nat_le, false, List, ◌++◌, length, Some, None, refl, sym, ap, subst, ◌∙◌, append_assoc, arith, and_parts, and_from, eq-eqb, leb-true, uleb, Shape, Shapes, Entries, Content, of, Tree, Trees, tree, count, trees_nodes, all_fit, nat-same, plain, plain_items, plain_each, length_limit, all_hold, IsDecodable, AllAre, decodable, are_items, items_are, item, part_after, item_of, item_in, step_at, Ahead, Reached, content_of, Fronts, LeadsTo}
use Rattle.bcs_registry_model.specs.Shape as shape
use Rattle.bcs_value_model.specs.Tree as tree
use Rattle.bcs_decode_parts.proofs.Rows.{shapes_joined, shapes_count, ItemAt, item_at, no_item, EachAt, each_at, no_field}
use Rattle.bcs_decode_parts.proofs.Arrivals.{AsLimited, fronts, reached, nowhere, somewhere, leads_after}

-- `b` begins with the number `n`, followed by `rest`
abbrev pub NumberIs : List ℕ → ℕ → List ℕ → Type 0
NumberIs b n rest = (k : ℕ) (z : List ℕ) → k < 2 ^ 32 → b ≡ uleb k ++ z → (n ≡ k) × (rest ≡ z)

-- if a value of the content is ahead, `rest` comes after it
abbrev pub RestIs : Entries → Ahead → Content → List ℕ → Type 0
RestIs registry ahead f rest = (t : Tree) (z : List ℕ) → Fronts registry ahead f t z → rest ≡ z

abbrev pub NoneStands : Entries → Ahead → Content → Type 0
NoneStands registry ahead f = (t : Tree) (z : List ℕ) → Fronts registry ahead f t z → ⊥

module _ (registry : Entries) (ahead : Ahead) where
  -- ---- elements of one format

  -- consecutive values of one format
  pub record RowAhead (s : Shape) (ts : Trees) : Type 0 where
    pub all : AllAre (IsDecodable registry ahead.depth (of s)) ts
    pub few : trees_nodes ts < ahead.nodes

  module _ (s : Shape) (ts : Trees) (i : ℕ) (after : List ℕ) (mid : Ahead) (h : RowAhead s ts) (alike : AsLimited ahead mid) (is : mid.bytes.now ≡ plain_items registry ts s ++ after) (lt : i < count ts) where
    abbrev here : ItemAt registry ahead.depth s ts i
    here = item_at registry ahead.depth s ts i h.all lt

    abbrev later : List ℕ
    later = plain registry here.value (of s) ++ (plain_items registry here.later s ++ after)

    split : mid.bytes.now ≡ plain_items registry here.before s ++ later
    split =
        let front = plain_items registry here.before s in
        let own = plain registry here.value (of s) in
        let rest = plain_items registry here.later s in
        is ∙ ap (λ (b : List ℕ). b ++ after) here.bytes ∙ append_assoc front (own ++ rest) after ∙ ap (λ (b : List ℕ). front ++ b) (append_assoc own rest after)

    -- the earlier elements are ahead, as an array
    front_stands : Fronts registry mid (of (shape.array s i)) (tree.items here.before) later
    front_stands =
        let a = items_are registry ahead.depth s here.before here.before_good in
        let few = h.few in
        let m = here.few in
        fronts registry ahead mid (of (shape.array s i)) (tree.items here.before) later alike
        (decodable registry ahead.depth (of (shape.array s i)) (tree.items here.before) (and_from _ _ (eq-eqb (count here.before) i here.long) a.fit_is) a.canonical_is a.deep_is a.long_is)
        (omega (arith, few, m)) split

    pub row_stuck : NoneStands registry mid (of (shape.array s i)) → ⊥
    row_stuck none = none (tree.items here.before) later front_stands

    -- so the element comes right after them
    pub row_leads : (rest : List ℕ) (r : Reached) → RestIs registry mid (of (shape.array s i)) rest → content_of r.here ≡ of s → AsLimited ahead r.ahead → r.ahead.bytes.now ≡ rest
        → LeadsTo registry mid.bytes.now (item_of registry ts s i) (Some r)
    row_leads rest r found same as2 on =
        let few = h.few in
        let m = here.few in
        somewhere registry mid.bytes.now (item_of registry ts s i) _ r here.found
        (reached registry ahead _ r mid.bytes.now (plain_items registry here.before s) (plain_items registry here.later s ++ after) same as2 here.good (omega (arith, few, m)) refl split
        (on ∙ found (tree.items here.before) later front_stands))

  -- ---- arrays

  module _ (s : Shape) (n i : ℕ) where
    array_row : (ts : Trees) (after : List ℕ) → Fronts registry ahead (of (shape.array s n)) (tree.items ts) after → RowAhead s ts × (count ts ≡ n)
    array_row ts after h =
        let g = h.good in
        let p = and_parts (count ts == n) (all_fit false registry ts s) g.sound.fit in (
          record {
            all = are_items registry ahead.depth s ts (record { fit_is = p.1; canonical_is = g.canonical; deep_is = g.sound.depth_holds; long_is = g.sound.lengths });
            few = (let k = h.few in omega (arith, k));
          },
          nat-same (count ts) n p.0,
        )

    pub array_past : (t : Tree) (after : List ℕ) → Fronts registry ahead (of (shape.array s n)) t after → n ≤ i → LeadsTo registry ahead.bytes.now (step_at registry (item i) (of (shape.array s n)) t) None
    array_past (tree.items ts) after h le =
        let e = (array_row ts after h).1 in
        nowhere registry ahead.bytes.now (item_of registry ts s i) (no_item registry ahead.depth s ts i (omega (arith, le, e)))
    array_past _ after h le = absurd (let e = h.good.sound.fit in cc)

    pub array_stuck : (t : Tree) (after : List ℕ) → Fronts registry ahead (of (shape.array s n)) t after → i < n → NoneStands registry ahead (of (shape.array s i)) → ⊥
    array_stuck (tree.items ts) after h lt none =
        let a = array_row ts after h in
        let e = a.1 in
        row_stuck s ts i after ahead a.0 (record { depth_is = refl; nodes_are = refl }) h.is (omega (arith, lt, e)) none
    array_stuck _ after h lt none = absurd (let e = h.good.sound.fit in cc)

    pub array_leads : (t : Tree) (after rest : List ℕ) (r : Reached) → Fronts registry ahead (of (shape.array s n)) t after → i < n → RestIs registry ahead (of (shape.array s i)) rest
        → content_of r.here ≡ of s → AsLimited ahead r.ahead → r.ahead.bytes.now ≡ rest → LeadsTo registry ahead.bytes.now (step_at registry (item i) (of (shape.array s n)) t) (Some r)
    array_leads (tree.items ts) after rest r h lt found same alike on =
        let a = array_row ts after h in
        let e = a.1 in
        row_leads s ts i after ahead a.0 (record { depth_is = refl; nodes_are = refl }) h.is (omega (arith, lt, e)) rest r found same alike on
    array_leads _ after rest r h lt found same alike on = absurd (let e = h.good.sound.fit in cc)

  -- ---- lists

  module _ (s : Shape) (i : ℕ) where
    list_number : (ts : Trees) (after : List ℕ) → Fronts registry ahead (of (shape.seq s)) (tree.items ts) after
        → RowAhead s ts × (count ts < 2 ^ 32) × (ahead.bytes.now ≡ uleb (count ts) ++ (plain_items registry ts s ++ after))
    list_number ts after h =
        let g = h.good in
        let p = and_parts (nat_le (count ts) length_limit) (all_hold length_limit registry ts s) g.sound.lengths in (
          record {
            all = are_items registry ahead.depth s ts (record { fit_is = g.sound.fit; canonical_is = g.canonical; deep_is = g.sound.depth_holds; long_is = p.1 });
            few = (let k = h.few in omega (arith, k));
          },
          omega (arith, leb-true (count ts) length_limit p.0),
          h.is ∙ append_assoc (uleb (count ts)) (plain_items registry ts s) after,
        )

    pub list_past : (t : Tree) (after : List ℕ) (n : ℕ) (rest : List ℕ) → Fronts registry ahead (of (shape.seq s)) t after → NumberIs ahead.bytes.now n rest → n ≤ i
        → LeadsTo registry ahead.bytes.now (step_at registry (item i) (of (shape.seq s)) t) None
    list_past (tree.items ts) after n rest h number le =
        let l = list_number ts after h in
        let e = (number (count ts) (plain_items registry ts s ++ after) l.1 l.2).0 in
        nowhere registry ahead.bytes.now _ (ap (part_after (length (uleb (count ts)))) (no_item registry ahead.depth s ts i (omega (arith, le, e))))
    list_past _ after n rest h number le = absurd (let e = h.good.sound.fit in cc)

    pub list_stuck : (t : Tree) (after : List ℕ) (n : ℕ) (rest : List ℕ) (mid : Ahead) → Fronts registry ahead (of (shape.seq s)) t after → NumberIs ahead.bytes.now n rest → i < n
        → AsLimited ahead mid → mid.bytes.now ≡ rest → NoneStands registry mid (of (shape.array s i)) → ⊥
    list_stuck (tree.items ts) after n rest mid h number lt alike is none =
        let l = list_number ts after h in
        let e = number (count ts) (plain_items registry ts s ++ after) l.1 l.2 in
        let same = e.0 in
        row_stuck s ts i after mid l.0 alike (is ∙ e.1) (omega (arith, lt, same)) none
    list_stuck _ after n rest mid h number lt alike is none = absurd (let e = h.good.sound.fit in cc)

    pub list_leads : (t : Tree) (after : List ℕ) (n : ℕ) (rest : List ℕ) (mid : Ahead) (on : List ℕ) (r : Reached) → Fronts registry ahead (of (shape.seq s)) t after → NumberIs ahead.bytes.now n rest → i < n
        → AsLimited ahead mid → mid.bytes.now ≡ rest → RestIs registry mid (of (shape.array s i)) on → content_of r.here ≡ of s → AsLimited ahead r.ahead → r.ahead.bytes.now ≡ on
        → LeadsTo registry ahead.bytes.now (step_at registry (item i) (of (shape.seq s)) t) (Some r)
    list_leads (tree.items ts) after n rest mid on r h number lt alike is found same as2 there =
        let l = list_number ts after h in
        let e = number (count ts) (plain_items registry ts s ++ after) l.1 l.2 in
        let long = e.0 in
        leads_after registry ahead.bytes.now (uleb (count ts)) mid.bytes.now (item_of registry ts s i) (Some r) (l.2 ∙ ap (λ (b : List ℕ). uleb (count ts) ++ b) (sym (is ∙ e.1)))
        (row_leads s ts i after mid l.0 alike (is ∙ e.1) (omega (arith, lt, long)) on r found same as2 there)
    list_leads _ after n rest mid on r h number lt alike is found same as2 there = absurd (let e = h.good.sound.fit in cc)

  -- ---- tuples

  module _ (ss : Shapes) (i : ℕ) where
    pub tuple_past : (t : Tree) (after : List ℕ) → Fronts registry ahead (of (shape.tuple ss)) t after → shapes_count ss ≤ i → LeadsTo registry ahead.bytes.now (step_at registry (item i) (of (shape.tuple ss)) t) None
    tuple_past (tree.items ts) after h le = nowhere registry ahead.bytes.now (item_in registry ts ss i) (no_field registry ahead.depth ts ss i le)
    tuple_past _ after h le = absurd (let e = h.good.sound.fit in cc)

  module _ (front : Shapes) (s : Shape) (rear : Shapes) (ts : Trees) (after : List ℕ) (h : Fronts registry ahead (of (shape.tuple (shapes_joined front (shape.shape s rear)))) (tree.items ts) after) where
    abbrev each : EachAt registry ahead.depth front s rear ts
    each =
        let g = h.good in
        each_at registry ahead.depth front s rear ts (record { fit_is = g.sound.fit; canonical_is = g.canonical; deep_is = g.sound.depth_holds; long_is = g.sound.lengths })

    abbrev behind : List ℕ
    behind = plain registry each.value (of s) ++ (plain_each registry each.rest rear ++ after)

    parted : ahead.bytes.now ≡ plain_each registry each.before front ++ behind
    parted =
        let first = plain_each registry each.before front in
        let own = plain registry each.value (of s) in
        let rest = plain_each registry each.rest rear in
        h.is ∙ ap (λ (b : List ℕ). b ++ after) each.bytes ∙ append_assoc first (own ++ rest) after ∙ ap (λ (b : List ℕ). first ++ b) (append_assoc own rest after)

    -- the earlier elements are ahead, as a tuple
    tuple_front : Fronts registry ahead (of (shape.tuple front)) (tree.items each.before) behind
    tuple_front =
        let g = each.before_good in
        let few = h.few in
        let m = each.few in
        fronts registry ahead ahead (of (shape.tuple front)) (tree.items each.before) behind (record { depth_is = refl; nodes_are = refl })
        (decodable registry ahead.depth (of (shape.tuple front)) (tree.items each.before) g.fit_is g.canonical_is g.deep_is g.long_is) (omega (arith, few, m)) parted

    each_stuck : NoneStands registry ahead (of (shape.tuple front)) → ⊥
    each_stuck none = none (tree.items each.before) behind tuple_front

    each_leads : (rest : List ℕ) (r : Reached) → RestIs registry ahead (of (shape.tuple front)) rest → content_of r.here ≡ of s → AsLimited ahead r.ahead → r.ahead.bytes.now ≡ rest
        → LeadsTo registry ahead.bytes.now (item_in registry ts (shapes_joined front (shape.shape s rear)) (shapes_count front)) (Some r)
    each_leads rest r found same alike on =
        let few = h.few in
        let m = each.few in
        somewhere registry ahead.bytes.now _ _ r each.found
        (reached registry ahead _ r ahead.bytes.now (plain_each registry each.before front) (plain_each registry each.rest rear ++ after) same alike each.good (omega (arith, few, m)) refl parted
        (on ∙ found (tree.items each.before) behind tuple_front))

  module _ (ss front : Shapes) (s : Shape) (rear : Shapes) (i : ℕ) (split : ss ≡ shapes_joined front (shape.shape s rear)) (long : shapes_count front ≡ i) where
    as_split : (t : Tree) (after : List ℕ) → Fronts registry ahead (of (shape.tuple ss)) t after → Fronts registry ahead (of (shape.tuple (shapes_joined front (shape.shape s rear)))) t after
    as_split t after h = subst (λ (x : Shapes). Fronts registry ahead (of (shape.tuple x)) t after) split h

    pub tuple_stuck : (t : Tree) (after : List ℕ) → Fronts registry ahead (of (shape.tuple ss)) t after → NoneStands registry ahead (of (shape.tuple front)) → ⊥
    tuple_stuck (tree.items ts) after h none = each_stuck front s rear ts after (as_split (tree.items ts) after h) none
    tuple_stuck _ after h none = absurd (let e = h.good.sound.fit in cc)

    pub tuple_leads : (t : Tree) (after rest : List ℕ) (r : Reached) → Fronts registry ahead (of (shape.tuple ss)) t after → RestIs registry ahead (of (shape.tuple front)) rest → content_of r.here ≡ of s
        → AsLimited ahead r.ahead → r.ahead.bytes.now ≡ rest → LeadsTo registry ahead.bytes.now (step_at registry (item i) (of (shape.tuple ss)) t) (Some r)
    tuple_leads (tree.items ts) after rest r h found same alike on =
        rw (split, ← long) (each_leads front s rear ts after (as_split (tree.items ts) after h) rest r found same alike on)
    tuple_leads _ after rest r h found same alike on = absurd (let e = h.good.sound.fit in cc)
