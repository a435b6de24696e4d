-- An array of a key and its value.
use Rattle.bcs_json_tokens.proofs.Prelude.{◌≡◌, ◌∙◌, if◌then◌else◌, false, is_count, ℕ, suc, List, [], ◌∷◌, Some, None, Ok, Err, refl, ap, sym, subst, arith, after_end_array, Token, Data, array, Items, no_items, item, item_count, Entries, Shape, of, Tree, BadShape, JsonFault, Read, follow, read_data, read_pair, PointerStep, JsonPart, IsPlaceAmong, part, read_later, Refusal, GivenUp, IfRefused, IsHere, IsItemsRefusal, IsWay, IsWithinItem, IsRead, AreItems, AreRefused, IsRefusedAs, CountedRefused, counted_parts, read_counted}
use Rattle.bcs_json_spec.specs.Place as place
use Rattle.bcs_json_spec.specs.Place.{pair_parts}
use Rattle.bcs_json_passing.proofs.Turns.{items_all, items_none as passed_none}
use Rattle.bcs_json_tokens.proofs.ItemTurns.{Turn, turn_none, turn_more, turn_over, other_count, item_refused, rest_refused}

-- the first two items, whatever follows
abbrev second : (Data → Read Tree) → Tree → Items → Read (Tree × Tree)
second v s no_items = Err BadShape
second v s (item b ds) = follow (v b) (λ t. Ok (s, t))

abbrev both : (Data → Read Tree) → (Data → Read Tree) → Items → Read (Tree × Tree)
both k v no_items = Err BadShape
both k v (item a ds) = follow (k a) (λ s. second v s ds)

abbrev second_parts : ℕ → Shape → Items → List JsonPart
second_parts left vs no_items = []
second_parts left vs (item b ds) = part left (place.item 1) (of vs) b ∷ []

abbrev both_parts : ℕ → Shape → Shape → Items → List JsonPart
both_parts left ks vs no_items = []
both_parts left ks vs (item a ds) = part left (place.item 0) (of ks) a ∷ second_parts left vs ds

three : (ds : Items) → is_count (Some 2) (suc (suc (suc (item_count ds)))) ≡ false
three ds = other_count (suc (suc (suc (item_count ds)))) 2 (λ same. omega (arith, same))

pair_told : (k v : Data → Read Tree) (ds : Items) → read_pair k v (array ds) ≡ read_counted (Some 2) (both k v) ds
pair_told k v no_items = refl
pair_told k v (item a no_items) = refl
pair_told k v (item a (item b no_items)) = refl
pair_told k v (item a (item b (item c ds))) = sym (ap (λ z. if z then both k v (item a (item b (item c ds))) else Err BadShape) (three ds))

pair_parted : (left : ℕ) (ks vs : Shape) (ds : Items) → pair_parts left ks vs (array ds) ≡ counted_parts (Some 2) (both_parts left ks vs) ds
pair_parted left ks vs no_items = refl
pair_parted left ks vs (item a no_items) = refl
pair_parted left ks vs (item a (item b no_items)) = refl
pair_parted left ks vs (item a (item b (item c ds))) = sym (ap (λ z. if z then both_parts left ks vs (item a (item b (item c ds))) else []) (three ds))

module _ (registry : Entries) (left : ℕ) (ks vs : Shape) (depth : ℕ) (all last : List Token) where
  abbrev k : Data → Read Tree
  k = read_data registry left (of ks)

  abbrev v : Data → Read Tree
  v = read_data registry left (of vs)

  abbrev pub PairRefused : Refusal → Type 0
  PairRefused = AreRefused registry (λ ds. read_pair k v (array ds)) (λ ds. pair_parts left ks vs (array ds)) depth all last

  as_pair : (e : Refusal) → CountedRefused registry (Some 2) (both k v) (both_parts left ks vs) depth all last e → PairRefused e
  as_pair e h = record { json = h.json; is = h.is; told = pair_told k v h.json ∙ h.told; placed = subst (λ ps. IsWay registry ps e) (sym (pair_parted left ks vs h.json)) h.placed }

  pub none_refused : (e : Refusal) → after_end_array all ≡ Some last → IsHere BadShape e → PairRefused e
  none_refused e over here = as_pair e
      (rest_refused registry (both k v) (both_parts left ks vs) (Some 2) depth all all last e (λ ds. ds) (turn_none depth all) 0 (items_all depth all all last 0 (passed_none depth all) over)
      (λ ds none. other_count (item_count ds) 2 (λ same. omega (arith, none, same))) here)

  pub key_refused : (more : List Token) (g : GivenUp) (e : Refusal) → IfRefused (IsRefusedAs registry left (of ks) depth all more) g → IsWithinItem 0 (Some 2) depth more last g e → PairRefused e
  key_refused more g e refused w = as_pair e
      (item_refused registry (both k v) (both_parts left ks vs) (Some 2) depth all all last e (λ ds. ds) (turn_none depth all) left (place.value (of ks)) k (λ d. refl) more 0 (second_parts left vs) g (λ ds. omega arith)
      (λ d ds x bad. ap (λ (y : Read Tree). follow y (λ s. second v s ds)) bad) (λ d ds path h. h) refused w)

  module _ (rest : List Token) (a : Tree) (h : IsRead k depth all rest a) where
    one : Turn depth all rest (λ ds. item h.json ds)
    one = turn_more k depth all all rest (λ ds. ds) a (turn_none depth all) h

    pub one_refused : (e : Refusal) → after_end_array rest ≡ Some last → IsHere BadShape e → PairRefused e
    one_refused e over here = as_pair e
        (rest_refused registry (both k v) (both_parts left ks vs) (Some 2) depth all rest last e (λ ds. item h.json ds) one 0 (items_all depth rest rest last 0 (passed_none depth rest) over)
        (λ ds none. other_count (suc (item_count ds)) 2 (λ same. omega (arith, none, same))) here)

    pub value_refused : (more : List Token) (g : GivenUp) (e : Refusal) → IfRefused (IsRefusedAs registry left (of vs) depth rest more) g → IsWithinItem 1 (Some 2) depth more last g e → PairRefused e
    value_refused more g e refused w = as_pair e
        (item_refused registry (both k v) (both_parts left ks vs) (Some 2) depth all rest last e (λ ds. item h.json ds) one left (place.value (of vs)) v (λ d. refl) more 1 (λ ds. []) g (λ ds. omega arith)
        (λ d ds x bad. ap (λ (y : Read Tree). follow y (λ s. second v s (item d ds))) h.told ∙ ap (λ (y : Read Tree). follow y (λ t. Ok (a, t))) bad)
        (λ d ds path g. read_later registry (part left (place.item 0) (of ks) h.json) (part left (place.item 1) (of vs) d ∷ []) (k h.json) a refl h.told path g) refused w)

    module _ (more : List Token) (b : Tree) (i : IsRead v depth rest more b) where
      two : Turn depth all more (λ ds. item h.json (item i.json ds))
      two = turn_more v depth all rest more (λ ds. item h.json ds) b one i

      pub two_read : after_end_array more ≡ Some last → AreItems (λ ds. read_pair k v (array ds)) depth all last (a, b)
      two_read over = record {
        json = item h.json (item i.json no_items);
        is = turn_over depth all more last (λ ds. item h.json (item i.json ds)) two over;
        told = ap (λ (x : Read Tree). follow x (λ t. follow (v i.json) (λ u. Ok (t, u)))) h.told ∙ ap (λ (x : Read Tree). follow x (λ u. Ok (a, u))) i.told;
      }

      pub many_refused : (e : Refusal) → IsItemsRefusal depth more last e → PairRefused e
      many_refused e p = as_pair e
          (rest_refused registry (both k v) (both_parts left ks vs) (Some 2) depth all more last e (λ ds. item h.json (item i.json ds)) two p.number p.passed
          (λ ds many. other_count (suc (suc (item_count ds))) 2 (λ same. let some = p.some in omega (arith, many, some, same))) p.here)
