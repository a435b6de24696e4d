-- Ascending keys, and inserting one; and the order of members in what serde_json parses.
use Rattle.bcs_registry_json.proofs.Prelude.{◌≡◌, ◌∙◌, ℕ, List, [], ◌∷◌, Option, Some, None, Ordering, Less, Equal, Greater, ap, nat_cmp, option_map, refl, subst, sym, nat_list_cmp_total, insert_key, IsTotalOrder, slice_cmp, AllByRecursion, IsStrictlySortedBy, match_ordering, ordering_reverse, Json, tokens, Data, null, boolean, number, string, array, object, Items, no_items, item, Members, no_members, member, put, max_depth, number_of, of_items, of_json, of_members, read}
use Rattle.std.specs.Prelude.{option_and_then}
use Rattle.json.specs.Json as json

-- ---- inserting a key

module _ {K : Type 0} (R : K → K → Ordering) (o : IsTotalOrder R) (k : K) where
  abbrev AreAbove : K → List K → Type 0
  AreAbove x ks = AllByRecursion (λ y. R x y ≡ Less) ks

  -- if x is below k and below all keys, it is still below all of them after k is inserted
  below_inserted : (x : K) → R x k ≡ Less → (ks : List K) → AreAbove x ks → AreAbove x (insert_key R ks k)
  below_inserted x here [] above = (here, tt)
  below_inserted x here (y ∷ ys) above = at (R k y) (below_inserted x here ys above.1)
    where
      at : (r : Ordering) → AreAbove x (insert_key R ys k) → AreAbove x (match_ordering r (k ∷ y ∷ ys) (y ∷ ys) (y ∷ insert_key R ys k))
      at Less later = (here, above)
      at Equal later = above
      at Greater later = (above.0, later)

  -- if x is below y, it is below all keys above y
  all_above : (x y : K) → R x y ≡ Less → (ks : List K) → AreAbove y ks → AreAbove x ks
  all_above x y h [] above = tt
  all_above x y h (z ∷ zs) above = (o.trans x y z h above.0, all_above x y h zs above.1)

  pub sorted_inserted : (ks : List K) → IsStrictlySortedBy R ks → IsStrictlySortedBy R (insert_key R ks k)
  unfolding IsStrictlySortedBy
  sorted_inserted [] s = (tt, tt)
  sorted_inserted (y ∷ ys) s = at (R k y) refl (sorted_inserted ys s.1)
    where
      at : (r : Ordering) → R k y ≡ r → IsStrictlySortedBy R (insert_key R ys k) → IsStrictlySortedBy R (match_ordering r (k ∷ y ∷ ys) (y ∷ ys) (y ∷ insert_key R ys k))
      at Less is later = ((is, all_above k y is ys s.0), s)
      at Equal is later = s
      at Greater is later = (below_inserted y (o.antisymm y k ∙ ap ordering_reverse is) ys s.0, later)

-- ---- members in ascending order of their names

abbrev pub names_of : Members → List (List ℕ)
names_of no_members = []
names_of (member k d ms) = k ∷ names_of ms

names_either : (r : Ordering) (a b c : Members) → names_of (match_ordering r a b c) ≡ match_ordering r (names_of a) (names_of b) (names_of c)
names_either Less a b c = refl
names_either Equal a b c = refl
names_either Greater a b c = refl

pub names_put : (k : List ℕ) (d : Data) (ms : Members) → names_of (put k d ms) ≡ insert_key (slice_cmp nat_cmp) (names_of ms) k
names_put k d no_members = refl
names_put k d (member l e ms) = names_either (slice_cmp nat_cmp k l) _ _ _ ∙ rw (names_put k d ms) refl

abbrev pub NamesRise : Members → Type 0
NamesRise ms = IsStrictlySortedBy (slice_cmp nat_cmp) (names_of ms)

abbrev mutual
  -- in each object the names ascend
  pub IsRising : Data → Type 0
  IsRising (array ds) = EachRising ds
  IsRising (object ms) = NamesRise ms × MembersRising ms
  IsRising _ = Unit {0}

  pub EachRising : Items → Type 0
  EachRising no_items = Unit {0}
  EachRising (item d ds) = IsRising d × EachRising ds

  pub MembersRising : Members → Type 0
  MembersRising no_members = Unit {0}
  MembersRising (member k d ms) = IsRising d × MembersRising ms

put_either : (r : Ordering) (a b c : Members) → MembersRising a → MembersRising b → MembersRising c → MembersRising (match_ordering r a b c)
put_either Less a b c h i j = h
put_either Equal a b c h i j = i
put_either Greater a b c h i j = j

put_members : (k : List ℕ) (d : Data) (ms : Members) → IsRising d → MembersRising ms → MembersRising (put k d ms)
put_members k d no_members here h = (here, tt)
put_members k d (member l e ms) here h = put_either (slice_cmp nat_cmp k l) _ _ _ (here, h) (here, h.1) (h.0, put_members k d ms here h.1)

put_rising : (k : List ℕ) (d : Data) (ms : Members) → IsRising d → NamesRise ms × MembersRising ms → NamesRise (put k d ms) × MembersRising (put k d ms)
put_rising k d ms here h = (
  subst (λ (ks : List (List ℕ)). IsStrictlySortedBy (slice_cmp nat_cmp) ks) (sym (names_put k d ms)) (sorted_inserted (slice_cmp nat_cmp) nat_list_cmp_total k (names_of ms) h.0),
  put_members k d ms here h.1,
)

-- ---- what is parsed

mapped : {A B : Type 0} (f : A → B) (o : Option A) (b : B) → option_map f o ≡ Some b → (a : A) × (o ≡ Some a) × (f a ≡ b)
mapped f None b h = absurd cc
mapped f (Some a) b h = (a, refl, cc)

chained : {A B : Type 0} (f : A → Option B) (o : Option A) (b : B) → option_and_then f o ≡ Some b → (a : A) × (o ≡ Some a) × (f a ≡ Some b)
chained f None b h = absurd cc
chained f (Some a) b h = (a, refl, h)

start_rising : NamesRise no_members × MembersRising no_members
unfolding IsStrictlySortedBy
start_rising = (tt, tt)

mutual
  json_rising : (j : Json) (d : Data) → of_json j ≡ Some d → IsRising d
  json_rising json.null d h = let is : null ≡ d = cc in subst IsRising is tt
  json_rising (json.boolean b) d h = let is : boolean b ≡ d = cc in subst IsRising is tt
  json_rising (json.number s) d h = let m = mapped number (number_of s) d h in subst IsRising m.2 tt
  json_rising (json.string s) d h = let is : string s ≡ d = cc in subst IsRising is tt
  json_rising (json.array js) d h = let m = mapped array (of_items js) d h in subst IsRising m.2 (items_rising js m.0 m.1)
  json_rising (json.object ms) d h = let m = mapped object (of_members ms no_members) d h in subst IsRising m.2 (members_rising ms no_members m.0 start_rising m.1)

  items_rising : (js : json.Items) (ds : Items) → of_items js ≡ Some ds → EachRising ds
  items_rising json.no_items ds h = let is : no_items ≡ ds = cc in subst EachRising is tt
  items_rising (json.item j js) ds h =
      let m = chained (λ d. option_map (item d) (of_items js)) (of_json j) ds h in
      let n = mapped (item m.0) (of_items js) ds m.2 in
      subst EachRising n.2 (json_rising j m.0 m.1, items_rising js n.0 n.1)

  members_rising : (js : json.Members) (found ms : Members) → NamesRise found × MembersRising found → of_members js found ≡ Some ms → NamesRise ms × MembersRising ms
  members_rising json.no_members found ms good h = let is : found ≡ ms = cc in subst (λ (ns : Members). NamesRise ns × MembersRising ns) is good
  members_rising (json.member k j js) found ms good h =
      let m = chained (λ d. of_members js (put k d found)) (of_json j) ms h in
      members_rising js (put k m.0 found) ms (put_rising k m.0 found (json_rising j m.0 m.1) good) m.2

-- in what serde_json parses, the names of each object ascend
pub read_rising : (text : List ℕ) (d : Data) → read text ≡ Some d → IsRising d
read_rising text d h =
    let parsed : Option Json = option_and_then (λ p. json.if_last p.0 p.1) (json.value max_depth (tokens text)) in
    let m = chained of_json parsed d h in
    json_rising m.0 d m.2
