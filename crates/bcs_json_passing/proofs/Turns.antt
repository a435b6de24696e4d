-- The loops over items and members that are passed.
use Rattle.bcs_json_passing.proofs.Prelude.{◌≡◌, ◌∙◌, ◌+◌, ◌-◌, ◌<◌, ◌≤◌, ℕ, suc, List, [], ◌∷◌, length, Option, Some, None, option_map, Result, Ok, Err, OnOk, refl, ap, sym, arith, none-some, Token, after_end_array, read_key, parse_map, items, members, value, left, value_is, skip_value-shorter, read_key-shorter, Data, Items, Members, item, no_items, no_members, put, converted, of_items, of_json, of_members, converted_some, converted-array, converted-object, item_read, items_over, member_read, members_over, none_before, array, object, string, boolean, null, item_count, alone, StartsAs, IsPassed, IsPassedFrom, ArePassed, MembersPassed}
use Rattle.json.specs.Json as json

pub passed_shorter : (depth : ℕ) (ts rest : List Token) → IsPassed depth ts rest → length rest < length ts
passed_shorter depth ts rest p = let j = converted_some of_json (value depth ts) p.json rest p.is in skip_value-shorter depth ts rest (ap left j.1)

pub not_end : (depth : ℕ) (ts rest : List Token) (d : Data) → converted of_json (value depth ts) ≡ Some (d, rest) → after_end_array ts ≡ None
not_end depth [] rest d h = refl
not_end depth (Token.begin_object ∷ ts) rest d h = refl
not_end depth (Token.end_object ∷ ts) rest d h = refl
not_end depth (Token.begin_array ∷ ts) rest d h = refl
not_end depth (Token.end_array ∷ ts) rest d h = absurd (none-some (d, rest) (sym (ap (converted of_json) (value_is depth _)) ∙ h))
not_end depth (Token.key s ∷ ts) rest d h = refl
not_end depth (Token.string s ∷ ts) rest d h = refl
not_end depth (Token.number s ∷ ts) rest d h = refl
not_end depth (Token.boolean b ∷ ts) rest d h = refl
not_end depth (Token.null ∷ ts) rest d h = refl
not_end depth (Token.bad ∷ ts) rest d h = refl

-- ---- one token

pub alone_read : (t : Token) (depth : ℕ) (rest : List Token) (d : Data) → alone t ≡ Some d → converted of_json (value depth (t ∷ rest)) ≡ Some (d, rest)
alone_read (Token.string s) depth rest d h = ap (converted of_json) (value_is depth _) ∙ ap (λ o. option_map (λ x. (x, rest)) o) h
alone_read (Token.number s) depth rest d h = ap (converted of_json) (value_is depth _) ∙ ap (λ o. option_map (λ x. (x, rest)) o) h
alone_read (Token.boolean b) depth rest d h = ap (converted of_json) (value_is depth _) ∙ ap (λ o. option_map (λ x. (x, rest)) o) h
alone_read Token.null depth rest d h = ap (converted of_json) (value_is depth _) ∙ ap (λ o. option_map (λ x. (x, rest)) o) h
alone_read Token.begin_object depth rest d h = absurd (none-some d h)
alone_read Token.end_object depth rest d h = absurd (none-some d h)
alone_read Token.begin_array depth rest d h = absurd (none-some d h)
alone_read Token.end_array depth rest d h = absurd (none-some d h)
alone_read (Token.key s) depth rest d h = absurd (none-some d h)
alone_read Token.bad depth rest d h = absurd (none-some d h)

some_is : {A : Type 0} (x y : A) → Some x ≡ Some y → x ≡ y
some_is x y h = cc

alone_starts : (t : Token) (d : Data) → alone t ≡ Some d → StartsAs t d
alone_starts (Token.string s) d h = sym (some_is (string s) d h)
alone_starts (Token.number s) d h = h
alone_starts (Token.boolean b) d h = sym (some_is (boolean b) d h)
alone_starts Token.null d h = sym (some_is null d h)
alone_starts Token.begin_object d h = absurd (none-some d h)
alone_starts Token.end_object d h = absurd (none-some d h)
alone_starts Token.begin_array d h = absurd (none-some d h)
alone_starts Token.end_array d h = absurd (none-some d h)
alone_starts (Token.key s) d h = absurd (none-some d h)
alone_starts Token.bad d h = absurd (none-some d h)

pub alone_passed : (t u : Token) (depth : ℕ) (ts : List Token) (d : Data) → t ≡ u → alone u ≡ Some d → IsPassedFrom t depth ts ts
alone_passed t u depth ts d is h =
    let g : alone t ≡ Some d = ap alone is ∙ h in
    record { json = d; is = alone_read t depth ts d g; starts = alone_starts t d g }

pub open_array : (inner : ℕ) (ts : List Token) → value (suc inner) (Token.begin_array ∷ ts) ≡ parse_map json.array (items (value inner) (length ts) ts)
unfolding value
open_array inner ts = refl

pub open_object : (inner : ℕ) (ts : List Token) → value (suc inner) (Token.begin_object ∷ ts) ≡ parse_map json.object (members (value inner) (length ts) ts)
unfolding value
open_object inner ts = refl

pub array_passed : (t : Token) (depth inner : ℕ) (ts rest : List Token) (n : ℕ) → t ≡ Token.begin_array → depth ≡ suc inner → ArePassed inner ts rest n → IsPassedFrom t depth ts rest
array_passed t depth inner ts rest n is deep p =
    record {
      json = array p.json;
      is = ap (λ m. converted of_json (value m (t ∷ ts))) deep ∙ ap (λ u. converted of_json (value (suc inner) (u ∷ ts))) is ∙ ap (converted of_json) (open_array inner ts)
          ∙ converted-array (items (value inner) (length ts) ts) ∙ ap (parse_map array) (p.is (length ts) (omega arith));
      starts = rw is (p.json, refl);
    }

pub object_passed : (t : Token) (depth inner : ℕ) (ts rest : List Token) → t ≡ Token.begin_object → depth ≡ suc inner → MembersPassed inner ts rest → IsPassedFrom t depth ts rest
object_passed t depth inner ts rest is deep p =
    record {
      json = object (p.json no_members);
      is = ap (λ m. converted of_json (value m (t ∷ ts))) deep ∙ ap (λ u. converted of_json (value (suc inner) (u ∷ ts))) is ∙ ap (converted of_json) (open_object inner ts)
          ∙ converted-object (members (value inner) (length ts) ts) ∙ ap (parse_map object) (p.is no_members (length ts) (omega arith));
      starts = rw is (p.json no_members, refl);
    }

pub from_first : (t : Token) (depth : ℕ) (ts rest more : List Token) → ts ≡ t ∷ rest → IsPassedFrom t depth rest more → IsPassed depth ts more
from_first t depth ts rest more first p = record { json = p.json; is = ap (λ us. converted of_json (value depth us)) first ∙ p.is }

-- ---- items

pub twice : (front : Items → Items) (d : Data) (o : Option (Items × List Token)) → parse_map front (parse_map (item d) o) ≡ parse_map (λ ds. front (item d ds)) o
twice front d None = refl
twice front d (Some p) = refl

pub record ItemsBefore (depth : ℕ) (all rest : List Token) (n : ℕ) : Type 0 where
  pub front : Items → Items
  pub same : (turns : ℕ) → length all ≤ turns → (m : ℕ) × (length rest ≤ m) × (converted of_items (items (value depth) turns all) ≡ parse_map front (converted of_items (items (value depth) m rest)))
  pub count : (ds : Items) → item_count (front ds) ≡ item_count ds + n

pub items_none : (depth : ℕ) (all : List Token) → ItemsBefore depth all all 0
items_none depth all = record {
  front = λ ds. ds;
  same = λ turns enough. (turns, enough, none_before (converted of_items (items (value depth) turns all)));
  count = λ ds. omega arith;
}

pub items_next : (depth : ℕ) (all rest more : List Token) (n k : ℕ) → k ≡ suc n → ItemsBefore depth all rest n → IsPassed depth rest more → ItemsBefore depth all more k
items_next depth all rest more n k next b p =
    let less = passed_shorter depth rest more p in
    record {
      front = λ ds. b.front (item p.json ds);
      same = λ turns enough.
          let s = b.same turns enough in
          let room = s.1 in
          (s.0 - 1, omega (arith, less, room), s.2 ∙ ap (parse_map b.front) (item_read (value depth) s.0 rest more p.json (omega (arith, less, room)) (not_end depth rest more p.json p.is) p.is) ∙ twice b.front p.json _);
      count = λ ds. let e : item_count (b.front (item p.json ds)) ≡ suc (item_count ds) + n = b.count (item p.json ds) in omega (arith, e, next);
    }

pub items_all : (depth : ℕ) (all rest more : List Token) (n : ℕ) → ItemsBefore depth all rest n → after_end_array rest ≡ Some more → ArePassed depth all more n
items_all depth all rest more n b over = record {
  json = b.front no_items;
  is = λ turns enough. let s = b.same turns enough in s.2 ∙ ap (parse_map b.front) (items_over (value depth) s.0 rest more s.1 over);
  count = let e = b.count no_items in omega (arith, e);
}

-- ---- members

pub record MembersBefore (depth : ℕ) (all rest : List Token) : Type 0 where
  pub front : Members → Members
  pub same : (found : Members) (turns : ℕ) → length all ≤ turns
      → (m : ℕ) × (length rest ≤ m) × (converted (λ ms. of_members ms found) (members (value depth) turns all) ≡ converted (λ ms. of_members ms (front found)) (members (value depth) m rest))

pub members_none : (depth : ℕ) (all : List Token) → MembersBefore depth all all
members_none depth all = record { front = λ ms. ms; same = λ found turns enough. (turns, enough, refl) }

pub members_next : (depth : ℕ) (all rest s more : List Token) (k : List ℕ) → MembersBefore depth all rest → read_key rest ≡ Some (Some k, s) → IsPassed depth s more → MembersBefore depth all more
members_next depth all rest s more k b key p =
    let first = read_key-shorter rest (Some k) s key in
    let second = passed_shorter depth s more p in
    record {
      front = λ ms. put k p.json (b.front ms);
      same = λ found turns enough.
          let q = b.same found turns enough in
          let room = q.1 in
          (q.0 - 1, omega (arith, first, second, room), q.2 ∙ member_read (value depth) (b.front found) q.0 k rest s more p.json (omega (arith, first, room)) key p.is);
    }

pub members_all : (depth : ℕ) (all rest more : List Token) → MembersBefore depth all rest → read_key rest ≡ Some (None, more) → MembersPassed depth all more
members_all depth all rest more b over = record {
  json = b.front;
  is = λ found turns enough. let q = b.same found turns enough in q.2 ∙ members_over (value depth) (b.front found) q.0 rest more q.1 over;
}

-- ---- results

pub ok_on : {X E : Type 0} (P Q : Type 0) (r : Result X E) → (P → Q) → OnOk r P → OnOk r Q
ok_on P Q (Ok x) f h = f h
ok_on P Q (Err e) f h = tt
