-- Members in the order of their names: those of a struct, if each of its fields is there once.
use Rattle.std.proofs.Common.{bytes_eq, false, None, not}
use Rattle.std.proofs.lemmas.Bool.{not-true, or_parts}
use Rattle.std.proofs.lemmas.Cmp.{nat_list_cmp_total}
use Rattle.std.proofs.lemmas.Map.Text.{is_eq-slice_cmp}
use Rattle.std.proofs.lemmas.Option.{none-some, same_Some}
use Rattle.std.proofs.lemmas.Slice.Eq.{bytes_eq-Decides}
use Rattle.std.specs.List.{AllByRecursion, list_any}
use Rattle.std.specs.Ordering.{is_eq, ordering_reverse}
use Rattle.serde_json.proofs.Views.{get_member-put, get_member-put_other}
use Rattle.serde_json.specs.Data.{no_members}
use Rattle.bcs_registry_json.proofs.RisingMembers.{names_of, names_put, NamesRise, sorted_inserted}
use Rattle.bcs_json_printer.proofs.Prelude.{drop, drop_more, ◌≡◌, ◌∙◌, ◌<◌, ◌≤◌, ◌+◌, ℕ, zero, suc, List, [], ◌∷◌, length, get_or, map, Some, true, true≢false, Ordering, Less, Equal, Greater, nat_cmp, slice_cmp, refl, sym, ap, subst, arith, and_parts, match_ordering, Data, Members, member, members_len, put, get_member, field_of, are_distinct, Format, Named, name_of, put_from, Ascend, AscendFrom, IsOrder, name_at, ordered}
unfoldable use Rattle.std.specs.List.Sorted.{IsStrictlySortedBy}

abbrev AreAbove : List ℕ → Members → Type 0
AreAbove k ms = AllByRecursion (λ l. slice_cmp nat_cmp k l ≡ Less) (names_of ms)

-- each member of q is one of p
abbrev Within : Members → Members → Type 0
Within no_members p = Unit {0}
Within (member k d q) p = (get_member k p ≡ Some d) × Within q p

abbrev IsPart : Members → Members → Type 0
IsPart q p = (members_len q ≤ members_len p) × (members_len p ≤ members_len q → q ≡ p)

turned : (k l : List ℕ) (o : Ordering) → slice_cmp nat_cmp k l ≡ o → slice_cmp nat_cmp l k ≡ ordering_reverse o
turned k l o h = nat_list_cmp_total.antisymm l k ∙ ap ordering_reverse h

equal_names : (k l : List ℕ) → slice_cmp nat_cmp k l ≡ Equal → k ≡ l
equal_names k l h = (bytes_eq-Decides k l).0 (sym (is_eq-slice_cmp k l) ∙ ap is_eq h)

all_above : (l k : List ℕ) → slice_cmp nat_cmp l k ≡ Less → (ms : Members) → AreAbove k ms → AreAbove l ms
all_above l k h no_members above = tt
all_above l k h (member m d ms) above = (nat_list_cmp_total.trans l k m h above.0, all_above l k h ms above.1)

found_at : (k l : List ℕ) (e : Data) (p : Members) (o : Ordering) → slice_cmp nat_cmp k l ≡ o → get_member k (member l e p) ≡ match_ordering o (get_member k p) (Some e) (get_member k p)
found_at k l e p o h = ap (λ r. match_ordering r (get_member k p) (Some e) (get_member k p)) h

absent : (k : List ℕ) (p : Members) → AreAbove k p → get_member k p ≡ None
absent k no_members h = refl
absent k (member l e p) h = found_at k l e p Less h.0 ∙ absent k p h.1

-- above the name of the first member, the others have all
passed : (l : List ℕ) (e : Data) (q p : Members) → AreAbove l q → Within q (member l e p) → Within q p
passed l e no_members p above h = tt
passed l e (member k d q) p above h = (sym (found_at k l e p Greater (turned l k Less above.0)) ∙ h.0, passed l e q p above.1 h.1)

part_at : (o : Ordering) (k l : List ℕ) (d e : Data) (q p : Members) → slice_cmp nat_cmp k l ≡ o → AreAbove k q → AreAbove l p → Within (member k d q) (member l e p)
    → (Within q p → IsPart q p) → (Within (member k d q) p → IsPart (member k d q) p) → IsPart (member k d q) (member l e p)
part_at Less k l d e q p is aboves others h both later = absurd (none-some d (sym (absent k (member l e p) (is, all_above k l is p others)) ∙ h.0))
part_at Equal k l d e q p is aboves others h both later =
    let same : k ≡ l = equal_names k l is in
    let value : e ≡ d = same_Some e d (sym (found_at k l e p Equal is) ∙ h.0) in
    let rest = both (passed l e q p (subst (λ m. AreAbove m q) same aboves) h.1) in
    let few : members_len q ≤ members_len p = rest.0 in (
      omega (arith, few),
      λ many.
          let all : q ≡ p = rest.1 (omega (arith, many)) in
          ap (λ m. member m d q) same ∙ ap (λ x. member l x q) (sym value) ∙ ap (member l e) all,
    )
part_at Greater k l d e q p is aboves others h both later =
    let low : slice_cmp nat_cmp l k ≡ Less = turned k l Greater is in
    let rest = later (passed l e (member k d q) p (low, all_above l k low q aboves) h) in
    let few : suc (members_len q) ≤ members_len p = rest.0 in (omega (arith, few), λ many. absurd (omega (arith, few, many)))

-- members in ascending order that are all among others are these if they are as many
part : (q p : Members) → NamesRise q → NamesRise p → Within q p → IsPart q p
unfolding IsStrictlySortedBy
part no_members no_members rise others h = (omega arith, λ many. refl)
part no_members (member l e p) rise others h = (omega arith, λ many. absurd (omega (arith, many)))
part (member k d q) no_members rise others h = absurd (none-some d h.0)
part (member k d q) (member l e p) rise others h =
    part_at (slice_cmp nat_cmp k l) k l d e q p refl rise.0 others.0 h (λ w. part q p rise.1 others.1 w) (λ w. part (member k d q) p rise others.1 w)

-- ---- fields that are put by their names

put_rises : (k : List ℕ) (d : Data) (ms : Members) → NamesRise ms → NamesRise (put k d ms)
put_rises k d ms h = subst (λ (ks : List (List ℕ)). IsStrictlySortedBy (slice_cmp nat_cmp) ks) (sym (names_put k d ms)) (sorted_inserted (slice_cmp nat_cmp) nat_list_cmp_total k (names_of ms) h)

from_rises : (at : ℕ → Data) (n : ℕ) (ks : List (List ℕ)) → NamesRise (put_from at n ks)
unfolding IsStrictlySortedBy
from_rises at n [] = tt
from_rises at n (k ∷ ks) = put_rises k (at n) (put_from at (suc n) ks) (from_rises at (suc n) ks)

put_len_at : (o : Ordering) (k l : List ℕ) (d e : Data) (ms : Members) → members_len (put k d ms) ≤ suc (members_len ms)
    → members_len (match_ordering o (member k d (member l e ms)) (member l d ms) (member l e (put k d ms))) ≤ suc (suc (members_len ms))
put_len_at Less k l d e ms h = omega arith
put_len_at Equal k l d e ms h = omega arith
put_len_at Greater k l d e ms h = omega (arith, h)

put_len : (k : List ℕ) (d : Data) (ms : Members) → members_len (put k d ms) ≤ suc (members_len ms)
put_len k d no_members = omega arith
put_len k d (member l e ms) = put_len_at (slice_cmp nat_cmp k l) k l d e ms (put_len k d ms)

from_len : (at : ℕ → Data) (n : ℕ) (ks : List (List ℕ)) → members_len (put_from at n ks) ≤ length ks
from_len at n [] = omega arith
from_len at n (k ∷ ks) = omega (arith, put_len k (at n) (put_from at (suc n) ks), from_len at (suc n) ks)

names_len : (fs : List (Named Format)) → length (map name_of fs) ≡ length fs
names_len [] = refl
names_len (f ∷ fs) = ap suc (names_len fs)

differs : (k : List ℕ) (fs : List (Named Format)) (i : ℕ) → list_any (bytes_eq k) (map name_of fs) ≡ false → i < length fs → bytes_eq k (name_at fs i) ≡ false
differs k [] i h within = absurd (omega (arith, within))
differs k (f ∷ fs) zero h within = (or_parts (bytes_eq k (name_of f)) (list_any (bytes_eq k) (map name_of fs)) h).0
differs k (f ∷ fs) (suc i) h within = differs k fs i (or_parts (bytes_eq k (name_of f)) (list_any (bytes_eq k) (map name_of fs)) h).1 (omega (arith, within))

-- each name has the data of its field
from_found : (at : ℕ → Data) (fs : List (Named Format)) (n i : ℕ) → are_distinct (map name_of fs) ≡ true → i < length fs → get_member (name_at fs i) (put_from at n (map name_of fs)) ≡ Some (at (n + i))
from_found at [] n i distinct within = absurd (omega (arith, within))
from_found at (f ∷ fs) n zero distinct within =
    let here : n ≡ n + 0 = omega arith in
    get_member-put (name_of f) (at n) (put_from at (suc n) (map name_of fs)) ∙ ap (λ m. Some (at m)) here
from_found at (f ∷ fs) n (suc i) distinct within =
    let parts = and_parts (not (list_any (bytes_eq (name_of f)) (map name_of fs))) (are_distinct (map name_of fs)) distinct in
    let apart = differs (name_of f) fs i (not-true (list_any (bytes_eq (name_of f)) (map name_of fs)) parts.0) (omega (arith, within)) in
    let here : suc n + i ≡ n + suc i = omega arith in
    get_member-put_other (name_at fs i) (name_of f) (at n) (put_from at (suc n) (map name_of fs))
    (λ same. true≢false (sym ((bytes_eq-Decides (name_of f) (name_at fs i)).1 (sym same)) ∙ apart))
    ∙ from_found at fs (suc n) i parts.1 (omega (arith, within)) ∙ ap (λ m. Some (at m)) here

-- ---- fields in a given order

pub ordered_len : (at : ℕ → Data) (fs : List (Named Format)) (order : List ℕ) → members_len (ordered at fs order) ≡ length order
ordered_len at fs [] = refl
ordered_len at fs (i ∷ is) = ap suc (ordered_len at fs is)

rises_from : (at : ℕ → Data) (fs : List (Named Format)) (i : ℕ) (is : List ℕ) → AscendFrom fs i is → AreAbove (name_at fs i) (ordered at fs is) × NamesRise (ordered at fs is)
unfolding IsStrictlySortedBy
rises_from at fs i [] h = (tt, tt)
rises_from at fs i (j ∷ js) h =
    let rest = rises_from at fs j js h.2 in
    ((h.1, all_above (name_at fs i) (name_at fs j) h.1 (ordered at fs js) rest.0), rest)

rises : (at : ℕ → Data) (fs : List (Named Format)) (order : List ℕ) → Ascend fs order → NamesRise (ordered at fs order)
unfolding IsStrictlySortedBy
rises at fs [] h = tt
rises at fs (i ∷ is) h = rises_from at fs i is h.1

module _ (at : ℕ → Data) (fs : List (Named Format)) (distinct : are_distinct (map name_of fs) ≡ true) where
  there : (i : ℕ) → i < length fs → get_member (name_at fs i) (put_from at 0 (map name_of fs)) ≡ Some (at i)
  there i within = let here : 0 + i ≡ i = omega arith in from_found at fs 0 i distinct within ∙ ap (λ m. Some (at m)) here

  within_from : (i : ℕ) (is : List ℕ) → AscendFrom fs i is → Within (ordered at fs is) (put_from at 0 (map name_of fs))
  within_from i [] h = tt
  within_from i (j ∷ js) h = (there j h.0, within_from j js h.2)

  within_fields : (order : List ℕ) → Ascend fs order → Within (ordered at fs order) (put_from at 0 (map name_of fs))
  within_fields [] h = tt
  within_fields (i ∷ is) h = (there i h.0, within_from i is h.1)

  -- in the order of their names, the fields are the members of the object
  pub in_order : (order : List ℕ) → IsOrder fs order → ordered at fs order ≡ put_from at 0 (map name_of fs)
  in_order order h =
      (part (ordered at fs order) (put_from at 0 (map name_of fs)) (rises at fs order h.1) (from_rises at 0 (map name_of fs)) (within_fields order h.1)).1
      (omega (arith, from_len at 0 (map name_of fs), names_len fs, ordered_len at fs order, h.0))

-- ---- for the loops

pub names_again : (fs : List (Named Format)) → map (λ f. f.0) (map field_of fs) ≡ map name_of fs
names_again [] = refl
names_again (f ∷ fs) = ap (λ ks. name_of f ∷ ks) (names_again fs)

pub name_at-is : (fs : List (Named Format)) (i : ℕ) (f : Named Format) → i < length fs → f ≡ get_or fs i f → name_at fs i ≡ name_of f
name_at-is [] i f h is = absurd (omega (arith, h))
name_at-is (g ∷ fs) zero f h is = sym (ap name_of is)
name_at-is (g ∷ fs) (suc i) f h is = name_at-is fs i f (omega (arith, h)) is

from_within : (fs : List (Named Format)) (i : ℕ) (is : List ℕ) (k j : ℕ) → AscendFrom fs i is → k < length is → j ≡ get_or is k 0 → j < length fs
from_within fs i [] k j h within is = absurd (omega (arith, within))
from_within fs i (x ∷ xs) zero j h within is = subst (λ n. n < length fs) (sym is) h.0
from_within fs i (x ∷ xs) (suc k) j h within is = from_within fs x xs k j h.2 (omega (arith, within)) is

-- each place is that of a field
pub order_within : (fs : List (Named Format)) (order : List ℕ) (k j : ℕ) → Ascend fs order → k < length order → j ≡ get_or order k 0 → j < length fs
order_within fs [] k j h within is = absurd (omega (arith, within))
order_within fs (x ∷ xs) zero j h within is = subst (λ n. n < length fs) (sym is) h.0
order_within fs (x ∷ xs) (suc k) j h within is = from_within fs x xs k j h.1 (omega (arith, within)) is

-- the rest of the places begins with the next one
pub place_left : (places : List ℕ) (k place : ℕ) → k < length places → place ≡ get_or places k 0 → drop k places ≡ place ∷ drop (k + 1) places
place_left places k place within is = drop_more places k 0 within ∙ ap (λ p. p ∷ drop (k + 1) places) (sym is)

-- one more place, after that of a lower name
pub ascends_more : (fs : List (Named Format)) (before place : ℕ) (f g : Named Format) (a b : List ℕ) (r : Ordering) (rest : List ℕ) (k : ℕ) → before < length fs → place < length fs
    → f ≡ get_or fs before f → g ≡ get_or fs place g → a ≡ name_of f → b ≡ name_of g → r ≡ slice_cmp nat_cmp a b → r ≡ Less → k < length rest → place ≡ get_or rest k 0
    → AscendFrom fs place (drop (k + 1) rest) → AscendFrom fs before (drop k rest)
ascends_more fs before place f g a b r rest k low high first second a_is b_is compares less within is h =
    let lower : name_at fs before ≡ a = name_at-is fs before f low first ∙ sym a_is in
    let upper : name_at fs place ≡ b = name_at-is fs place g high second ∙ sym b_is in
    let below : slice_cmp nat_cmp (name_at fs before) (name_at fs place) ≡ Less = ap (λ n. slice_cmp nat_cmp n (name_at fs place)) lower ∙ ap (slice_cmp nat_cmp a) upper ∙ sym compares ∙ less in
    subst (λ (is : List ℕ). AscendFrom fs before is) (sym (place_left rest k place within is)) (high, below, h)

pub order_of_none : (fs : List (Named Format)) (order : List ℕ) → length order ≡ length fs → order ≡ [] → IsOrder fs order
order_of_none fs order long is = (long, subst (Ascend fs) (sym is) tt)

pub order_from : (fs : List (Named Format)) (order : List ℕ) (first : ℕ) (rest : List ℕ) → length order ≡ length fs → order ≡ first ∷ rest → first < length fs → AscendFrom fs first rest → IsOrder fs order
order_from fs order first rest long is within h = (long, subst (Ascend fs) (sym is) (within, h))
