-- Finding a container among entries whose names ascend: by its place, and by halving.
use Rattle.std.proofs.Common.{Equal, Greater, slice_get, suc, take, zero}
use Rattle.std.proofs.lemmas.Cmp.{nat_list_cmp_total}
use Rattle.std.proofs.lemmas.Option.{slice_get-get_or}
use Rattle.std.specs.Ordering.{ordering_reverse}
use Rattle.bcs_registry_model.proofs.Prelude.{◌≡◌, ◌<◌, Ordering, Option, get_or, ℕ, List, [], ◌∷◌, String, Global, Bool, true, false, cond, Some, None, Less, string_bytes, map, drop, length, ◌++◌, arith, refl, sym, ap, subst, ◌∙◌, is_eq, nat_cmp, slice_cmp, is_eq-slice_cmp, bytes_eq, bytes_eq-Decides, Container, AllByRecursion, IsStrictlySortedBy, none-some, same_Some, container_at, container_of, entries_of}
use Rattle.bcs_registry_model.proofs.Rising.{Stored}

abbrev key : Stored → List ℕ
key e = string_bytes e.0

-- each name of es is above n
abbrev Above : List ℕ → List Stored → Type 0
Above n es = AllByRecursion (λ k. slice_cmp nat_cmp n k ≡ Less) (map (λ e. e.0) (entries_of es))

abbrev pub Rise : List Stored → Type 0
Rise es = IsStrictlySortedBy (slice_cmp nat_cmp) (map (λ e. e.0) (entries_of es))

flipped : (a b : List ℕ) → slice_cmp nat_cmp a b ≡ Greater → slice_cmp nat_cmp b a ≡ Less
flipped a b h = nat_list_cmp_total.antisymm b a ∙ ap ordering_reverse h

below_differs : (a b : List ℕ) → slice_cmp nat_cmp a b ≡ Less → bytes_eq a b ≡ false
below_differs a b h = sym (is_eq-slice_cmp a b) ∙ ap is_eq h

above_differs : (a b : List ℕ) → slice_cmp nat_cmp a b ≡ Less → bytes_eq b a ≡ false
above_differs a b h = sym (is_eq-slice_cmp b a) ∙ ap is_eq (nat_list_cmp_total.antisymm b a ∙ ap ordering_reverse h)

-- another name is passed over
passed : (n : List ℕ) (x : Stored) (es : List Stored) → bytes_eq n (key x) ≡ false → container_at n (entries_of (x ∷ es)) ≡ container_at n (entries_of es)
passed n x es h = ap (λ b. cond b (Some (container_of x.1)) (container_at n (entries_of es))) h

here : (n : List ℕ) (x : Stored) (es : List Stored) → bytes_eq n (key x) ≡ true → container_at n (entries_of (x ∷ es)) ≡ Some (container_of x.1)
here n x es h = ap (λ b. cond b (Some (container_of x.1)) (container_at n (entries_of es))) h

picked : (n : List ℕ) (es : List Stored) (i : ℕ) (e : Stored) → Above n es → slice_get es i ≡ Some e → slice_cmp nat_cmp n (key e) ≡ Less
picked n [] i e h is = absurd (none-some e is)
picked n (x ∷ es) zero e h is = subst (λ y. slice_cmp nat_cmp n (key y) ≡ Less) (same_Some x e is) h.0
picked n (x ∷ es) (suc i) e h is = picked n es i e h.1 is

none_above : (n : List ℕ) (es : List Stored) → Above n es → container_at n (entries_of es) ≡ None
none_above n [] h = refl
none_above n (x ∷ es) h = passed n x es (below_differs n (key x) h.0) ∙ none_above n es h.1

above_trans : (n a : List ℕ) (es : List Stored) → slice_cmp nat_cmp n a ≡ Less → Above a es → Above n es
above_trans n a [] lt h = h
above_trans n a (x ∷ es) lt h = (nat_list_cmp_total.trans n a (key x) lt h.0, above_trans n a es lt h.1)

-- the entry at a place is found by its name
pub found_at : (es : List Stored) (i : ℕ) (e : Stored) → Rise es → slice_get es i ≡ Some e → (n : List ℕ) → bytes_eq n (key e) ≡ true → container_at n (entries_of es) ≡ Some (container_of e.1)
unfolding IsStrictlySortedBy
found_at [] i e rise is n h = absurd (none-some e is)
found_at (x ∷ es) zero e rise is n h = here n x es (ap (λ y. bytes_eq n (key y)) (same_Some x e is) ∙ h) ∙ ap (λ y. Some (container_of y.1)) (same_Some x e is)
found_at (x ∷ es) (suc i) e rise is n h =
    let same : n ≡ key e = (bytes_eq-Decides n (key e)).0 h in
    passed n x es (ap (λ m. bytes_eq m (key x)) same ∙ above_differs (key x) (key e) (picked (key x) es i e rise.0 is)) ∙ found_at es i e rise.1 is n h

-- a name below the one at a place is found before it, or not at all
pub before : (n : List ℕ) (es : List Stored) (m : ℕ) (e : Stored) → Rise es → slice_get es m ≡ Some e → slice_cmp nat_cmp n (key e) ≡ Less → container_at n (entries_of es) ≡ container_at n (entries_of (take m es))
unfolding IsStrictlySortedBy
before n [] m e rise is lt = absurd (none-some e is)
before n (x ∷ es) zero e rise is lt =
    let low : slice_cmp nat_cmp n (key x) ≡ Less = subst (λ y. slice_cmp nat_cmp n (key y) ≡ Less) (sym (same_Some x e is)) lt in
    none_above n (x ∷ es) (low, above_trans n (key x) es low rise.0)
before n (x ∷ es) (suc m) e rise is lt = ap (λ r. cond (bytes_eq n (key x)) (Some (container_of x.1)) r) (before n es m e rise.1 is lt)

-- a name above the one at a place is found after it, or not at all
pub after : (n : List ℕ) (es : List Stored) (m : ℕ) (e : Stored) → Rise es → slice_get es m ≡ Some e → slice_cmp nat_cmp n (key e) ≡ Greater → container_at n (entries_of es) ≡ container_at n (entries_of (drop (suc m) es))
unfolding IsStrictlySortedBy
after n [] m e rise is gt = absurd (none-some e is)
after n (x ∷ es) zero e rise is gt = passed n x es (above_differs (key x) n (flipped n (key x) (subst (λ y. slice_cmp nat_cmp n (key y) ≡ Greater) (sym (same_Some x e is)) gt)))
after n (x ∷ es) (suc m) e rise is gt =
    passed n x es (above_differs (key x) n (nat_list_cmp_total.trans (key x) (key e) n (picked (key x) es m e rise.0 is) (flipped n (key e) gt))) ∙ after n es m e rise.1 is gt

above_take : (n : List ℕ) (m : ℕ) (es : List Stored) → Above n es → Above n (take m es)
above_take n zero es h = tt
above_take n (suc m) [] h = h
above_take n (suc m) (x ∷ es) h = (h.0, above_take n m es h.1)

pub rise_take : (m : ℕ) (es : List Stored) → Rise es → Rise (take m es)
unfolding IsStrictlySortedBy
rise_take zero es h = tt
rise_take (suc m) [] h = h
rise_take (suc m) (x ∷ es) h = (above_take (key x) m es h.0, rise_take m es h.1)

pub rise_drop : (m : ℕ) (es : List Stored) → Rise es → Rise (drop m es)
unfolding IsStrictlySortedBy
rise_drop zero es h = h
rise_drop (suc m) [] h = h
rise_drop (suc m) (x ∷ es) h = rise_drop m es h.1

first_at : (m : ℕ) (es : List Stored) (e : Stored) (a : List Stored) → drop m es ≡ e ∷ a → slice_get es m ≡ Some e
first_at zero es e a is = ap (λ xs. slice_get xs 0) is
first_at (suc m) [] e a is = ap (λ xs. slice_get xs 0) is
first_at (suc m) (x ∷ es) e a is = first_at m es e a is

rest_at : (m : ℕ) (es : List Stored) (e : Stored) (a : List Stored) → drop m es ≡ e ∷ a → drop (suc m) es ≡ a
rest_at zero es e a is = ap (λ xs. drop 1 xs) is
rest_at (suc m) [] e a is = ap (λ xs. drop 1 xs) is
rest_at (suc m) (x ∷ es) e a is = rest_at m es e a is

-- what a step of halving keeps: names ascend, and what is left answers for the whole
module _ (n : List ℕ) (es : List Stored) (m : ℕ) (e : Stored) (a : List Stored) (rise : Rise es) (is : drop m es ≡ e ∷ a) where
  pub met : slice_cmp nat_cmp n (key e) ≡ Equal → Some (container_of e.1) ≡ container_at n (entries_of es)
  met same = sym (found_at es m e rise (first_at m es e a is) n (sym (is_eq-slice_cmp n (key e)) ∙ ap is_eq same))

  pub left_before : slice_cmp nat_cmp n (key e) ≡ Less → Rise (take m es) × (container_at n (entries_of es) ≡ container_at n (entries_of (take m es)))
  left_before lt = (rise_take m es rise, before n es m e rise (first_at m es e a is) lt)

  pub left_after : slice_cmp nat_cmp n (key e) ≡ Greater → Rise a × (container_at n (entries_of es) ≡ container_at n (entries_of a))
  left_after gt = subst (λ r. Rise r × (container_at n (entries_of es) ≡ container_at n (entries_of r))) (rest_at m es e a is) (rise_drop (suc m) es rise, after n es m e rise (first_at m es e a is) gt)

ordered : (n word : List ℕ) (e : Stored) (r o : Ordering) → word ≡ key e → r ≡ slice_cmp nat_cmp n word → r ≡ o → slice_cmp nat_cmp n (key e) ≡ o
ordered n word e r o value answers is = sym (ap (slice_cmp nat_cmp n) value) ∙ sym answers ∙ is

-- the same steps, from what the calls in a loop ensure
module _ (n : List ℕ) (answer : Option Container) (left : List Stored) (m : ℕ) (back front : List Stored) (e : Stored) (a : List Stored) (word : List ℕ) (r : Ordering)
    (loop : Rise left × (answer ≡ container_at n (entries_of left))) (back_is : back ≡ drop m left) (front_is : front ≡ take m left) (cut : back ≡ e ∷ a)
    (value : word ≡ key e) (answers : r ≡ slice_cmp nat_cmp n word) where
  pub step_before : r ≡ Less → Rise front × (answer ≡ container_at n (entries_of front))
  step_before is =
      let step = left_before n left m e a loop.0 (sym back_is ∙ cut) (ordered n word e r Less value answers is) in
      subst (λ xs. Rise xs × (answer ≡ container_at n (entries_of xs))) (sym front_is) (step.0, loop.1 ∙ step.1)

  pub step_met : r ≡ Equal → Some (container_of e.1) ≡ answer
  step_met is = met n left m e a loop.0 (sym back_is ∙ cut) (ordered n word e r Equal value answers is) ∙ sym loop.1

  pub step_after : r ≡ Greater → Rise a × (answer ≡ container_at n (entries_of a))
  step_after is =
      let step = left_after n left m e a loop.0 (sym back_is ∙ cut) (ordered n word e r Greater value answers is) in
      (step.0, loop.1 ∙ step.1)

-- the entry that was read at a place, first for its name and then for its container
pub read_at : (es : List Stored) (i : ℕ) (d e : Stored) (word n : List ℕ) (b : Bool) → Rise es → i < length es → d ≡ get_or es i d → e ≡ get_or es i e → word ≡ key d → b ≡ bytes_eq word n → b ≡ true → container_at n (entries_of es) ≡ Some (container_of e.1)
read_at es i d e word n b rise within first second value tested holds =
    let there : slice_get es i ≡ Some d = slice_get-get_or es i d within ∙ ap Some (sym first) in
    let again : slice_get es i ≡ Some e = slice_get-get_or es i e within ∙ ap Some (sym second) in
    let same : key d ≡ n = sym value ∙ (bytes_eq-Decides word n).0 (sym tested ∙ holds) in
    found_at es i e rise again n (ap (bytes_eq n) (sym (ap key (same_Some d e (sym there ∙ again))) ∙ same) ∙ (bytes_eq-Decides n n).1 refl)

-- nothing is left to find
pub none_left : (n : List ℕ) (es : List Stored) → length es ≡ 0 → None ≡ container_at n (entries_of es)
none_left n [] h = refl
none_left n (x ∷ es) h = absurd (omega (arith, h))

no_more : (xs ys : List Stored) → ys ≡ [] → xs ≡ xs ++ ys
no_more [] ys e = sym e
no_more (x ∷ xs) ys e = ap (λ r. x ∷ r) (no_more xs ys e)

-- all entries were moved
pub whole : (xs ys all : List Stored) → ys ≡ [] → xs ++ ys ≡ all → xs ≡ all
whole xs ys all e h = no_more xs ys e ∙ h
