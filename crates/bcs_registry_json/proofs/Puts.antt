-- Putting members into an object, in any order.
use Rattle.bcs_registry_json.proofs.Prelude.{◌≡◌, ◌∙◌, List, ℕ, Ordering, Less, Equal, Greater, ap, refl, sym, nat_cmp, nat_list_cmp_total, tied_itself, is_eq-slice_cmp, bytes_eq-Decides, slice_cmp, is_eq, ordering_reverse, Data, Members, no_members, member, put}

abbrev cmp : List ℕ → List ℕ → Ordering
cmp = slice_cmp nat_cmp

itself : (k : List ℕ) → cmp k k ≡ Equal
itself k = tied_itself nat_list_cmp_total k

same_name : (k l : List ℕ) → cmp k l ≡ Equal → k ≡ l
same_name k l h = (bytes_eq-Decides k l).0 (sym (is_eq-slice_cmp k l) ∙ ap is_eq h)

back : (k l : List ℕ) (o : Ordering) → cmp k l ≡ o → cmp l k ≡ ordering_reverse o
back k l o h = nat_list_cmp_total.antisymm l k ∙ ap ordering_reverse h

-- putting a key again overwrites its value
pub put_again : (k : List ℕ) (a b : Data) (ms : Members) → put k a (put k b ms) ≡ put k a ms
put_again k a b no_members = rw (itself k) refl
put_again k a b (member m e ms) = at (cmp k m) refl (put_again k a b ms)
  where
    at : (o : Ordering) → cmp k m ≡ o → put k a (put k b ms) ≡ put k a ms → put k a (put k b (member m e ms)) ≡ put k a (member m e ms)
    at Less h later = let same = itself k in simp (h, same)
    at Equal h later = simp h
    at Greater h later = simp h (ap (member m e) later)

module _ (k l : List ℕ) (a b : Data) where
  empty : (o : Ordering) → cmp k l ≡ o → (k ≡ l → ⊥) → put k a (put l b no_members) ≡ put l b (put k a no_members)
  empty Less h other = let h-back = back k l Less h in rw (h, h-back) refl
  empty Equal h other = absurd (other (same_name k l h))
  empty Greater h other = let h-back = back k l Greater h in rw (h, h-back) refl

  module _ (m : List ℕ) (e : Data) (ms : Members) where
    -- both keys sort before m
    before : (o : Ordering) → cmp k l ≡ o → (k ≡ l → ⊥) → cmp k m ≡ Less → cmp l m ≡ Less → put k a (put l b (member m e ms)) ≡ put l b (put k a (member m e ms))
    before Less h other hk hl = let h-back = back k l Less h in simp (hl, hk, h, h-back)
    before Equal h other hk hl = absurd (other (same_name k l h))
    before Greater h other hk hl = let h-back = back k l Greater h in simp (hl, hk, h, h-back)

    -- k sorts before m, and l equals m
    first_here : cmp k m ≡ Less → cmp l m ≡ Equal → put k a (put l b (member m e ms)) ≡ put l b (put k a (member m e ms))
    first_here hk hl =
        let h : cmp l k ≡ Greater = nat_list_cmp_total.congr l m k hl ∙ back k m Less hk in
        simp (hl, hk, h)

    -- k sorts before m, and l after it
    first_later : cmp k m ≡ Less → cmp l m ≡ Greater → put k a (put l b (member m e ms)) ≡ put l b (put k a (member m e ms))
    first_later hk hl =
        let h : cmp l k ≡ Greater = back k l Less (nat_list_cmp_total.trans k m l hk (back l m Greater hl)) in
        simp (hl, hk, h)

    here_later : cmp k m ≡ Equal → cmp l m ≡ Greater → put k a (put l b (member m e ms)) ≡ put l b (put k a (member m e ms))
    here_later hk hl = simp (hl, hk)

-- two members can be put in either order
pub put_either : (k l : List ℕ) (a b : Data) (ms : Members) → (k ≡ l → ⊥) → put k a (put l b ms) ≡ put l b (put k a ms)
put_either k l a b no_members other = empty k l a b (cmp k l) refl other
put_either k l a b (member m e ms) other = at (cmp k m) (cmp l m) refl refl (put_either k l a b ms other)
  where
    at : (o p : Ordering) → cmp k m ≡ o → cmp l m ≡ p → put k a (put l b ms) ≡ put l b (put k a ms) → put k a (put l b (member m e ms)) ≡ put l b (put k a (member m e ms))
    at Less Less hk hl later = before k l a b m e ms (cmp k l) refl other hk hl
    at Less Equal hk hl later = first_here k l a b m e ms hk hl
    at Less Greater hk hl later = first_later k l a b m e ms hk hl
    at Equal Less hk hl later = sym (first_here l k b a m e ms hl hk)
    at Equal Equal hk hl later = absurd (other (same_name k m hk ∙ sym (same_name l m hl)))
    at Equal Greater hk hl later = here_later k l a b m e ms hk hl
    at Greater Less hk hl later = sym (first_later l k b a m e ms hl hk)
    at Greater Equal hk hl later = sym (here_later l k b a m e ms hl hk)
    at Greater Greater hk hl later = simp (hl, hk) (ap (member m e) later)
