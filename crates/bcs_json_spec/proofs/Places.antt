-- The place among parts: there is at most one, and it is found part by part.
use Rattle.bcs_json_spec.proofs.Prelude.{◌≡◌, ◌∙◌, List, [], ◌∷◌, ◌++◌, All, Contains, refl, ap, sym, subst, arith, All-nil, All-cons, All-head, All-tail, All-contains, Contains-append_right, Entries, IsFirst, OnePlace, PointerStep, JsonPart, parts, IsGood, IsPlaceAmong}

heads : {X : Type 0} (x y : X) (xs ys : List X) → x ∷ xs ≡ y ∷ ys → x ≡ y
heads x y xs ys h = cc

tails : {X : Type 0} (x y : X) (xs ys : List X) → x ∷ xs ≡ y ∷ ys → xs ≡ ys
tails x y xs ys h = cc

-- the first element that isn't good is unique
same_first : {X : Type 0} (Good : X → Type 0) (f g : List X) (x y : X) (bs cs : List X) → f ++ x ∷ bs ≡ g ++ y ∷ cs
    → All Good f → ¬ Good x → All Good g → ¬ Good y → x ≡ y
same_first Good [] [] x y bs cs h fs nx gs ny = heads x y bs cs h
same_first Good [] (b ∷ g) x y bs cs h fs nx gs ny = absurd (nx (subst Good (sym (heads x b bs (g ++ y ∷ cs) h)) (All-head Good b g gs)))
same_first Good (a ∷ f) [] x y bs cs h fs nx gs ny = absurd (ny (subst Good (heads a y (f ++ x ∷ bs) cs h) (All-head Good a f fs)))
same_first Good (a ∷ f) (b ∷ g) x y bs cs h fs nx gs ny = same_first Good f g x y bs cs (tails a b (f ++ x ∷ bs) (g ++ y ∷ cs) h) (All-tail Good a f fs) nx (All-tail Good b g gs) ny

-- the first element that isn't good is one of the elements
pub among : {X : Type 0} (Good Faulty : X → Type 0) (xs : List X) (h : IsFirst Good Faulty xs) → Contains xs h.one
among Good Faulty xs h = subst (λ ys. Contains ys h.one) (sym h.split) (Contains-append_right h.front (h.one ∷ h.back) h.one (0, omega arith, refl))

module _ (registry : Entries) where
  abbrev pub Inside : List PointerStep → JsonPart → Type 0
  Inside path p = IsPlaceAmong registry path (parts registry p.left p.target p.json)

  abbrev pub Leads : PointerStep → List PointerStep → JsonPart → Type 0
  Leads s path p = ¬ IsGood registry p × (p.step ≡ s) × Inside path p

  -- no part is refused
  pub place-none : IsPlaceAmong registry [] []
  place-none = All-nil (IsGood registry)

  -- the first part is refused
  pub place-here : (path : List PointerStep) (p : JsonPart) (ps : List JsonPart) → ¬ IsGood registry p → Inside path p → IsPlaceAmong registry (p.step ∷ path) (p ∷ ps)
  place-here path p ps bad inside = record { front = []; one = p; back = ps; split = refl; good = All-nil (IsGood registry); faulty = (bad, refl, inside) }

  -- the first part is good
  pub place-later : (path : List PointerStep) (p : JsonPart) (ps : List JsonPart) → IsGood registry p → IsPlaceAmong registry path ps → IsPlaceAmong registry path (p ∷ ps)
  place-later [] p ps good h = All-cons (IsGood registry) p ps good h
  place-later (s ∷ path) p ps good h =
      record {
        front = p ∷ h.front;
        one = h.one;
        back = h.back;
        split = ap (λ xs. p ∷ xs) h.split;
        good = All-cons (IsGood registry) p h.front good h.good;
        faulty = h.faulty;
      }

  -- a path that ends here, and one that goes on
  not_both : (s : PointerStep) (path : List PointerStep) (ps : List JsonPart) → IsPlaceAmong registry [] ps → IsPlaceAmong registry (s ∷ path) ps → ⊥
  not_both s path ps good h = h.faulty.0 (All-contains (IsGood registry) ps h.one good (among (IsGood registry) (Leads s path) ps h))

  pub one_among : (path way : List PointerStep) (ps : List JsonPart) → IsPlaceAmong registry path ps → IsPlaceAmong registry way ps → path ≡ way
  one_among [] [] ps h g = refl
  one_among [] (s ∷ way) ps h g = absurd (not_both s way ps h g)
  one_among (s ∷ path) [] ps h g = absurd (not_both s path ps g h)
  one_among (s ∷ path) (r ∷ way) ps h g =
      let same : h.one ≡ g.one = same_first (IsGood registry) h.front g.front h.one g.one h.back g.back (sym h.split ∙ g.split) h.good h.faulty.0 g.good g.faulty.0 in
      let step : s ≡ r = sym h.faulty.1 ∙ ap (λ p. p.step) same ∙ g.faulty.1 in
      let rest : path ≡ way = one_among path way (parts registry g.one.left g.one.target g.one.json) (subst (Inside path) same h.faulty.2) g.faulty.2 in
      ap (λ r. r ∷ path) step ∙ ap (λ xs. r ∷ xs) rest

pub one_place : OnePlace
one_place registry d f j path way e g h k = one_among registry path way _ h.1 k.1
