-- The location of a refusal, part by part.
use Rattle.bcs_json_reader.proofs.Prelude.{◌≡◌, ◌≢◌, ◌∙◌, List, [], ◌∷◌, Option, Some, None, Result, Ok, Err, IfSome, All, option_map, refl, ap, sym, subst, result_err, All-nil, Entries, PointerStep, JsonPart, parts, IsGood, IsPlaceAmong, Read, Reports, JsonFault, OutOfMemory, fault_at, good_of, none_of, place-here, place-later, steps, fault_alone, location_of, IsPlaced, Refusal, Here}

-- what was read is the same without the location
pub told_ok : {X A : Type 0} (see : X → A) (inner : Result X Refusal) (read : Read A) (v : X) → Ok v ≡ fault_alone inner → Reports see (fault_alone inner) read → read ≡ Ok (see v)
told_ok see inner read v same h = subst (λ y. Reports see y read) (sym same) h

pub told_err : {X A : Type 0} (see : X → A) (inner : Result X Refusal) (read : Read A) (e : JsonFault) → Err e ≡ fault_alone inner → Reports see (fault_alone inner) read → e ≢ OutOfMemory → read ≡ Err e
told_err see inner read e same h = subst (λ y. Reports see y read) (sym same) h

some_is : {A : Type 0} (x y : A) → Some x ≡ Some y → x ≡ y
some_is x y h = cc

not_none : {A : Type 0} (x : A) (o : Option A) → o ≡ Some x → o ≡ None → ⊥
not_none x o h g = cc

err_is : {X : Type 0} (e g : JsonFault) (r : Result X JsonFault) → r ≡ Err e → r ≡ Err g → e ≡ g
err_is e g r h k = cc

module _ (registry : Entries) where
  -- the location, if known, is the place among these parts
  abbrev pub IsWay : List JsonPart → Refusal → Type 0
  IsWay ps r = r.fault ≢ OutOfMemory → IfSome (steps r.location) (λ path. IsPlaceAmong registry path ps)

  -- JSON that is refused itself, after all of its parts were read or because it has none
  pub placed_own : (ps : List JsonPart) (r : Refusal) → r.location ≡ Here → All (IsGood registry) ps → IsWay ps r
  placed_own ps r here good other = subst (λ w. IfSome (steps w) (λ path. IsPlaceAmong registry path ps)) (sym here) good

  pub placed_none : (ps : List JsonPart) (r : Refusal) → r.location ≡ Here → ps ≡ [] → IsWay ps r
  placed_none ps r here none = placed_own ps r here (subst (All (IsGood registry)) (sym none) (All-nil (IsGood registry)))

  pub way_as : (ps qs : List JsonPart) (r : Refusal) → ps ≡ qs → IsWay qs r → IsWay ps r
  way_as ps qs r same h = subst (λ os. IsWay os r) (sym same) h

  pub placed_as : {X : Type 0} (ps qs : List JsonPart) (r : Result X Refusal) → ps ≡ qs → IsPlaced registry qs r → IsPlaced registry ps r
  placed_as ps qs r same h = subst (λ os. IsPlaced registry os r) (sym same) h

  -- from one list of parts to another
  pub placed_on : (ps qs : List JsonPart) (r : Refusal) → ((path : List PointerStep) → IsPlaceAmong registry path ps → IsPlaceAmong registry path qs)
      → IsWay ps r → IsWay qs r
  placed_on ps qs r on h other = step (steps r.location) (h other)
    where
      step : (o : Option (List PointerStep)) → IfSome o (λ path. IsPlaceAmong registry path ps) → IfSome o (λ path. IsPlaceAmong registry path qs)
      step None g = tt
      step (Some path) g = on path g

  module _ (p : JsonPart) (ps : List JsonPart) where
    way_here : (s : PointerStep) → p.step ≡ s → ¬ IsGood registry p → (outer inner : Option (List PointerStep))
        → IfSome outer (λ path. option_map (λ location. s ∷ location) inner ≡ Some path) → IfSome inner (λ path. IsPlaceAmong registry path (parts registry p.left p.target p.json))
        → IfSome outer (λ path. IsPlaceAmong registry path (p ∷ ps))
    way_here s is bad None inner h g = tt
    way_here s is bad (Some path) None h g = absurd (not_none path None h refl)
    way_here s is bad (Some path) (Some location) h g =
        subst (λ w. IsPlaceAmong registry w (p ∷ ps)) (ap (λ t. t ∷ location) is ∙ some_is (s ∷ location) path h) (place-here registry location p ps bad g)

    -- the first part is refused
    pub placed_here : {X A : Type 0} (see : X → A) (s : PointerStep) (inner : Result X Refusal) (r : Refusal) (read : Read A) → p.step ≡ s → fault_at registry p.left p.target p.json ≡ result_err read
        → Reports see (fault_alone inner) read → IsPlaced registry (parts registry p.left p.target p.json) inner
        → Err r.fault ≡ fault_alone inner → IfSome (steps r.location) (λ path. option_map (λ location. s ∷ location) (location_of inner) ≡ Some path)
        → IsWay (p ∷ ps) r
    placed_here see s (Ok v) r read is fault reports placed same location other = cc
    placed_here see s (Err g) r read is fault reports placed same location other =
        let bad : g.fault ≢ OutOfMemory = subst (λ e. e ≢ OutOfMemory) (err_is r.fault g.fault (fault_alone (Err g)) (sym same) refl) other in
        way_here s is (λ good. not_none g.fault (fault_at registry p.left p.target p.json) (fault ∙ ap result_err (reports bad)) (none_of registry p good)) (steps r.location) (steps g.location) location (placed bad)

  -- the first part is read
  pub read_later : {A : Type 0} (p : JsonPart) (ps : List JsonPart) (read : Read A) (t : A) → fault_at registry p.left p.target p.json ≡ result_err read → read ≡ Ok t
      → (path : List PointerStep) → IsPlaceAmong registry path ps → IsPlaceAmong registry path (p ∷ ps)
  read_later p ps read t fault is path h = place-later registry path p ps (good_of registry p (fault ∙ ap result_err is)) h
