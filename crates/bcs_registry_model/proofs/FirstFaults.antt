-- The first fault that the program finds is the specified one, and if there is none, the registry grows.
use Rattle.bcs_registry_model.proofs.Prelude.{◌≡◌, ◌≢◌, ◌↔◌, ℕ, List, [], ◌∷◌, ◌++◌, Option, Some, None, is_some, Result, Ok, Err, Bool, true, false, All, refl, sym, ap, subst, ◌∙◌, option_or, option_map_or, result_err, IsOk, IsErrOf, false≢true, true≢false, All-nil, All-cons, All-head, All-tail, Payload, Choice, Container, unit_struct, newtype_struct, tuple_struct, field_struct, enumeration, Entries, container_at, choice_numbered, same_variant, same_struct, first_fault, fault_unless, choice_fault, container_fault, entry_fault, growth_fault, IsFirst, HasChoice, LacksChoice, GrowsTo, BreaksTo, HasContainer, LacksContainer, Grows, IsFirstGrowthFault, GrowthFault, Missing, Changed, VariantMissing, VariantChanged}
use Rattle.bcs_registry_model.proofs.Sameness.{same_variant-true, same_struct-true, same_shape-refl, same_shapes-refl, same_fields-refl, same_variant-refl}

some≢none : {A : Type 0} (x : A) → Some x ≡ None → ⊥
some≢none x h = true≢false (ap is_some h)

-- ---- a list of elements, each of which is good or has a fault

module _ {X : Type 0} (fault : X → Option GrowthFault) where
  pub good-from_none : (Good : X → Type 0) → ((x : X) → fault x ≡ None → Good x) → (xs : List X) → first_fault fault xs ≡ None → All Good xs
  good-from_none Good good [] h = All-nil Good
  good-from_none Good good (x ∷ xs) h = elim (fault x) as (λ o. fault x ≡ o → option_or o (first_fault fault xs) ≡ None → All Good (x ∷ xs)) [
    | None ↦ λ is rest. All-cons Good x xs (good x is) (good-from_none Good good xs rest)
    | Some e ↦ λ is rest. absurd (some≢none e rest)
  ] refl h

  pub none-from_good : (Good : X → Type 0) → ((x : X) → Good x → fault x ≡ None) → (xs : List X) → All Good xs → first_fault fault xs ≡ None
  none-from_good Good none [] h = refl
  none-from_good Good none (x ∷ xs) h =
      ap (λ o. option_or o (first_fault fault xs)) (none x (All-head Good x xs h)) ∙ none-from_good Good none xs (All-tail Good x xs h)

  pub first-from_some : (Good Faulty : X → Type 0) (e : GrowthFault) → ((x : X) → fault x ≡ None → Good x) → ((x : X) → fault x ≡ Some e → Faulty x) → (xs : List X)
      → first_fault fault xs ≡ Some e → IsFirst Good Faulty xs
  first-from_some Good Faulty e good faulty [] h = absurd (some≢none e (sym h))
  first-from_some Good Faulty e good faulty (x ∷ xs) h = elim (fault x) as (λ o. fault x ≡ o → option_or o (first_fault fault xs) ≡ Some e → IsFirst Good Faulty (x ∷ xs)) [
    | None ↦ λ is rest.
        let later = first-from_some Good Faulty e good faulty xs rest in
        record {
          front = x ∷ later.front;
          one = later.one;
          back = later.back;
          split = ap (λ ys. x ∷ ys) later.split;
          good = All-cons Good x later.front (good x is) later.good;
          faulty = later.faulty;
        }
    | Some g ↦ λ is rest. record { front = []; one = x; back = xs; split = refl; good = All-nil Good; faulty = faulty x (is ∙ rest) }
  ] refl h

  past_good : (Good : X → Type 0) → ((x : X) → Good x → fault x ≡ None) → (front ys : List X) → All Good front → first_fault fault (front ++ ys) ≡ first_fault fault ys
  past_good Good none [] ys h = refl
  past_good Good none (x ∷ front) ys h =
      ap (λ o. option_or o (first_fault fault (front ++ ys))) (none x (All-head Good x front h)) ∙ past_good Good none front ys (All-tail Good x front h)

  pub some-from_first : (Good Faulty : X → Type 0) (e : GrowthFault) → ((x : X) → Good x → fault x ≡ None) → ((x : X) → Faulty x → fault x ≡ Some e) → (xs : List X)
      → IsFirst Good Faulty xs → first_fault fault xs ≡ Some e
  some-from_first Good Faulty e none some xs h =
      ap (first_fault fault) h.split ∙ past_good Good none h.front (h.one ∷ h.back) h.good ∙ ap (λ o. option_or o (first_fault fault h.back)) (some h.one h.faulty)

-- ---- variants

unless-none : (e : GrowthFault) (b : Bool) → fault_unless e b ≡ None → b ≡ true
unless-none e true h = refl
unless-none e false h = absurd (some≢none e h)

unless-unlike : (e : GrowthFault) (b : Bool) → (b ≡ true → ⊥) → fault_unless e b ≡ Some e
unless-unlike e true h = absurd (h refl)
unless-unlike e false h = refl

unless-some : (e g : GrowthFault) (b : Bool) → fault_unless e b ≡ Some g → (b ≡ false) × (e ≡ g)
unless-some e g true h = absurd (some≢none g (sym h))
unless-some e g false h = (refl, cc)

abbrev found : List ℕ × Payload → Option (List ℕ × Payload) → Option GrowthFault
found v o = option_map_or (λ w. fault_unless VariantChanged (same_variant v w)) o (Some VariantMissing)

found-none : (v : List ℕ × Payload) (o : Option (List ℕ × Payload)) → found v o ≡ None → o ≡ Some v
found-none v None h = absurd (some≢none VariantMissing h)
found-none v (Some w) h = ap Some (sym (same_variant-true v w (unless-none VariantChanged (same_variant v w) h)))

none-found : (v : List ℕ × Payload) (o : Option (List ℕ × Payload)) → o ≡ Some v → found v o ≡ None
none-found v o h = ap (found v) h ∙ ap (fault_unless VariantChanged) (same_variant-refl v)

found-missing : (v : List ℕ × Payload) (o : Option (List ℕ × Payload)) → found v o ≡ Some VariantMissing → o ≡ None
found-missing v None h = refl
found-missing v (Some w) h = let e = (unless-some VariantChanged VariantMissing (same_variant v w) h).1 in absurd cc

found-changed : (v : List ℕ × Payload) (o : Option (List ℕ × Payload)) → found v o ≡ Some VariantChanged → (w : List ℕ × Payload) × (o ≡ Some w) × (w ≢ v)
found-changed v None h = absurd cc
found-changed v (Some w) h =
    (w, refl, λ e. true≢false (sym (ap (same_variant v) e ∙ same_variant-refl v) ∙ (unless-some VariantChanged VariantChanged (same_variant v w) h).0))

found-other : (v : List ℕ × Payload) (o : Option (List ℕ × Payload)) (e : GrowthFault) → (VariantMissing ≡ e → ⊥) → (VariantChanged ≡ e → ⊥) → found v o ≡ Some e → ⊥
found-other v None e m c h = m cc
found-other v (Some w) e m c h = c (unless-some VariantChanged e (same_variant v w) h).1

has_choice-from_none : (ds : List Choice) (c : Choice) → choice_fault ds c ≡ None → HasChoice ds c
has_choice-from_none ds c h = found-none c.1 (choice_numbered c.0 ds) h

none-from_has_choice : (ds : List Choice) (c : Choice) → HasChoice ds c → choice_fault ds c ≡ None
none-from_has_choice ds c h = none-found c.1 (choice_numbered c.0 ds) h

lacks_choice-from_some : (ds : List Choice) (e : GrowthFault) (c : Choice) → choice_fault ds c ≡ Some e → LacksChoice ds e c
lacks_choice-from_some ds VariantMissing c h = found-missing c.1 (choice_numbered c.0 ds) h
lacks_choice-from_some ds VariantChanged c h = found-changed c.1 (choice_numbered c.0 ds) h
lacks_choice-from_some ds Missing c h = found-other c.1 (choice_numbered c.0 ds) Missing (λ e. cc) (λ e. cc) h
lacks_choice-from_some ds Changed c h = found-other c.1 (choice_numbered c.0 ds) Changed (λ e. cc) (λ e. cc) h

some-from_lacks_choice : (ds : List Choice) (e : GrowthFault) (c : Choice) → LacksChoice ds e c → choice_fault ds c ≡ Some e
some-from_lacks_choice ds VariantMissing c h = ap (found c.1) h
some-from_lacks_choice ds VariantChanged c h =
    ap (found c.1) h.1 ∙ unless-unlike VariantChanged (same_variant c.1 h.0) (λ e. h.2 (sym (same_variant-true c.1 h.0 e)))
some-from_lacks_choice ds Missing c h = absurd h
some-from_lacks_choice ds Changed c h = absurd h

-- ---- containers

grows_to-from_none : (c d : Container) → container_fault c d ≡ None → GrowsTo c d
grows_to-from_none (enumeration cs) (enumeration ds) h = good-from_none (choice_fault ds) (HasChoice ds) (has_choice-from_none ds) cs h
grows_to-from_none c d h = same_struct-true c d (unless-none Changed (same_struct c d) h)

none-from_grows_to : (c d : Container) → GrowsTo c d → container_fault c d ≡ None
none-from_grows_to unit_struct d h = ap (container_fault unit_struct) (sym h)
none-from_grows_to (newtype_struct s) d h = ap (container_fault (newtype_struct s)) (sym h) ∙ ap (fault_unless Changed) (same_shape-refl s)
none-from_grows_to (tuple_struct ss) d h = ap (container_fault (tuple_struct ss)) (sym h) ∙ ap (fault_unless Changed) (same_shapes-refl ss)
none-from_grows_to (field_struct fs) d h = ap (container_fault (field_struct fs)) (sym h) ∙ ap (fault_unless Changed) (same_fields-refl fs)
none-from_grows_to (enumeration cs) (enumeration ds) h = none-from_good (choice_fault ds) (HasChoice ds) (none-from_has_choice ds) cs h
none-from_grows_to (enumeration cs) _ h = absurd cc

breaks_to-from_some : (e : GrowthFault) (c d : Container) → container_fault c d ≡ Some e → BreaksTo e c d
breaks_to-from_some e (enumeration cs) (enumeration ds) h =
    first-from_some (choice_fault ds) (HasChoice ds) (LacksChoice ds e) e (has_choice-from_none ds) (lacks_choice-from_some ds e) cs h
breaks_to-from_some e c d h =
    subst (λ g. BreaksTo g c d) (unless-some Changed e (same_struct c d) h).1 (λ q. some≢none e (sym h ∙ none-from_grows_to c d q))

some-from_breaks_to : (e : GrowthFault) (c d : Container) → BreaksTo e c d → container_fault c d ≡ Some e
some-from_breaks_to e (enumeration cs) (enumeration ds) h =
    some-from_first (choice_fault ds) (HasChoice ds) (LacksChoice ds e) e (none-from_has_choice ds) (some-from_lacks_choice ds e) cs h
some-from_breaks_to Changed c d h = unless-unlike Changed (same_struct c d) (λ same. h (same_struct-true c d same))
some-from_breaks_to _ _ _ h = absurd h

none_missing : (c d : Container) → BreaksTo Missing c d → ⊥
none_missing (enumeration cs) (enumeration ds) h = h.faulty
none_missing _ _ h = h

-- ---- registries

abbrev stands : Container → Option Container → Option GrowthFault
stands c o = option_map_or (λ d. container_fault c d) o (Some Missing)

stands-none : (c : Container) (o : Option Container) → stands c o ≡ None → (d : Container) × (o ≡ Some d) × GrowsTo c d
stands-none c None h = absurd (some≢none Missing h)
stands-none c (Some d) h = (d, refl, grows_to-from_none c d h)

stands-missing : (c : Container) (o : Option Container) → stands c o ≡ Some Missing → o ≡ None
stands-missing c None h = refl
stands-missing c (Some d) h = absurd (none_missing c d (breaks_to-from_some Missing c d h))

stands-some : (c : Container) (o : Option Container) (e : GrowthFault) → (Missing ≡ e → ⊥) → stands c o ≡ Some e → (d : Container) × (o ≡ Some d) × BreaksTo e c d
stands-some c None e other h = absurd (other cc)
stands-some c (Some d) e other h = (d, refl, breaks_to-from_some e c d h)

has_container-from_none : (newer : Entries) (c : List ℕ × Container) → entry_fault newer c ≡ None → HasContainer newer c
has_container-from_none newer c h = stands-none c.1 (container_at c.0 newer) h

none-from_has_container : (newer : Entries) (c : List ℕ × Container) → HasContainer newer c → entry_fault newer c ≡ None
none-from_has_container newer c h = ap (stands c.1) h.1 ∙ none-from_grows_to c.1 h.0 h.2

lacks_container-from_some : (newer : Entries) (e : GrowthFault) (c : List ℕ × Container) → entry_fault newer c ≡ Some e → LacksContainer newer e c
lacks_container-from_some newer Missing c h = stands-missing c.1 (container_at c.0 newer) h
lacks_container-from_some newer Changed c h = stands-some c.1 (container_at c.0 newer) Changed (λ e. cc) h
lacks_container-from_some newer VariantMissing c h = stands-some c.1 (container_at c.0 newer) VariantMissing (λ e. cc) h
lacks_container-from_some newer VariantChanged c h = stands-some c.1 (container_at c.0 newer) VariantChanged (λ e. cc) h

some-from_lacks_container : (newer : Entries) (e : GrowthFault) (c : List ℕ × Container) → LacksContainer newer e c → entry_fault newer c ≡ Some e
some-from_lacks_container newer Missing c h = ap (stands c.1) h
some-from_lacks_container newer Changed c h = ap (stands c.1) h.1 ∙ some-from_breaks_to Changed c.1 h.0 h.2
some-from_lacks_container newer VariantMissing c h = ap (stands c.1) h.1 ∙ some-from_breaks_to VariantMissing c.1 h.0 h.2
some-from_lacks_container newer VariantChanged c h = ap (stands c.1) h.1 ∙ some-from_breaks_to VariantChanged c.1 h.0 h.2

ok-from_none : (r : Result (Unit {0}) GrowthFault) → result_err r ≡ None → IsOk r
ok-from_none (Ok u) h = refl
ok-from_none (Err e) h = absurd (some≢none e h)

none-from_ok : (r : Result (Unit {0}) GrowthFault) → IsOk r → result_err r ≡ None
none-from_ok (Ok u) h = refl
none-from_ok (Err e) h = absurd (false≢true h)

err-from_some : (r : Result (Unit {0}) GrowthFault) (e : GrowthFault) → result_err r ≡ Some e → IsErrOf r e
err-from_some (Ok u) e h = absurd (some≢none e (sym h))
err-from_some (Err g) e h = ap Err cc

-- there is no fault exactly if the registry grows
pub ok_exactly : (older newer : Entries) (r : Result (Unit {0}) GrowthFault) → result_err r ≡ growth_fault older newer → IsOk r ↔ Grows older newer
ok_exactly older newer r h = (
  λ ok. good-from_none (entry_fault newer) (HasContainer newer) (has_container-from_none newer) older (sym h ∙ none-from_ok r ok),
  λ grows. ok-from_none r (h ∙ none-from_good (entry_fault newer) (HasContainer newer) (none-from_has_container newer) older grows),
)

-- each fault is returned exactly if it is the first
pub fault_exactly : (older newer : Entries) (r : Result (Unit {0}) GrowthFault) → result_err r ≡ growth_fault older newer → (e : GrowthFault) → IsErrOf r e ↔ IsFirstGrowthFault older newer e
fault_exactly older newer r h e = (
  λ err. first-from_some (entry_fault newer) (HasContainer newer) (LacksContainer newer e) e (has_container-from_none newer) (lacks_container-from_some newer e) older (sym h ∙ ap result_err err),
  λ first. err-from_some r e (h ∙ some-from_first (entry_fault newer) (HasContainer newer) (LacksContainer newer e) e (none-from_has_container newer) (some-from_lacks_container newer e) older first),
)
