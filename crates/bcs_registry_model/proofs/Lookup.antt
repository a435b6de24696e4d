-- Looking up containers and variants, in a map and in the list of entries that represents it.
use Rattle.bcs_registry_model.proofs.Prelude.{◌≡◌, ℕ, List, [], ◌∷◌, String, Global, Option, Some, None, option_map, Bor, Bool, true, false, ◌==◌, cond, string_bytes, map, refl, sym, rules, is_eq, nat_cmp, slice_cmp, comparing, lookup, option_copied, is_at, is_eq-slice_cmp, container_at, choice_numbered, choice_of, payload_of, container_of, entries_of, Named, VariantFormat}
use Rattle.bcs_registry_model.specs.declared.container.Container as declared

is_eq-nat_cmp : (m n : ℕ) → is_eq (nat_cmp m n) ≡ (n == m)
is_eq-nat_cmp m n = search (comparing, rules)

pub map-cond : {A B : Type 0} (f : A → B) (b : Bool) (x : A) (o : Option A) → option_map f (cond b (Some x) o) ≡ cond b (Some (f x)) (option_map f o)
map-cond f true x o = refl
map-cond f false x o = refl

-- a variant, by its number
pub find-choice : (n : ℕ) (es : List (ℕ × Named VariantFormat)) → choice_numbered n (map choice_of es) ≡ option_map (λ v. (string_bytes v.name, payload_of v.value)) (lookup (is_at (nat_cmp n)) es)
find-choice n [] = refl
find-choice n (e ∷ es) = rw (sym (is_eq-nat_cmp n e.0), find-choice n es) (sym (map-cond (λ v. (string_bytes v.name, payload_of v.value)) (is_eq (nat_cmp n e.0)) e.1 _))

-- a container, by its name
pub find-container : (n : List ℕ) (es : List (String Global × declared.Container)) → container_at n (entries_of es) ≡ option_map container_of (lookup (is_at (λ k. slice_cmp nat_cmp n (string_bytes k))) es)
find-container n [] = refl
find-container n (e ∷ es) = rw (sym (is_eq-slice_cmp n (string_bytes e.0)), find-container n es) (sym (map-cond container_of (is_eq (slice_cmp nat_cmp n (string_bytes e.0))) e.1 _))

pub map-copied : {A B : Type 0} (f : A → B) (o : Option (Bor A)) → option_map (λ x. f x.now) o ≡ option_map f (option_copied o)
map-copied f None = refl
map-copied f (Some x) = refl
