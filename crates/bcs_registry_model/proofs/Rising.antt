-- The order of keys in the maps of a registry, as seen in its list of entries: names ascend byte by byte, and variant
-- numbers ascend and fit into 32 bits.
use Rattle.bcs_registry_model.proofs.Prelude.{subst, ◌≡◌, ℕ, List, [], ◌∷◌, ◌++◌, String, Global, Less, Ordering, string_bytes, map, refl, sym, ap, slice_cmp, AllByRecursion, IsStrictlySortedBy, keys_of, nat_cmp, string_cmp, choice_of, entries_of, Named, VariantFormat}
use Rattle.bcs_registry_model.specs.declared.container.Container as declared

abbrev pub Stored : Type 0
Stored = String Global × declared.Container

abbrev pub Variant : Type 0
Variant = ℕ × Named VariantFormat

-- the list of variants has the same keys as the map
pub keys-choices : (vs : List Variant) → keys_of (map choice_of vs) ≡ keys_of vs
keys-choices [] = refl
keys-choices (v ∷ vs) = ap (λ ns. v.0 ∷ ns) (keys-choices vs)

bytes_above : (name : String Global) (es : List Stored) → AllByRecursion (λ k. string_cmp name k ≡ Less) (keys_of es) → AllByRecursion (λ k. slice_cmp nat_cmp (string_bytes name) k ≡ Less) (keys_of (entries_of es))
bytes_above name [] h = h
bytes_above name (e ∷ es) h = (h.0, bytes_above name es h.1)

pub names_rise : (es : List Stored) → IsStrictlySortedBy string_cmp (keys_of es) → IsStrictlySortedBy (slice_cmp nat_cmp) (keys_of (entries_of es))
unfolding IsStrictlySortedBy
names_rise [] h = h
names_rise (e ∷ es) h = (bytes_above e.0 es h.0, names_rise es h.1)

pub numbers_rise : (vs : List Variant) → IsStrictlySortedBy nat_cmp (keys_of vs) → IsStrictlySortedBy nat_cmp (keys_of (map choice_of vs))
numbers_rise vs h = subst (λ ns. IsStrictlySortedBy nat_cmp ns) (sym (keys-choices vs)) h

-- appending one element
pub all_push : {X Y : Type 0} (P : Y → Type 0) (f : X → Y) (xs : List X) (x : X) → AllByRecursion P (map f xs) → P (f x) → AllByRecursion P (map f (xs ++ x ∷ []))
all_push P f [] x h here = (here, tt)
all_push P f (first ∷ xs) x h here = (h.0, all_push P f xs x h.1 here)

-- a key below all later ones is below each of them
pub below_later : {K X : Type 0} (R : K → K → Ordering) (k : K) (es : List (K × X)) (e : K × X) (more : List (K × X)) → AllByRecursion (λ l. R k l ≡ Less) (keys_of (es ++ e ∷ more)) → R k e.0 ≡ Less
below_later R k [] e more h = h.0
below_later R k (x ∷ es) e more h = below_later R k es e more h.1
