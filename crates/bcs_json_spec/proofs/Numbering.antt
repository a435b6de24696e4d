-- The variants of an enum have different numbers of 32 bits, since they are in a finite map.
use Rattle.bcs_json_spec.proofs.Prelude.{◌≡◌, ◌^◌, ℕ, List, [], ◌∷◌, Bool, true, false, not, ◌&&◌, ◌==◌, nat_lt, Less, Equal, refl, ap, and_from, Decides-eqb, nat_cmp_is, list_all, list_any, AllByRecursion, IsStrictlySortedBy, keys_of, Choice, Container, unit_struct, newtype_struct, tuple_struct, field_struct, enumeration, Entries, IsInRange, IsOrderly, JsonContent, one_of, json_content}
use Rattle.std.specs.Ordering.{nat_cmp}

abbrev pub numbers_differ : List Choice → Bool
numbers_differ [] = true
numbers_differ (c ∷ cs) = not (list_any (λ d. c.0 == d.0) cs) && numbers_differ cs

abbrev pub numbers_fit : List Choice → Bool
numbers_fit = list_all (λ c. nat_lt c.0 (2 ^ 32))

abbrev pub has_numbering : JsonContent → Bool
has_numbering (one_of cs) = numbers_differ cs && numbers_fit cs
has_numbering _ = true

not_equal : (n m : ℕ) (b : Bool) → (n == m) ≡ b → nat_cmp n m ≡ Less → b ≡ false
not_equal n m true is h = cc (nat_cmp_is n m Equal ((Decides-eqb n m).0 is), h)
not_equal n m false is h = refl

none_equal : (n : ℕ) (cs : List Choice) → AllByRecursion (λ m. nat_cmp n m ≡ Less) (keys_of cs) → list_any (λ d. n == d.0) cs ≡ false
none_equal n [] h = refl
none_equal n (c ∷ cs) h = rw (not_equal n c.0 (n == c.0) refl h.0) (none_equal n cs h.1)

rising_differ : (cs : List Choice) → IsStrictlySortedBy nat_cmp (keys_of cs) → numbers_differ cs ≡ true
unfolding IsStrictlySortedBy
rising_differ [] h = refl
rising_differ (c ∷ cs) h = and_from _ _ (ap not (none_equal c.0 cs h.0)) (rising_differ cs h.1)

container_numbering : (c : Container) → IsInRange c → has_numbering (json_content c) ≡ true
container_numbering unit_struct h = refl
container_numbering (newtype_struct s) h = refl
container_numbering (tuple_struct ss) h = refl
container_numbering (field_struct fs) h = refl
container_numbering (enumeration cs) h = and_from _ _ (rising_differ cs h.rise) h.numbers

all_numbering : (registry : Entries) → AllByRecursion (λ e. IsInRange e.1) registry → list_all (λ e. has_numbering (json_content e.1)) registry ≡ true
all_numbering [] h = refl
all_numbering (e ∷ es) h = and_from _ _ (container_numbering e.1 h.0) (all_numbering es h.1)

pub orderly_numbering : (registry : Entries) → IsOrderly registry → list_all (λ e. has_numbering (json_content e.1)) registry ≡ true
orderly_numbering registry h = all_numbering registry h.containers
