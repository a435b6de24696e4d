-- Each key of a canonical map leads to exactly one entry.
use Rattle.bcs_decode_parts.proofs.Prelude.{◌≡◌, ℕ, ◌+◌, List, ◌++◌, length, Bool, true, false, Some, refl, sym, ap, subst, arith, length-append, bytes_eq-Decides, bytes_eq, uleb, Shape, Entries, of, Tree, Pairs, no_pairs, pair, pair_count, plain, plain_pairs, Below, Rises, RisesFrom, Below-irrefl, Below-trans, part_after, value_of, joined, KeyLeadsToOne}

-- equal byte strings compare as equal
pub same_bytes : (a b : List ℕ) → a ≡ b → bytes_eq a b ≡ true
same_bytes a b e = (bytes_eq-Decides a b).1 e

pub other_bytes : (a b : List ℕ) → (a ≡ b → ⊥) → bytes_eq a b ≡ false
other_bytes a b never = at (bytes_eq a b) refl
  where
    at : (x : Bool) → bytes_eq a b ≡ x → bytes_eq a b ≡ false
    at true e = absurd (never ((bytes_eq-Decides a b).0 e))
    at false e = e

module _ (registry : Entries) (f g : Shape) (k v : Tree) (later : Pairs) where
  abbrev wanted : List ℕ
  wanted = plain registry k (of f)

  -- earlier keys are below it
  later_above : (low : List ℕ) (before : Pairs) → RisesFrom registry low (joined before (pair k v later)) f → Below low wanted
  later_above low no_pairs h = h.0
  later_above low (pair a x before) h = Below-trans low (plain registry a (of f)) wanted h.0 (later_above (plain registry a (of f)) before h.1)

  not_first : (a x : Tree) (before : Pairs) → Rises registry (joined (pair a x before) (pair k v later)) f → wanted ≡ plain registry a (of f) → ⊥
  not_first a x before h e = Below-irrefl wanted (subst (λ (b : List ℕ). Below b wanted) (sym e) (later_above (plain registry a (of f)) before h))

  rises_on : (low : List ℕ) (ps : Pairs) → RisesFrom registry low ps f → Rises registry ps f
  rises_on low no_pairs h = tt
  rises_on low (pair a x ps) h = h.1

  leads : (before : Pairs) → Rises registry (joined before (pair k v later)) f
      → value_of registry (joined before (pair k v later)) f g wanted ≡ Some (record { value = v; content = of g; place = length (plain_pairs registry before f g) + length wanted })
  leads no_pairs h = rw (same_bytes wanted wanted refl) (ap (λ (n : ℕ). Some (record { value = v; content = of g; place = n })) (let z : length wanted ≡ 0 + length wanted = omega arith in z))
  leads (pair a x before) h =
      let next = leads before (rises_on (plain registry a (of f)) (joined before (pair k v later)) h) in
      let first = plain registry a (of f) in
      let value = plain registry x (of g) in
      let rest = plain_pairs registry before f g in
      let place : (length first + length value) + (length rest + length wanted) ≡ length (first ++ (value ++ rest)) + length wanted = omega (arith, length-append first (value ++ rest), length-append value rest) in
      rw (other_bytes wanted first (not_first a x before h), next) (ap (λ (n : ℕ). Some (record { value = v; content = of g; place = n })) place)

pub key_leads_to_one_is : KeyLeadsToOne
key_leads_to_one_is = λ registry f g before later k v h.
    ap (part_after (length (uleb (pair_count (joined before (pair k v later)))))) (leads registry f g k v later before h.0)
