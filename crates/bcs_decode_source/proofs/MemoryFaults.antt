-- `OutOfMemory` that occurs only in an open key, carried through a recursion that reaches no map.
use Rattle.bcs_decode_source.proofs.Prelude.{◌≡◌, ◌≢◌, ◌==◌, ℕ, zero, suc, ◌+◌, ◌-◌, ◌<◌, Bool, true, false, cond, List, [], ◌∷◌, length, get_or, map, drop, Some, Result, Ok, Err, IsErrAnd, refl, sym, ap, subst, ◌∙◌, arith, lookup, option_map_or, and_parts, Shape, Entries, Choice, of, one_of, nothing, content_at, choice_at, payload_shape, field_shapes, shape_of, formats_shapes, field_of, Named, Format, formats_next, fields_next, DecodeFault, Stop, OutOfMemory, Progress, OutOfMemoryOnlyInKey, has_no_map, have_no_map, content_has_no_map, named_reaches_no_map}
use Rattle.bcs_decode_spec.specs.declared.decode_fault.DecodeFault.TheVariants.{Read}

-- ---- out of memory

-- what a `?` returns between p and q
pub OutOfMemoryOnlyInKey-exit : (r : Result (Unit {0}) DecodeFault) (e : DecodeFault) (p q : Progress) → IsErrAnd r (λ y. y ≡ e) → q.is_in_key ≡ p.is_in_key → OutOfMemoryOnlyInKey {X = Unit {0}} (Err e) q → OutOfMemoryOnlyInKey r p
OutOfMemoryOnlyInKey-exit (Ok x) e p q h same k = absurd h
OutOfMemoryOnlyInKey-exit (Err (Stop s)) e p q h same k = tt
OutOfMemoryOnlyInKey-exit (Err Read) e p q h same k = tt
OutOfMemoryOnlyInKey-exit (Err OutOfMemory) e p q h same k = sym same ∙ subst (λ (x : DecodeFault). OutOfMemoryOnlyInKey {X = Unit {0}} (Err x) q) (sym h) k

-- what is returned at the end
pub OutOfMemoryOnlyInKey-on : (r : Result (Unit {0}) DecodeFault) (p q : Progress) → q.is_in_key ≡ p.is_in_key → OutOfMemoryOnlyInKey r q → OutOfMemoryOnlyInKey r p
OutOfMemoryOnlyInKey-on (Ok x) p q same k = tt
OutOfMemoryOnlyInKey-on (Err (Stop s)) p q same k = tt
OutOfMemoryOnlyInKey-on (Err Read) p q same k = tt
OutOfMemoryOnlyInKey-on (Err OutOfMemory) p q same k = sym same ∙ k

-- no key is open
pub never_lacks : {Y : Type 0} (r : Result Y DecodeFault) (e : DecodeFault) (p : Progress) → IsErrAnd r (λ y. y ≡ e) → p.is_in_key ≡ false → OutOfMemoryOnlyInKey {X = Unit {0}} (Err e) p → r ≢ Err OutOfMemory
never_lacks (Ok x) e p h outside k = absurd h
never_lacks (Err (Stop s)) e p h outside k = λ bad. absurd cc
never_lacks (Err Read) e p h outside k = λ bad. absurd cc
never_lacks (Err OutOfMemory) e p h outside k = λ bad. absurd (let within = subst (λ (x : DecodeFault). OutOfMemoryOnlyInKey {X = Unit {0}} (Err x) p) (sym h) k in let no = outside in cc)

-- ---- parts of a format that reaches no map

module _ (r : List ℕ → Bool) where
  formats_drop : (fs : List Format) (i : ℕ) → have_no_map r (formats_shapes fs) ≡ true → have_no_map r (formats_shapes (drop i fs)) ≡ true
  formats_drop [] zero h = h
  formats_drop [] (suc i) h = h
  formats_drop (f ∷ fs) zero h = h
  formats_drop (f ∷ fs) (suc i) h = formats_drop fs i (and_parts (has_no_map r (shape_of f)) (have_no_map r (formats_shapes fs)) h).1

  pub format_has_no_map : (fs : List Format) (i : ℕ) (f : Format) → i < length fs → f ≡ get_or fs i f → have_no_map r (formats_shapes fs) ≡ true → has_no_map r (shape_of f) ≡ true
  format_has_no_map fs i f lt is h =
      (and_parts (has_no_map r (shape_of f)) (have_no_map r (formats_shapes (drop (i + 1) fs))) (ap (have_no_map r) (sym (formats_next fs i f lt is)) ∙ formats_drop fs i h)).0

  fields_drop : (fs : List (Named Format)) (i : ℕ) → have_no_map r (field_shapes (map field_of fs)) ≡ true → have_no_map r (field_shapes (map field_of (drop i fs))) ≡ true
  fields_drop [] zero h = h
  fields_drop [] (suc i) h = h
  fields_drop (f ∷ fs) zero h = h
  fields_drop (f ∷ fs) (suc i) h = fields_drop fs i (and_parts (has_no_map r (shape_of f.value)) (have_no_map r (field_shapes (map field_of fs))) h).1

  pub field_has_no_map : (fs : List (Named Format)) (i : ℕ) (f : Named Format) → i < length fs → f ≡ get_or fs i f → have_no_map r (field_shapes (map field_of fs)) ≡ true → has_no_map r (shape_of f.value) ≡ true
  field_has_no_map fs i f lt is h =
      (and_parts (has_no_map r (shape_of f.value)) (have_no_map r (field_shapes (map field_of (drop (i + 1) fs)))) (ap (have_no_map r) (sym (fields_next fs i f lt is)) ∙ fields_drop fs i h)).0

  pub choice_has_no_map : (n : ℕ) (cs : List Choice) (s : Shape) → content_has_no_map r (one_of cs) ≡ true → choice_at n cs ≡ of s → has_no_map r s ≡ true
  choice_has_no_map n [] s h is = absurd cc
  choice_has_no_map n (c ∷ cs) s h is =
      let both = and_parts (has_no_map r (payload_shape c.1.1)) (content_has_no_map r (one_of cs)) h in
      elim (c.0 == n) as (λ b. option_map_or (λ c. of (payload_shape c.1)) (cond b (Some c.1) (lookup (λ m. m == n) cs)) nothing ≡ of s → has_no_map r s ≡ true) [
        | true ↦ λ found. subst (λ x. has_no_map r x ≡ true) (same_of found) both.0
        | false ↦ λ rest. choice_has_no_map n cs s both.1 rest
      ] is
    where
      same_of : {x y : Shape} → of x ≡ of y → x ≡ y
      same_of k = cc

-- a container that opens
pub named_content : (registry : Entries) (d : ℕ) (n : List ℕ) → 0 < d → named_reaches_no_map registry d n ≡ content_has_no_map (named_reaches_no_map registry (d - 1)) (content_at n registry)
named_content registry zero n h = absurd (omega arith)
named_content registry (suc d) n h = let less : suc d - 1 ≡ d = omega arith in rw less refl
