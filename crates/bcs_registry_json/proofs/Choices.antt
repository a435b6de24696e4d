-- The variants of an enum by number, and inserting one.
use Rattle.bcs_registry_json.proofs.Prelude.{◌≡◌, ◌<◌, ◌^◌, ◌∙◌, ℕ, List, [], ◌∷◌, Bool, true, Ordering, Less, Equal, Greater, ap, arith, decimal, nat_cmp, nat_lt, refl, sym, subst, Decides-ltb, nat_cmp_total, ranked, decimal_injective, insert_entry, insert_key, list_all, IsStrictlySortedBy, keys_of, match_ordering, Data, put, Choice, Payload, shown_choices, shown_payload, single, payload_sizes_fit}
use Rattle.bcs_registry_json.proofs.Puts.{put_again, put_either}
use Rattle.bcs_registry_json.proofs.RisingMembers.{sorted_inserted}
use Rattle.bcs_registry_json.proofs.TwoTests.{and-true_parts}

abbrev pub has_number : Choice → Bool
has_number c = nat_lt c.0 (2 ^ 32)

abbrev pub has_sizes : Choice → Bool
has_sizes c = payload_sizes_fit c.1.1

-- the JSON of a name and its payload
abbrev pub variant_shown : List ℕ × Payload → Data
variant_shown v = single v.0 (shown_payload v.1)

pub numbered_below : (n : ℕ) → nat_lt n (2 ^ 32) ≡ true → n < 2 ^ 32
numbered_below n h = (Decides-ltb n (2 ^ 32)).0 h

-- different numbers have different decimal strings
pub texts_differ : (m n : ℕ) → m < 2 ^ 32 → n < 2 ^ 32 → (m ≡ n → ⊥) → decimal m ≡ decimal n → ⊥
texts_differ m n low high other same = other (decimal_injective m n (omega (arith, low)) (omega (arith, high)) same)

module _ (n : ℕ) (v : List ℕ × Payload) where
  abbrev inserted : List Choice → List Choice
  inserted cs = insert_entry nat_cmp cs n v

  -- a test that holds for all variants and the new one holds after inserting it
  pub insert_all : (test : Choice → Bool) → test (n, v) ≡ true → (cs : List Choice) → list_all test cs ≡ true → list_all test (inserted cs) ≡ true
  insert_all test here [] h = rw here refl
  insert_all test here (c ∷ cs) h =
      let parts = and-true_parts (test c) (list_all test cs) h in
      at (nat_cmp n c.0) refl parts.0 parts.1 (insert_all test here cs parts.1)
    where
      at : (o : Ordering) → nat_cmp n c.0 ≡ o → test c ≡ true → list_all test cs ≡ true → list_all test (inserted cs) ≡ true
          → list_all test (match_ordering o ((n, v) ∷ c ∷ cs) ((c.0, v) ∷ cs) (c ∷ inserted cs)) ≡ true
      at Less o first others later = rw (here, first, others) refl
      at Equal o first others later =
          let same : n ≡ c.0 = ranked n c.0 Equal (sym o) in
          let there : test (c.0, v) ≡ true = subst (λ (k : ℕ). test (k, v) ≡ true) same here in
          rw (there, others) refl
      at Greater o first others later = rw (first, later) refl

  -- inserting a variant inserts a member into the JSON
  pub insert_shown : n < 2 ^ 32 → (cs : List Choice) → list_all has_number cs ≡ true → shown_choices (inserted cs) ≡ put (decimal n) (variant_shown v) (shown_choices cs)
  insert_shown small [] h = refl
  insert_shown small (c ∷ cs) h =
      let parts = and-true_parts (has_number c) (list_all has_number cs) h in
      at (nat_cmp n c.0) refl (numbered_below c.0 parts.0) (insert_shown small cs parts.1)
    where
      at : (o : Ordering) → nat_cmp n c.0 ≡ o → c.0 < 2 ^ 32
          → shown_choices (inserted cs) ≡ put (decimal n) (variant_shown v) (shown_choices cs)
          → shown_choices (match_ordering o ((n, v) ∷ c ∷ cs) ((c.0, v) ∷ cs) (c ∷ inserted cs)) ≡ put (decimal n) (variant_shown v) (shown_choices (c ∷ cs))
      at Less o fits later = refl
      at Equal o fits later =
          let same : c.0 ≡ n = sym (ranked n c.0 Equal (sym o)) in
          subst (λ (k : ℕ). put (decimal c.0) (variant_shown v) (shown_choices cs) ≡ put (decimal k) (variant_shown v) (put (decimal c.0) (variant_shown c.1) (shown_choices cs)))
          same (sym (put_again (decimal c.0) (variant_shown v) (variant_shown c.1) (shown_choices cs)))
      at Greater o fits later =
          let below : c.0 < n = ranked n c.0 Greater (sym o) in
          ap (put (decimal c.0) (variant_shown c.1)) later
          ∙ put_either (decimal c.0) (decimal n) (variant_shown c.1) (variant_shown v) (shown_choices cs) (texts_differ c.0 n fits small (λ same. omega (arith, same)))

  keys_either : (o : Ordering) (a b c : List Choice) → keys_of (match_ordering o a b c) ≡ match_ordering o (keys_of a) (keys_of b) (keys_of c)
  keys_either Less a b c = refl
  keys_either Equal a b c = refl
  keys_either Greater a b c = refl

  keys_inserted : (cs : List Choice) → keys_of (inserted cs) ≡ insert_key nat_cmp (keys_of cs) n
  keys_inserted [] = refl
  keys_inserted (c ∷ cs) = keys_either (nat_cmp n c.0) ((n, v) ∷ c ∷ cs) ((c.0, v) ∷ cs) (c ∷ inserted cs) ∙ rw (keys_inserted cs) refl

  pub insert_rises : (cs : List Choice) → IsStrictlySortedBy nat_cmp (keys_of cs) → IsStrictlySortedBy nat_cmp (keys_of (inserted cs))
  insert_rises cs s = subst (λ (ns : List ℕ). IsStrictlySortedBy nat_cmp ns) (sym (keys_inserted cs)) (sorted_inserted nat_cmp nat_cmp_total n (keys_of cs) s)
