-- A variant by its name: first its number, then the variant with that number.
use Rattle.bcs_json_reader.proofs.Prelude.{◌≡◌, ◌∙◌, ℕ, List, Option, Some, None, option_map, Bor, map, string_bytes, true, refl, sym, ap, subst, is_at, lookup, option_copied, option_map_or, and_parts, Choice, Payload, Entries, enumeration, container_at, choice_called, choice_numbered, number_called, variant_number, IsOrderly, choice_of, payload_of, Named, VariantFormat, find-choice, nothing, json_content, numbering_at, called_numbered, numbers_differ, numbers_fit, has_numbering, orderly_numbering}
use Rattle.std.specs.Ordering.{nat_cmp}

-- the variants of an enum have different numbers
pub differ : (registry : Entries) (name : List ℕ) → IsOrderly registry → (cs : List Choice) → container_at name registry ≡ Some (enumeration cs) → numbers_differ cs ≡ true
differ registry name orderly cs h =
    (and_parts (numbers_differ cs) (numbers_fit cs)
    (sym (ap (λ p. has_numbering (option_map_or json_content p nothing)) h) ∙ numbering_at name registry (orderly_numbering registry orderly))).0

-- the variant with this number
numbered : (o : Option Choice) (n : ℕ) → Some n ≡ option_map (λ c. c.0) o → (c : Choice) × (o ≡ Some c) × (c.0 ≡ n)
numbered None n h = cc
numbered (Some c) n h = (c, refl, cc)

same_choice : (n : ℕ) (c : Choice) (o : Option (Bor (Named VariantFormat))) → c.0 ≡ n → option_map (λ v. (string_bytes v.name, payload_of v.value)) (option_copied o) ≡ Some c.1
    → option_map (λ v. choice_of (n, v.now)) o ≡ Some c
same_choice n c None is h = cc
same_choice n c (Some x) is h =
    let stands : (string_bytes x.now.name, payload_of x.now.value) ≡ c.1 = cc in
    ap (λ (p : List ℕ × Payload). Some (n, p)) stands ∙ ap (λ m. Some (m, c.1)) (sym is)

module _ (registry : Entries) (orderly : IsOrderly registry) (name word : List ℕ) (vs : List (ℕ × Named VariantFormat)) (h : container_at name registry ≡ Some (enumeration (map choice_of vs))) where
  number_is : variant_number name word registry ≡ option_map (λ c. c.0) (choice_called word (map choice_of vs))
  number_is = ap (λ o. option_map_or (number_called word) o None) h

  -- the variant with this number is the one with this name
  pub found_called : (r : Option ℕ) (n : ℕ) (o : Option (Bor (Named VariantFormat))) → r ≡ variant_number name word registry → r ≡ Some n → option_copied o ≡ lookup (is_at (nat_cmp n)) vs
      → option_map (λ v. choice_of (n, v.now)) o ≡ choice_called word (map choice_of vs)
  found_called r n o is some found =
      let c = numbered (choice_called word (map choice_of vs)) n (sym some ∙ is ∙ number_is) in
      let stands : choice_numbered n (map choice_of vs) ≡ Some c.0.1 =
      subst (λ m. choice_numbered m (map choice_of vs) ≡ Some c.0.1) c.2 (called_numbered word (map choice_of vs) c.0 (differ registry name orderly (map choice_of vs) h) c.1) in
      same_choice n c.0 o c.2 (ap (option_map (λ v. (string_bytes v.name, payload_of v.value))) found ∙ sym (find-choice n vs) ∙ stands) ∙ sym c.1

  pub stands_called : (r : Option ℕ) (n : ℕ) (o : Option (Bor (Named VariantFormat))) (x : Bor (Named VariantFormat)) → r ≡ variant_number name word registry → r ≡ Some n → option_copied o ≡ lookup (is_at (nat_cmp n)) vs
      → o ≡ Some x → Some (choice_of (n, x.now)) ≡ choice_called word (map choice_of vs)
  stands_called r n o x is some found there = ap (option_map (λ v. choice_of (n, v.now))) (sym there) ∙ found_called r n o is some found

  pub lacks_called : (r : Option ℕ) (n : ℕ) (o : Option (Bor (Named VariantFormat))) → r ≡ variant_number name word registry → r ≡ Some n → option_copied o ≡ lookup (is_at (nat_cmp n)) vs
      → o ≡ None → None ≡ choice_called word (map choice_of vs)
  lacks_called r n o is some found none = ap (option_map (λ v. choice_of (n, v.now))) (sym none) ∙ found_called r n o is some found
