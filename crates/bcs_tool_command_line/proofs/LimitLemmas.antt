-- The limits that the options of a command line write.
use Rattle.bcs_tool_command_line.proofs.Prelude.{◌≡◌, ◌≤◌, ◌<◌, ◌^◌, ◌∙◌, ◌==◌, ap, subst, sym, refl, arith, true, false, cond, Bool, ℕ, List, [], ◌∷◌, drop, Option, Some, None, Result, Ok, Err, pos, find, option_and_then, bytes_eq, IsNumeral, ParsesUnsigned, digits_value, starts_with_minus, without_leading_plus, ne_eqb, digit_from_value, ints, without_minus, ReadsOne, one_text, IsSignedIn, Row, Text, one_of, row_text, Signed, Found, accepts-Accepts, both, one_text-rows, WritesLimit}
use Rattle.std.specs.Prelude.{unwrap_or}
use Rattle.clap.specs.Walk.{rows_of}
use Rattle.bcs_tool_command_line.proofs.Values.{AreRows, Passed}

-- ---- what clap's getter reads

pub read_limit : {E : Type 0} (G : List ℕ → Result ℕ E → Type 0) → ((text : List ℕ) (r : Result ℕ E) → G text r → ParsesUnsigned 32 10 text r)
    → (most : ℕ) → most < 2 ^ 32 → (f : Found) (name : Text) (r : Option ℕ) → (one_text f name ≡ None → r ≡ None)
    → ((text : List ℕ) → one_text f name ≡ Some text → ReadsOne G text r)
    → (n : ℕ) → WritesLimit most (one_of name (rows_of f)) n → WritesLimit most (one_of name (rows_of f)) (unwrap_or r most)
read_limit G parses most small f name r none some n h =
    subst (λ (o : Option Text). WritesLimit most o (unwrap_or r most)) (one_text-rows f name)
    (go (one_text f name) r refl none some (subst (λ (o : Option Text). WritesLimit most o n) (sym (one_text-rows f name)) h))
  where
    go : (o : Option Text) (r : Option ℕ) → one_text f name ≡ o → (one_text f name ≡ None → r ≡ None)
        → ((text : List ℕ) → one_text f name ≡ Some text → ReadsOne G text r) → WritesLimit most o n → WritesLimit most o (unwrap_or r most)
    go None r at none some w = ap (λ (x : Option ℕ). unwrap_or x most) (none at)
    go (Some text) (Some v) at none some w =
        let is = parses text (Ok v) (some text at) in
        let same : v ≡ n = is.1 ∙ sym w.1 in (w.0, is.1, subst (λ (k : ℕ). k ≤ most) (sym same) w.2)
    go (Some text) None at none some w =
        let e = some text at in
        let fits : digits_value 10 (without_leading_plus text) < 2 ^ 32 = subst (λ (k : ℕ). k < 2 ^ 32) w.1 (omega (arith, w.2)) in
        absurd (parses text (Err e.0) e.1 (w.0, fits))

-- ---- what a value that passed writes

without_minus-cond : (t : List ℕ) → without_minus t ≡ cond (starts_with_minus t) (drop 1 t) t
without_minus-cond [] = refl
without_minus-cond (x ∷ xs) = go (x == 45)
  where
    go : (b : Bool) → unwrap_or (cond b (Some xs) None) (x ∷ xs) ≡ cond b xs (x ∷ xs)
    go true = refl
    go false = refl

no_plus : (ds : List ℕ) → IsNumeral 10 ds → without_leading_plus ds ≡ ds
no_plus [] h = refl
no_plus (d ∷ ds) h =
    let plus : (d == 43) ≡ false = ne_eqb _ _ (λ e. omega (arith, digit_from_value d h.1.0)) in
    ap (λ (b : Bool). drop (cond b 1 0) (d ∷ ds)) plus

writes : (most : ℕ) (t : List ℕ) → IsSignedIn (pos 0) (pos most) t → (n : ℕ) × WritesLimit most (Some (without_minus t)) n
writes most t passed =
    let P : List ℕ → Type 0 = λ u. (n : ℕ) × WritesLimit most (Some u) n in
    subst P (sym (without_minus-cond t)) (go (starts_with_minus t) refl)
  where
    go : (b : Bool) → starts_with_minus t ≡ b → (n : ℕ) × WritesLimit most (Some (cond (starts_with_minus t) (drop 1 t) t)) n
    go true minus =
        let low = rw minus at passed.2 in
        let numeral : IsNumeral 10 (drop 1 t) = rw minus at passed.0 in
        let same = no_plus (drop 1 t) numeral in
        rw minus (digits_value 10 (drop 1 t), (rw same numeral, ap (digits_value 10) (sym same), omega (arith, ints)))
    go false minus =
        let high = rw minus at passed.3 in
        let numeral = rw minus at passed.0 in
        rw minus (digits_value 10 (without_leading_plus t), (numeral, refl, omega (arith, ints)))

-- the rows of an option whose values passed
pub row_limit : (id : Text) (most : ℕ) (rows : List Row) → AreRows id (Signed (pos 0) (pos most)) rows → (n : ℕ) × WritesLimit most (one_of id rows) n
row_limit id most [] h = (most, refl)
row_limit id most (r ∷ rs) h = go (bytes_eq r.id id) refl (row_limit id most rs h.1)
  where
    own : (r : Row) (values : List Text) → r.values ≡ values → Passed id (Signed (pos 0) (pos most)) r → (n : ℕ) × WritesLimit most (row_text r) n
    own r [] at is = rw at (most, refl)
    own r (v ∷ vs) at is =
        let passed = accepts-Accepts false (Signed (pos 0) (pos most)) v (both _ _ (rw at at is.values)).0 in
        rw (at, is.reading) (writes most v passed)

    go : (b : Bool) → bytes_eq r.id id ≡ b → ((n : ℕ) × WritesLimit most (one_of id rs) n)
        → (n : ℕ) × WritesLimit most (option_and_then row_text (cond b (Some r) (find (λ x. bytes_eq x.id id) rs))) n
    go true same rest = own r r.values refl (h.0 same)
    go false other rest = rest
