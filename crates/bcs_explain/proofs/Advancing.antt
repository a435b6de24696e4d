-- A parser leaves exactly the bytes after those that it skipped.
use Rattle.bcs_explain.proofs.Prelude.{◌≡◌, ℕ, zero, suc, ◌+◌, ◌-◌, ◌≤◌, nat_lt, ◌==◌, List, [], ◌∷◌, drop, length, Bool, true, false, if◌then◌else◌, take, Result, Ok, Err, sym, ap, ◌∙◌, arith, drop-drop, is_utf8, utf8_valid_len, NumFault, Reason, EndOfInput, LengthTooLarge, BadUtf8, Parser, chain, give, fail, fail_here, node, uleb_from, number_read, number_here, length_here, bytes_here, text_here, flag_here, items_here, skipping, done, halted, parts, follow_ok, node_here, flag_past, counted_here, whole_here, variant_past, enter_here, unsupported_here, node_and_bytes}
use Rattle.bcs_num.specs.declared.fault.NumFault.TheVariants as num

abbrev pub Advances : {A : Type 0} → Parser A → Type 0
Advances {A} f = (p m : ℕ) (b : List ℕ) (x : A) (q l : ℕ) (c : List ℕ) → f p m b ≡ Ok (x, q, l, c) → (p ≤ q) × (c ≡ drop (q - p) b)

here : {A : Type 0} (x y : A) (n p m : ℕ) (b : List ℕ) (q l : ℕ) (c : List ℕ) → done x (p + n) m (drop n b) ≡ done y q l c → (p ≤ q) × (c ≡ drop (q - p) b)
here x y n p m b q l c h =
    let t = parts x y (p + n) q m l (drop n b) c h in
    let size : n ≡ q - p = omega (arith, t.1) in
    (omega (arith, t.1), sym t.3 ∙ ap (λ (i : ℕ). drop i b) size)

advances_give : {A : Type 0} (x : A) → Advances (give x)
unfolding give
advances_give x p m b y q l c h = let e : p ≡ p + 0 = omega arith in here x y 0 p m b q l c (ap (λ (i : ℕ). Ok (x, i, m, b)) (sym e) ∙ h)

advances_fail : {A : Type 0} (e : Reason) (o : ℕ) → Advances {A = A} (fail e o)
unfolding fail
advances_fail e o p m b x q l c h = absurd cc

advances_chain : {A B : Type 0} (f : Parser A) (k : A → Parser B) → Advances f → ((x : A) → Advances (k x)) → Advances (chain f k)
unfolding chain
advances_chain f k first next p m b y q l c h =
    let s = follow_ok (f p m b) k (y, q, l, c) h in
    let x = s.0 in
    let one = first p m b x.0 x.1 x.2 x.3 s.1 in
    let two = next x.0 x.1 x.2 x.3 y q l c s.2 in
    let size : (x.1 - p) + (q - x.1) ≡ q - p = omega (arith, one.0, two.0) in
    (omega (arith, one.0, two.0), two.1 ∙ ap (drop (q - x.1)) one.1 ∙ drop-drop (q - x.1) (x.1 - p) b ∙ ap (λ (i : ℕ). drop i b) size)

advances_node : Advances node_here
unfolding node
advances_node p zero b x q l c h = absurd cc
advances_node p (suc m) b x q l c h = advances_give tt p m b x q l c h

number_advances : (p m : ℕ) (b : List ℕ) (r : Result (ℕ × ℕ) NumFault) (x q l : ℕ) (c : List ℕ) → number_read p m b r ≡ Ok (x, q, l, c) → (p ≤ q) × (c ≡ drop (q - p) b)
number_advances p m b (Ok y) x q l c h = here y.0 x y.1 p m b q l c h
number_advances p m b (Err num.EndOfInput) x q l c h = absurd cc
number_advances p m b (Err num.LongForm) x q l c h = absurd cc
number_advances p m b (Err num.NumberTooLarge) x q l c h = absurd cc

advances_number : Advances number_here
unfolding number_here
advances_number p m b x q l c h = number_advances p m b (uleb_from 0 b) x q l c h

advances_length : Advances length_here
unfolding length_here
advances_length p = advances_chain number_here _ advances_number (λ n. at n _) p
  where
    at : (n : ℕ) (long : Bool) → Advances (if long then fail LengthTooLarge p else give n)
    at n true = advances_fail LengthTooLarge p
    at n false = advances_give n

pub advances_bytes : (n : ℕ) → Advances (bytes_here n)
unfolding bytes_here
advances_bytes n p m b x q l c h = at (nat_lt (length b) n) h
  where
    at : (short : Bool) → (if short then halted EndOfInput (p + length b) else done (take n b) (p + n) m (drop n b)) ≡ done x q l c → (p ≤ q) × (c ≡ drop (q - p) b)
    at true h = absurd cc
    at false h = here (take n b) x n p m b q l c h

pub advances_text : (n : ℕ) → Advances (text_here n)
unfolding text_here
advances_text n p = advances_chain (bytes_here n) _ (advances_bytes n) (λ s. at s (is_utf8 s)) p
  where
    at : (s : List ℕ) (good : Bool) → Advances (if good then give s else fail BadUtf8 (p + utf8_valid_len s))
    at s true = advances_give s
    at s false = advances_fail BadUtf8 (p + utf8_valid_len s)

advances_bit : (bad : Reason) → Advances (flag_here bad)
unfolding flag_here
advances_bit bad p m [] x q l c h = absurd cc
advances_bit bad p m (y ∷ b) x q l c h = at (nat_lt 1 y) h
  where
    at : (wrong : Bool) → (if wrong then halted bad p else done (y == 1) (p + 1) m b) ≡ done x q l c → (p ≤ q) × (c ≡ drop (q - p) (y ∷ b))
    at true h = absurd cc
    at false h = here (y == 1) x 1 p m (y ∷ b) q l c h

-- ---- steps

pub advances_flag : (bad : Reason) → Advances (flag_past bad)
unfolding flag_past
advances_flag bad = advances_chain node_here _ advances_node (λ _. advances_bit bad)

pub advances_counted : Advances counted_here
unfolding counted_here
advances_counted = advances_chain node_here _ advances_node (λ _. advances_length)

pub advances_node_and_bytes : (n : ℕ) → Advances (node_and_bytes n)
unfolding node_and_bytes
advances_node_and_bytes n = advances_chain node_here _ advances_node (λ _. advances_bytes n)

pub advances_variant : Advances variant_past
unfolding variant_past
advances_variant = advances_chain node_here _ advances_node (λ _ start. advances_chain number_here (λ n. give (start, n)) advances_number (λ n. advances_give (start, n)) start)

advances_whole : (n : ℕ) → Advances (whole_here n)
unfolding whole_here
advances_whole n = advances_chain node_here _ advances_node (λ _. advances_chain (bytes_here n) _ (advances_bytes n) (λ _. advances_give tt))

advances_items : (f : Parser (Unit {0})) → Advances f → (n : ℕ) → Advances (items_here skipping f n)
unfolding items_here
advances_items f each zero = advances_give tt
advances_items f each (suc n) = advances_chain f _ each (λ _. advances_chain (items_here skipping f n) _ (advances_items f each n) (λ _. advances_give tt))

pub advances_octets : (n : ℕ) → Advances (items_here skipping (whole_here 1) n)
advances_octets n = advances_items (whole_here 1) (advances_whole 1) n

-- ---- steps that read no bytes
pub node_stays : (p m : ℕ) (b : List ℕ) (x : Unit {0}) (q l : ℕ) (c : List ℕ) → node_here p m b ≡ Ok (x, q, l, c) → (q ≡ p) × (c ≡ b)
unfolding node give
node_stays p zero b x q l c h = absurd cc
node_stays p (suc m) b x q l c h = let t = parts tt x p q m l b c h in (sym t.1, sym t.3)

pub enter_stays : (d p m : ℕ) (b : List ℕ) (x : Unit {0}) (q l : ℕ) (c : List ℕ) → enter_here d p m b ≡ Ok (x, q, l, c) → (q ≡ p) × (c ≡ b)
unfolding enter_here fail_here
enter_stays zero p m b x q l c h = absurd cc
enter_stays (suc d) p m b x q l c h = node_stays p m b x q l c h

pub never_read : (p m : ℕ) (b : List ℕ) (x : Unit {0}) (q l : ℕ) (c : List ℕ) → unsupported_here p m b ≡ Ok (x, q, l, c) → ⊥
unfolding unsupported_here chain fail_here node give
never_read p zero b x q l c h = absurd cc
never_read p (suc m) b x q l c h = absurd cc
