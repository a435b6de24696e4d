-- Reading a number from the start of bytes, as one function: the number and its length, or the fault. Its result meets
-- the specification (`reports_number_at`), and no other does (`number_at_only`), so the cases exclude each other.
use Rattle.bcs_num.proofs.Prelude.{◌≡◌, ℕ, suc, ◌+◌, ◌-◌, ◌*◌, ◌/◌, ◌%◌, ◌^◌, ◌<◌, ◌≤◌, false, ◌&&◌, ◌==◌, nat_lt, if◌then◌else◌, List, [], ◌∷◌, ◌++◌, length, take, drop, Result, Ok, Err, refl, sym, ap, subst, ◌∙◌, arith, inl, inr, length-append, length-take, get_or, IfOk, IsErrOf, ◌↔◌, take_at, take-append-drop, drop_more, All, cases_lt, cases_eq, le-ltb, lt-ltb, nat_tests, All-nil, All-cons, All-head, All-tail, NumFault, EndOfInput, LongForm, NumberTooLarge, uleb, HasHighBit, IsUnended, IsLongForm, IsTooLarge}
use Rattle.bcs_num.proofs.Room.{room, room_next, room_step, room_last, room_small}
use Rattle.bcs_num.proofs.UlebLaws.{uleb-low, uleb-more, uleb_by_groups}

-- puts len bytes in front of a result: the value is scaled by worth, low is added, and the length grows
abbrev pub shifted : ℕ → ℕ → ℕ → Result (ℕ × ℕ) NumFault → Result (ℕ × ℕ) NumFault
shifted low worth len (Ok x) = Ok (low + x.0 * worth, len + x.1)
shifted low worth len (Err e) = Err e

-- reads the rest of a number, from the byte at index i on
abbrev pub number_from : ℕ → List ℕ → Result (ℕ × ℕ) NumFault
number_from i [] = Err EndOfInput
number_from i (b ∷ bytes) =
    if (i == 4) && nat_lt 15 b then Err NumberTooLarge
    else (if nat_lt b 128 then (if (b == 0) && nat_lt 0 i then Err LongForm else Ok (b, 1))
    else shifted (b - 128) 128 1 (number_from (suc i) bytes))

-- the four cases of a byte at index i
pub data ByteKind (i b : ℕ) : Type 0 where
  large : i ≡ 4 → 15 < b → ByteKind i b
  zero_last : b ≡ 0 → 0 < i → ByteKind i b
  last : b < 128 → ((i == 4) && nat_lt 15 b) ≡ false → ((b == 0) && nat_lt 0 i) ≡ false → ByteKind i b
  more : 128 ≤ b → i < 4 → ByteKind i b

pub byte_kind : (i b : ℕ) → i ≤ 4 → ByteKind i b
byte_kind i b few = elim (cases_lt b 128) [
  | inl low ↦ elim (cases_eq b 0) [
    | inl none ↦ elim (cases_lt 0 i) [
      | inl later ↦ zero_last none later
      | inr first ↦ last low (grind (arith, nat_tests)) (grind (arith, nat_tests))
    ]
    | inr some ↦ elim (cases_lt 15 b) [
      | inl above ↦ elim (cases_eq i 4) [
        | inl fifth ↦ large fifth above
        | inr before ↦ last low (grind (arith, nat_tests)) (grind (arith, nat_tests))
      ]
      | inr small ↦ last low (grind (arith, nat_tests)) (grind (arith, nat_tests))
    ]
  ]
  | inr high ↦ elim (cases_eq i 4) [
    | inl fifth ↦ large fifth (omega arith)
    | inr before ↦ more high (omega arith)
  ]
]

pub at_large : (i b : ℕ) (bytes : List ℕ) → i ≡ 4 → 15 < b → number_from i (b ∷ bytes) ≡ Err NumberTooLarge
at_large i b bytes fifth above = rw (fifth, lt-ltb 15 b above) refl

pub at_zero_last : (i b : ℕ) (bytes : List ℕ) → b ≡ 0 → 0 < i → number_from i (b ∷ bytes) ≡ Err LongForm
at_zero_last i b bytes none later =
    let small : ((i == 4) && nat_lt 15 0) ≡ false = grind (arith, nat_tests) in
    rw (none, small, lt-ltb 0 i later) refl

pub at_last : (i b : ℕ) (bytes : List ℕ) → b < 128 → ((i == 4) && nat_lt 15 b) ≡ false → ((b == 0) && nat_lt 0 i) ≡ false → number_from i (b ∷ bytes) ≡ Ok (b, 1)
at_last i b bytes low small shortest = rw (small, lt-ltb b 128 low, shortest) refl

pub at_more : (i b : ℕ) (bytes : List ℕ) → 128 ≤ b → i < 4 → number_from i (b ∷ bytes) ≡ shifted (b - 128) 128 1 (number_from (suc i) bytes)
at_more i b bytes high before =
    let small : ((i == 4) && nat_lt 15 b) ≡ false = grind (arith, nat_tests) in
    rw (small, le-ltb b 128 high) refl

-- ---- specification of the bytes from index i on

pub record NumberFrom (i : ℕ) (bytes : List ℕ) (n len : ℕ) : Type 0 where
  pub rest : List ℕ
  pub shortest : 0 < i → 0 < n
  pub fits : n < room i
  pub long : len ≡ length (uleb n)
  pub is : bytes ≡ uleb n ++ rest

pub record UnendedFrom (i : ℕ) (bytes : List ℕ) : Type 0 where
  pub short : i + length bytes < 5
  pub high : All HasHighBit bytes

pub record LongFrom (i : ℕ) (bytes : List ℕ) : Type 0 where
  pub front : List ℕ
  pub rest : List ℕ
  pub high : All HasHighBit front
  pub some : 0 < i + length front
  pub short : i + length front < 5
  pub is : bytes ≡ front ++ (0 ∷ rest)

pub record LargeFrom (i : ℕ) (bytes : List ℕ) : Type 0 where
  pub front : List ℕ
  pub last : ℕ
  pub rest : List ℕ
  pub high : All HasHighBit front
  pub four : i + length front ≡ 4
  pub above : 15 < last
  pub is : bytes ≡ front ++ (last ∷ rest)

abbrev pub FaultFrom : ℕ → List ℕ → NumFault → Type 0
FaultFrom i bytes EndOfInput = UnendedFrom i bytes
FaultFrom i bytes LongForm = LongFrom i bytes
FaultFrom i bytes NumberTooLarge = LargeFrom i bytes

abbrev pub ReportsFrom : ℕ → List ℕ → Result (ℕ × ℕ) NumFault → Type 0
ReportsFrom i bytes (Ok x) = NumberFrom i bytes x.0 x.1
ReportsFrom i bytes (Err e) = FaultFrom i bytes e

-- ---- the result meets it

number_more : (i b : ℕ) (bytes : List ℕ) (n len : ℕ) → i < 4 → 128 ≤ b → b < 256 → NumberFrom (suc i) bytes n len → NumberFrom i (b ∷ bytes) ((b - 128) + n * 128) (1 + len)
number_more i b bytes n len before high byte t =
    let some : 0 < n = t.shortest (omega arith) in
    let big : 128 ≤ (b - 128) + n * 128 = omega arith in
    let low : 128 + ((b - 128) + n * 128) % 128 ≡ b = omega arith in
    let up : ((b - 128) + n * 128) / 128 ≡ n = omega arith in
    let whole : uleb ((b - 128) + n * 128) ≡ b ∷ uleb n = uleb-more ((b - 128) + n * 128) big ∙ rw (low, up) refl in
    record {
      rest = t.rest;
      shortest = λ _. omega arith;
      fits = room_step i b n before byte t.fits;
      long = rw whole (omega (arith, t.long));
      is = rw whole (ap (λ (x : List ℕ). b ∷ x) t.is);
    }

fault_more : (i b : ℕ) (bytes : List ℕ) (e : NumFault) → i < 4 → 128 ≤ b → FaultFrom (suc i) bytes e → FaultFrom i (b ∷ bytes) e
fault_more i b bytes EndOfInput before high t = record { short = omega (arith, t.short); high = All-cons HasHighBit b bytes high t.high }
fault_more i b bytes LongForm before high t = record {
  front = b ∷ t.front;
  rest = t.rest;
  high = All-cons HasHighBit b t.front high t.high;
  some = omega arith;
  short = omega (arith, t.short);
  is = ap (λ (x : List ℕ). b ∷ x) t.is;
}
fault_more i b bytes NumberTooLarge before high t = record {
  front = b ∷ t.front;
  last = t.last;
  rest = t.rest;
  high = All-cons HasHighBit b t.front high t.high;
  four = omega (arith, t.four);
  above = t.above;
  is = ap (λ (x : List ℕ). b ∷ x) t.is;
}

reports_more : (i b : ℕ) (bytes : List ℕ) (r : Result (ℕ × ℕ) NumFault) → i < 4 → 128 ≤ b → b < 256 → ReportsFrom (suc i) bytes r → ReportsFrom i (b ∷ bytes) (shifted (b - 128) 128 1 r)
reports_more i b bytes (Ok x) before high byte t = number_more i b bytes x.0 x.1 before high byte t
reports_more i b bytes (Err e) before high byte t = fault_more i b bytes e before high t

reports_number_from : (i : ℕ) (bytes : List ℕ) → i ≤ 4 → All (λ b. b < 256) bytes → ReportsFrom i bytes (number_from i bytes)
reports_number_from i [] few byte = record { short = omega arith; high = All-nil HasHighBit }
reports_number_from i (b ∷ bytes) few byte = elim (byte_kind i b few) [
  | large fifth above ↦ rw (at_large i b bytes fifth above) (record { front = []; last = b; rest = bytes; high = All-nil HasHighBit; four = omega arith; above = above; is = refl })
  | zero_last none later ↦ rw (at_zero_last i b bytes none later) (record { front = []; rest = bytes; high = All-nil HasHighBit; some = omega arith; short = omega arith; is = ap (λ (x : ℕ). x ∷ bytes) none })
  | last low small shortest ↦
      (let one : uleb b ≡ b ∷ [] = uleb-low b low in
      rw (at_last i b bytes low small shortest) (record { rest = bytes; shortest = λ later. grind (arith, nat_tests); fits = room_last i b few low small; long = ap length (sym one); is = rw one refl }))
  | more high before ↦ rw (at_more i b bytes high before) (reports_more i b bytes (number_from (suc i) bytes) before high (All-head (λ x. x < 256) b bytes byte) (reports_number_from (suc i) bytes (omega arith) (All-tail (λ x. x < 256) b bytes byte)))
]

-- ---- and no other result does

abbrev ReadAgain : ℕ → Type 0
ReadAgain n = (i : ℕ) (rest : List ℕ) → i ≤ 4 → (0 < i → 0 < n) → n < room i → number_from i (uleb n ++ rest) ≡ Ok (n, length (uleb n))

low_again : (n : ℕ) → n < 128 → ReadAgain n
low_again n low i rest few shortest fits =
    let not_zero : ((n == 0) && nat_lt 0 i) ≡ false = elim (cases_lt 0 i) [ inl later ↦ (let some = shortest later in grind (arith, nat_tests)) | inr first ↦ grind (arith, nat_tests) ] in
    rw (uleb-low n low) (at_last i n rest low (room_small i n few fits) not_zero)

more_again : (n : ℕ) → 128 ≤ n → ReadAgain (n / 128) → ReadAgain n
more_again n high again i rest few shortest fits =
    let next = room_next i n high fits in
    let back : ((128 + n % 128) - 128) + n / 128 * 128 ≡ n = omega arith in
    let long : 1 + length (uleb (n / 128)) ≡ suc (length (uleb (n / 128))) = omega arith in
    rw (uleb-more n high) (at_more i (128 + n % 128) (uleb (n / 128) ++ rest) (omega arith) next.0
    ∙ ap (shifted ((128 + n % 128) - 128) 128 1) (again (suc i) rest (omega (arith, next.0)) (λ _. omega arith) next.1)
    ∙ rw (back, long) refl)

number_again : (n : ℕ) → ReadAgain n
number_again = uleb_by_groups ReadAgain low_again more_again

high_step : (i b : ℕ) (bytes : List ℕ) (e : NumFault) → i < 4 → 128 ≤ b → number_from (suc i) bytes ≡ Err e → number_from i (b ∷ bytes) ≡ Err e
high_step i b bytes e before high is = at_more i b bytes high before ∙ ap (shifted (b - 128) 128 1) is

unended_only : (i : ℕ) (bytes : List ℕ) → i + length bytes < 5 → All HasHighBit bytes → number_from i bytes ≡ Err EndOfInput
unended_only i [] short high = refl
unended_only i (b ∷ bytes) short high =
    high_step i b bytes EndOfInput (omega arith) (All-head HasHighBit b bytes high)
    (unended_only (suc i) bytes (omega arith) (All-tail HasHighBit b bytes high))

-- prepending bytes with the high bit keeps a fault at index 4 or earlier
after_high : (front : List ℕ) (i j : ℕ) (bytes : List ℕ) (e : NumFault) → All HasHighBit front → i + length front ≡ j → j ≤ 4 → number_from j bytes ≡ Err e → number_from i (front ++ bytes) ≡ Err e
after_high [] i j bytes e high at' few is = let same : i ≡ j = omega arith in rw same is
after_high (b ∷ front) i j bytes e high at' few is =
    high_step i b (front ++ bytes) e (omega arith) (All-head HasHighBit b front high)
    (after_high front (suc i) j bytes e (All-tail HasHighBit b front high) (omega arith) few is)

fault_only : (i : ℕ) (bytes : List ℕ) (e : NumFault) → FaultFrom i bytes e → number_from i bytes ≡ Err e
fault_only i bytes EndOfInput t = unended_only i bytes t.short t.high
fault_only i bytes LongForm t =
    ap (number_from i) t.is
    ∙ after_high t.front i (i + length t.front) (0 ∷ t.rest) LongForm t.high refl (omega (arith, t.short)) (at_zero_last (i + length t.front) 0 t.rest refl t.some)
fault_only i bytes NumberTooLarge t =
    ap (number_from i) t.is
    ∙ after_high t.front i 4 (t.last ∷ t.rest) NumberTooLarge t.high t.four (omega arith) (at_large 4 t.last t.rest refl t.above)

number_from_only : (i : ℕ) (bytes : List ℕ) (r : Result (ℕ × ℕ) NumFault) → i ≤ 4 → ReportsFrom i bytes r → number_from i bytes ≡ r
number_from_only i bytes (Ok x) few t = ap (number_from i) t.is ∙ number_again x.0 i t.rest few t.shortest t.fits ∙ ap (λ (len : ℕ). Ok (x.0, len)) (sym t.long)
number_from_only i bytes (Err e) few t = fault_only i bytes e t

-- ---- from index 0 on: the definitions of the specification

-- what reading from the start of bytes returns
abbrev pub number_at : List ℕ → Result (ℕ × ℕ) NumFault
number_at bytes = number_from 0 bytes

abbrev pub IsFault : List ℕ → NumFault → Type 0
IsFault bytes EndOfInput = IsUnended bytes
IsFault bytes LongForm = IsLongForm bytes
IsFault bytes NumberTooLarge = IsTooLarge bytes

fault_to : (bytes : List ℕ) (e : NumFault) → FaultFrom 0 bytes e → IsFault bytes e
fault_to bytes EndOfInput t = record { short = omega (arith, t.short); high = t.high }
fault_to bytes LongForm t = record { front = t.front; rest = t.rest; high = t.high; some = omega (arith, t.some); short = omega (arith, t.short); is = t.is }
fault_to bytes NumberTooLarge t = record { front = t.front; last = t.last; rest = t.rest; high = t.high; four = omega (arith, t.four); above = t.above; is = t.is }

fault_of : (bytes : List ℕ) (e : NumFault) → IsFault bytes e → FaultFrom 0 bytes e
fault_of bytes EndOfInput t = record { short = omega (arith, t.short); high = t.high }
fault_of bytes LongForm t = record { front = t.front; rest = t.rest; high = t.high; some = omega (arith, t.some); short = omega (arith, t.short); is = t.is }
fault_of bytes NumberTooLarge t = record { front = t.front; last = t.last; rest = t.rest; high = t.high; four = omega (arith, t.four); above = t.above; is = t.is }

-- the first len bytes are those of n
pub record IsNumber (bytes : List ℕ) (n len : ℕ) : Type 0 where
  pub fits : n < 2 ^ 32
  pub within : len ≤ length bytes
  pub is : take len bytes ≡ uleb n

pub number_at_number : (bytes : List ℕ) (n len : ℕ) → IsNumber bytes n len → number_at bytes ≡ Ok (n, len)
number_at_number bytes n len t =
    number_from_only 0 bytes (Ok (n, len)) (omega arith) (record {
      rest = drop len bytes;
      shortest = λ none. absurd (omega arith);
      fits = t.fits;
      long = omega (arith, ap length t.is, length-take len bytes, t.within);
      is = sym (take-append-drop len bytes) ∙ ap (λ (x : List ℕ). x ++ drop len bytes) t.is;
    })

pub number_at_fault : (bytes : List ℕ) (e : NumFault) → IsFault bytes e → number_at bytes ≡ Err e
number_at_fault bytes e t = fault_only 0 bytes e (fault_of bytes e t)

pub number_at_is_number : (bytes : List ℕ) (n len : ℕ) → All (λ b. b < 256) bytes → number_at bytes ≡ Ok (n, len) → IsNumber bytes n len
number_at_is_number bytes n len byte e =
    let t : NumberFrom 0 bytes n len = subst (ReportsFrom 0 bytes) e (reports_number_from 0 bytes (omega arith) byte) in
    let long : length bytes ≡ length (uleb n) + length t.rest = ap length t.is ∙ length-append (uleb n) t.rest in
    record {
      fits = t.fits;
      within = omega (arith, long, t.long);
      is = ap (take len) t.is ∙ take_at (uleb n) t.rest len (sym t.long);
    }

pub number_at_is_fault : (bytes : List ℕ) (e : NumFault) → All (λ b. b < 256) bytes → number_at bytes ≡ Err e → IsFault bytes e
number_at_is_fault bytes e byte is = fault_to bytes e (subst (ReportsFrom 0 bytes) is (reports_number_from 0 bytes (omega arith) byte))

-- the clauses of `take_uleb`
abbrev pub Verdict : List ℕ → Result (ℕ × ℕ) NumFault → Type 0
Verdict bytes r = record {
  found : IfOk r (λ x. (x.0 < 2 ^ 32) × (x.1 ≤ length bytes) × (take x.1 bytes ≡ uleb x.0));
  only : (n len : ℕ) → n < 2 ^ 32 → len ≤ length bytes → take len bytes ≡ uleb n → r ≡ Ok (n, len);
  ended : IsErrOf r EndOfInput ↔ IsUnended bytes;
  long : IsErrOf r LongForm ↔ IsLongForm bytes;
  large : IsErrOf r NumberTooLarge ↔ IsTooLarge bytes;
}

found : (bytes : List ℕ) (r : Result (ℕ × ℕ) NumFault) → All (λ b. b < 256) bytes → number_at bytes ≡ r → IfOk r (λ x. (x.0 < 2 ^ 32) × (x.1 ≤ length bytes) × (take x.1 bytes ≡ uleb x.0))
found bytes (Ok x) byte e = let t = number_at_is_number bytes x.0 x.1 byte e in (t.fits, t.within, t.is)
found bytes (Err f) byte e = tt

pub verdict : (bytes : List ℕ) (r : Result (ℕ × ℕ) NumFault) → All (λ b. b < 256) bytes → number_at bytes ≡ r → Verdict bytes r
verdict bytes r byte e = record {
  found = found bytes r byte e;
  only = λ n len fits within is. sym e ∙ number_at_number bytes n len (record { fits = fits; within = within; is = is });
  ended = (λ h. number_at_is_fault bytes EndOfInput byte (e ∙ h), λ t. sym e ∙ number_at_fault bytes EndOfInput t);
  long = (λ h. number_at_is_fault bytes LongForm byte (e ∙ h), λ t. sym e ∙ number_at_fault bytes LongForm t);
  large = (λ h. number_at_is_fault bytes NumberTooLarge byte (e ∙ h), λ t. sym e ∙ number_at_fault bytes NumberTooLarge t);
}

-- ---- the loop of `take_uleb`, after i bytes

-- the byte at index i ends the loop
pub decided : (bytes : List ℕ) (i low worth : ℕ) (r : Result (ℕ × ℕ) NumFault) → i < length bytes
    → number_at bytes ≡ shifted low worth i (number_from i (drop i bytes))
    → number_from i (get_or bytes i 0 ∷ drop (i + 1) bytes) ≡ r
    → number_at bytes ≡ shifted low worth i r
decided bytes i low worth r within whole is = whole ∙ ap (λ (x : List ℕ). shifted low worth i (number_from i x)) (drop_more bytes i 0 within) ∙ ap (shifted low worth i) is
