-- What the functions on little-endian integers read and write, in std's terms.
use Rattle.bcs_num.proofs.Prelude.{◌≡◌, ℕ, zero, suc, ◌+◌, ◌-◌, ◌*◌, ◌/◌, ◌%◌, ◌^◌, ◌<◌, ◌≤◌, ℤ, pos, negsuc, List, [], ◌∷◌, ◌++◌, length, take, drop, get_or, refl, sym, ap, subst, ◌∙◌, arith, length-take, length-take-le, Option, Some, None, Ok, IfOk, IfSome, ok_or, EndOfInput, w8, w16, w32, w64, w128, byte_len, byte_worth, sum_through, to_le_bytes, from_le_bytes, cast_unsigned, cast_signed, bit_and, All, Fits-of_lt, sfits_to_z, pow-suc, mod-eq_of_lt, to_z-of_z, of_z-to_z, and_mask, take_at, drop_at, All-head, All-tail, All-take, bits, IsUnsigned, IsSigned, low_bytes, le, le_signed}
use Rattle.std.specs.Int as int
use Rattle.bcs_num.proofs.LeLaws.{width_bytes, cast_in_range, All-le, length-le, le_prefix_free, to_le_bytes-le}

-- the little-endian value of bytes
number_of : List ℕ → ℕ
number_of [] = 0
number_of (b ∷ bytes) = b + number_of bytes * 256

number_of-lt : (bytes : List ℕ) → All (λ byte. byte < 256) bytes → number_of bytes < 256 ^ length bytes
unfolding number_of
number_of-lt [] h = omega arith
number_of-lt (b ∷ bytes) h =
    let here = All-head (λ byte. byte < 256) b bytes h in
    let rest = number_of-lt bytes (All-tail (λ byte. byte < 256) b bytes h) in
    omega (arith, pow-suc 256 (length bytes))

low_bytes-number_of : (bytes : List ℕ) → All (λ byte. byte < 256) bytes → low_bytes (length bytes) (number_of bytes) ≡ bytes
unfolding number_of
low_bytes-number_of [] h = refl
low_bytes-number_of (b ∷ bytes) h =
    let here = All-head (λ byte. byte < 256) b bytes h in
    let low : (b + number_of bytes * 256) % 256 ≡ b = omega arith in
    let up : (b + number_of bytes * 256) / 256 ≡ number_of bytes = omega arith in
    rw (low, up, low_bytes-number_of bytes (All-tail (λ byte. byte < 256) b bytes h)) refl

-- the value of the bytes up to the one at index k, inclusive
worth_through : List ℕ → ℕ → ℕ
worth_through bytes k = sum_through (λ i. byte_worth i (get_or bytes i 0)) k

worth_through-cons : (b : ℕ) (bytes : List ℕ) (k : ℕ) → worth_through (b ∷ bytes) (suc k) ≡ b + worth_through bytes k * 256
unfolding worth_through
worth_through-cons b bytes zero = omega arith
worth_through-cons b bytes (suc k) =
    let before = worth_through-cons b bytes k in
    let next : get_or bytes (suc k) 0 * 256 ^ suc (suc k) ≡ get_or bytes (suc k) 0 * 256 ^ suc k * 256 =
    ap (λ (p : ℕ). get_or bytes (suc k) 0 * p) (pow-suc 256 (suc k)) ∙ omega arith in
    omega (arith, before, next)

worth_through-all : (b : ℕ) (bytes : List ℕ) → worth_through (b ∷ bytes) (length bytes) ≡ number_of (b ∷ bytes)
unfolding worth_through number_of
worth_through-all b [] = omega arith
worth_through-all b (c ∷ bytes) = worth_through-cons b (c ∷ bytes) (length bytes) ∙ ap (λ (n : ℕ). b + n * 256) (worth_through-all c bytes)

pub byte_len_within : (w : int.Width) → (0 < byte_len w) × (byte_len w ≤ 16)
byte_len_within w8 = (omega arith, omega arith)
byte_len_within w16 = (omega arith, omega arith)
byte_len_within w32 = (omega arith, omega arith)
byte_len_within w64 = (omega arith, omega arith)
byte_len_within w128 = (omega arith, omega arith)

from_le_bytes-number_of : (w : int.Width) (bytes : List ℕ) → length bytes ≡ byte_len w → from_le_bytes w bytes ≡ number_of bytes
unfolding worth_through
from_le_bytes-number_of w [] long = absurd (omega (arith, (byte_len_within w).0))
from_le_bytes-number_of w (b ∷ bytes) long =
    let last : byte_len w - 1 ≡ length bytes = omega (arith, long) in
    ap (worth_through (b ∷ bytes)) last ∙ worth_through-all b bytes

-- byte_len bytes are the encoding of the number that std reads from them, which is in range
pub unsigned_read : (w : int.Width) (s : List ℕ) → All (λ byte. byte < 256) s → length s ≡ byte_len w → IsUnsigned w (from_le_bytes w s) × (s ≡ le w (from_le_bytes w s))
unfolding le
unsigned_read w s byte long =
    let number : from_le_bytes w s ≡ number_of s = from_le_bytes-number_of w s long in
    let below : number_of s < 256 ^ byte_len w = subst (λ (k : ℕ). number_of s < 256 ^ k) long (number_of-lt s byte) in (
      omega (arith, number, below, width_bytes w),
      sym (low_bytes-number_of s byte) ∙ ap (λ (k : ℕ). low_bytes k (number_of s)) long ∙ ap (low_bytes (byte_len w)) (sym number),
    )

pub unsigned_written : (w : int.Width) (n : ℕ) → IsUnsigned w n → All (λ byte. byte < 256) (le w n) × (length (le w n) ≡ byte_len w) × (from_le_bytes w (le w n) ≡ n)
unsigned_written w n h =
    let k = unsigned_read w (le w n) (All-le w n) (length-le w n) in
    (All-le w n, length-le w n, (le_prefix_free w (from_le_bytes w (le w n)) n [] [] k.0 h (ap (λ (x : List ℕ). x ++ []) (sym k.1))).0)

-- the same for signed integers
abbrev pub signed_number : int.Width → List ℕ → ℤ
signed_number w s = cast_signed w (from_le_bytes w s)

pub signed_read : (w : int.Width) (s : List ℕ) → All (λ byte. byte < 256) s → length s ≡ byte_len w → IsSigned w (signed_number w s) × (s ≡ le_signed w (signed_number w s))
signed_read w s byte long =
    let k = unsigned_read w s byte long in
    (sfits_to_z (Fits-of_lt k.0), k.1 ∙ ap (le w) (sym (of_z-to_z w (from_le_bytes w s) k.0)))

pub signed_written : (w : int.Width) (z : ℤ) → IsSigned w z → All (λ byte. byte < 256) (le_signed w z) × (length (le_signed w z) ≡ byte_len w) × (signed_number w (le_signed w z) ≡ z)
signed_written w z h =
    let k = unsigned_written w (cast_unsigned w z) (cast_in_range w z h) in
    (k.0, k.1, ap (cast_signed w) k.2 ∙ to_z-of_z w z h)

-- what `take_le` and `take_le_signed` return
module _ {A : Type 0} (w : int.Width) (number : List ℕ → A) (Is : A → Type 0) (bytes_of : A → List ℕ) (bytes : List ℕ) where
  abbrev Front : Option A → Type 0
  Front r = IfSome r (λ n. (byte_len w ≤ length bytes) × (n ≡ number (take (byte_len w) bytes)))

  pub front_found : (r : Option A) → Front r → All (λ byte. byte < 256) bytes
      → ((s : List ℕ) → All (λ byte. byte < 256) s → length s ≡ byte_len w → Is (number s) × (s ≡ bytes_of (number s))) → IfOk (ok_or r EndOfInput) (λ n. Is n × (take (byte_len w) bytes ≡ bytes_of n))
  front_found (Some n) (enough, is) byte read = rw is (read (take (byte_len w) bytes) (All-take (λ x. x < 256) (byte_len w) bytes byte) (length-take-le (byte_len w) bytes enough))
  front_found None h byte read = tt

  pub front_only : (r : Option A) → Front r → (r ≡ None → length bytes < byte_len w) → ((n : A) → Is n → All (λ byte. byte < 256) (bytes_of n) × (length (bytes_of n) ≡ byte_len w) × (number (bytes_of n) ≡ n))
      → (n : A) → Is n → take (byte_len w) bytes ≡ bytes_of n → ok_or r EndOfInput ≡ Ok n
  front_only (Some m) (enough, is) none back n fits first = ap (λ (x : A). Ok x) (is ∙ ap number first ∙ (back n fits).2)
  front_only None h none back n fits first = absurd (omega (arith, none refl, ap length first, (back n fits).1, length-take (byte_len w) bytes))

-- the lowest bits of the 128-bit two's complement are the two's complement of the width
low_bits : (w : int.Width) (z : ℤ) → IsSigned w z → cast_unsigned w128 z % 2 ^ bits w ≡ cast_unsigned w z
low_bits w (pos n) h = mod-eq_of_lt (cast_in_range w (pos n) h)
low_bits w8 (negsuc n) h = omega (arith, h.sfits)
low_bits w16 (negsuc n) h = omega (arith, h.sfits)
low_bits w32 (negsuc n) h = omega (arith, h.sfits)
low_bits w64 (negsuc n) h = omega (arith, h.sfits)
low_bits w128 (negsuc n) h = omega (arith, h.sfits)

pub masked : (w : int.Width) (z : ℤ) (n mask : ℕ) → IsSigned w z → n ≡ cast_unsigned w128 z → mask + 1 ≡ 2 ^ bits w → bit_and n mask ≡ cast_unsigned w z
masked w z n mask h is ones = let all : mask ≡ 2 ^ bits w - 1 = omega (arith, ones) in rw (all, is) (and_mask (cast_unsigned w128 z) (bits w) ∙ low_bits w z h)

-- the clauses of `put_le`, from the contract of `put_front`
pub put_is : (w : int.Width) (n k : ℕ) (s old new : List ℕ) → k ≡ byte_len w → s ≡ to_le_bytes w n → new ≡ s ++ drop (byte_len w) old
    → record { len : k ≡ byte_len w; room : k ≤ 16; bytes : take k new ≡ le w n; rest : drop k new ≡ drop k old }
put_is w n k s old new size is after =
    let bytes_are : s ≡ le w n = is ∙ to_le_bytes-le w n in
    let long : length s ≡ k = ap length bytes_are ∙ length-le w n ∙ sym size in
    record {
      len = size;
      room = omega (arith, size, (byte_len_within w).1);
      bytes = ap (take k) after ∙ take_at s (drop (byte_len w) old) k long ∙ bytes_are;
      rest = ap (drop k) after ∙ drop_at s (drop (byte_len w) old) k long ∙ ap (λ i. drop i old) (sym size);
    }

-- a number below 256 has one byte, itself
pub byte_low_first : (n : ℕ) → n < 256 → n ∷ [] ≡ to_le_bytes w8 n
byte_low_first n small = let low : n ≡ n % 256 = omega arith in ap (λ (x : ℕ). x ∷ []) low
