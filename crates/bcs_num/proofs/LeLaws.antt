-- Laws of little-endian integers. No other file unfolds `le`.
use Rattle.bcs_num.proofs.Prelude.{◌≡◌, ℕ, zero, suc, ◌*◌, ◌/◌, ◌%◌, ◌^◌, ◌<◌, ℤ, List, [], ◌∷◌, ◌++◌, length, refl, sym, ap, subst, ◌∙◌, arith, w8, w16, w32, w64, w128, byte_len, byte_at, bytes_low_first, to_le_bytes, cast_unsigned, cast_signed, All, Fits-of_z, pow-suc, div-div-eq-div-mul, div-one, to_z-of_z, All-nil, All-cons, bits, IsUnsigned, IsSigned, low_bytes, le, le_signed}
use Rattle.std.specs.Int as int

-- ---- how many bytes, and which ones

length-low_bytes : (k n : ℕ) → length (low_bytes k n) ≡ k
length-low_bytes zero n = refl
length-low_bytes (suc k) n = ap suc (length-low_bytes k (n / 256))

pub length-le : (w : int.Width) (n : ℕ) → length (le w n) ≡ byte_len w
unfolding le
length-le w n = length-low_bytes (byte_len w) n

All-low_byte : (k n : ℕ) → All (λ byte. byte < 256) (low_bytes k n)
All-low_byte zero n = All-nil (λ byte. byte < 256)
All-low_byte (suc k) n = All-cons (λ byte. byte < 256) (n % 256) (low_bytes k (n / 256)) (omega arith) (All-low_byte k (n / 256))

pub All-le : (w : int.Width) (n : ℕ) → All (λ byte. byte < 256) (le w n)
unfolding le
All-le w n = All-low_byte (byte_len w) n

-- a one-byte integer is encoded as itself
pub le-w8 : (n : ℕ) → n < 256 → le w8 n ≡ n ∷ []
unfolding le
le-w8 n small = let low : n % 256 ≡ n = omega arith in rw low refl

-- ---- no encoding is a prefix of another

pub width_bytes : (w : int.Width) → 2 ^ bits w ≡ 256 ^ byte_len w
width_bytes w8 = refl
width_bytes w16 = refl
width_bytes w32 = refl
width_bytes w64 = refl
width_bytes w128 = refl

low_bytes-free : (k m n : ℕ) (r s : List ℕ) → m < 256 ^ k → n < 256 ^ k → low_bytes k m ++ r ≡ low_bytes k n ++ s → (m ≡ n) × (r ≡ s)
low_bytes-free zero m n r s h g e = (omega arith, e)
low_bytes-free (suc k) m n r s h g e =
    let heads : m % 256 ≡ n % 256 = cc in
    let tails : low_bytes k (m / 256) ++ r ≡ low_bytes k (n / 256) ++ s = cc in
    let p : 256 ^ suc k ≡ 256 ^ k * 256 = pow-suc 256 k in
    let i = low_bytes-free k (m / 256) (n / 256) r s (omega (arith, p)) (omega (arith, p)) tails in
    (omega (arith, i.0, heads), i.1)

pub le_prefix_free : (w : int.Width) (m n : ℕ) (r s : List ℕ) → IsUnsigned w m → IsUnsigned w n → le w m ++ r ≡ le w n ++ s → (m ≡ n) × (r ≡ s)
unfolding le
le_prefix_free w m n r s h g e = low_bytes-free (byte_len w) m n r s (subst (λ (x : ℕ). m < x) (width_bytes w) h) (subst (λ (x : ℕ). n < x) (width_bytes w) g) e

-- the two's complement of a signed integer is in the unsigned range of its width
pub cast_in_range : (w : int.Width) (z : ℤ) → IsSigned w z → IsUnsigned w (cast_unsigned w z)
cast_in_range w z h = (Fits-of_z h).fits

pub le_signed_prefix_free : (w : int.Width) (y z : ℤ) (r s : List ℕ) → IsSigned w y → IsSigned w z → le_signed w y ++ r ≡ le_signed w z ++ s → (y ≡ z) × (r ≡ s)
le_signed_prefix_free w y z r s h g e =
    let i = le_prefix_free w (cast_unsigned w y) (cast_unsigned w z) r s (cast_in_range w y h) (cast_in_range w z g) e in
    (sym (to_z-of_z w y h) ∙ ap (cast_signed w) i.0 ∙ to_z-of_z w z g, i.1)

-- ---- in std's terms

byte_at-pow : (i n : ℕ) → byte_at i n ≡ n / 256 ^ i % 256
byte_at-pow zero n = ap (λ (x : ℕ). x % 256) (sym (div-one n))
byte_at-pow (suc i) n = refl

low_first : (i k n : ℕ) → bytes_low_first i k n ≡ low_bytes k (n / 256 ^ i)
low_first i zero n = refl
low_first i (suc k) n =
    let up : n / 256 ^ suc i ≡ n / 256 ^ i / 256 = ap (λ (p : ℕ). n / p) (pow-suc 256 i) ∙ sym (div-div-eq-div-mul n (256 ^ i) 256) in
    rw (byte_at-pow i n, low_first (suc i) k n, up) refl

pub to_le_bytes-le : (w : int.Width) (n : ℕ) → to_le_bytes w n ≡ le w n
unfolding le
to_le_bytes-le w n = low_first 0 (byte_len w) n ∙ ap (low_bytes (byte_len w)) (div-one n)
