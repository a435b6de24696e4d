-- The range of a width as a test and as a statement, and its size.
use Rattle.bcs_num.proofs.Prelude.{◌≡◌, ℤ, pos, negsuc, ◌+◌, ◌^◌, ◌≤◌, true, refl, arith, ltb-true, lt-ltb, Width, w8, w16, w32, w64, w128, bits, hbits, IsSigned, holds_signed}

pub holds_signed-is : (w : Width) (z : ℤ) → holds_signed w z ≡ true → IsSigned w z
holds_signed-is w (pos n) h = record { sfits = ltb-true n (2 ^ hbits w) h }
holds_signed-is w (negsuc n) h = record { sfits = ltb-true n (2 ^ hbits w) h }

pub is-holds_signed : (w : Width) (z : ℤ) → IsSigned w z → holds_signed w z ≡ true
is-holds_signed w (pos n) h = lt-ltb n (2 ^ hbits w) h.sfits
is-holds_signed w (negsuc n) h = lt-ltb n (2 ^ hbits w) h.sfits

-- no width has more than 128 bits
pub bits_most : (w : Width) → 2 ^ bits w ≤ 2 ^ 128
bits_most w8 = omega arith
bits_most w16 = omega arith
bits_most w32 = omega arith
bits_most w64 = omega arith
bits_most w128 = omega arith

-- there are as many negative numbers as others
pub two_halves : (w : Width) → 2 ^ bits w ≡ 2 ^ hbits w + 2 ^ hbits w
two_halves w8 = refl
two_halves w16 = refl
two_halves w32 = refl
two_halves w64 = refl
two_halves w128 = refl

pub half_most : (w : Width) → 2 ^ hbits w ≤ 2 ^ 127
half_most w = omega (arith, two_halves w, bits_most w)
