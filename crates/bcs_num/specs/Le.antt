-- Integers of a fixed width, as the BCS specification encodes them: little-endian, in two's complement.
use Rattle.std.specs.Prelude.{ℕ, zero, suc, ℤ, pos, negsuc, ◌/◌, ◌%◌, ◌^◌, ◌<◌, Bool, nat_lt, List, [], ◌∷◌}
use Rattle.std.specs.Int.{w8, w16, w32, w64, w128, byte_len, cast_unsigned}
use Rattle.std.specs.Int as int
use Rattle.std.specs.Int.RustNames.{FitsSigned}
use mir.Val.{bits, hbits}
use Rattle.bcs_num.specs.declared.width.Width.{Width}
use Rattle.bcs_num.specs.declared.width.Width.TheVariants.{W1, W2, W4, W8, W16}

-- std's name for the width
abbrev pub width_of : Width → int.Width
width_of W1 = w8
width_of W2 = w16
width_of W4 = w32
width_of W8 = w64
width_of W16 = w128

-- n is a value of the unsigned type of the width
abbrev pub IsUnsigned : int.Width → ℕ → Type 0
IsUnsigned w n = n < 2 ^ bits w

-- z is a value of the signed type of the width
abbrev pub IsSigned : int.Width → ℤ → Type 0
IsSigned w z = FitsSigned w z

-- the same as tests: 0 to 2 ^ bits - 1 for unsigned types, -2 ^ (bits - 1) to 2 ^ (bits - 1) - 1 for signed ones
abbrev pub holds_unsigned : int.Width → ℕ → Bool
holds_unsigned w n = nat_lt n (2 ^ bits w)

abbrev pub holds_signed : int.Width → ℤ → Bool
holds_signed w (pos n) = nat_lt n (2 ^ hbits w)
holds_signed w (negsuc n) = nat_lt n (2 ^ hbits w)

-- the lowest k bytes of n, starting with the lowest
abbrev pub low_bytes : ℕ → ℕ → List ℕ
low_bytes zero n = []
low_bytes (suc k) n = (n % 256) ∷ low_bytes k (n / 256)

-- the bytes of an unsigned integer
unfoldable pub le : int.Width → ℕ → List ℕ
le w n = low_bytes (byte_len w) n

-- the bytes of a signed integer: those of its two's complement, which is z itself, or 2 ^ bits + z if z is negative
abbrev pub le_signed : int.Width → ℤ → List ℕ
le_signed w z = le w (cast_unsigned w z)
