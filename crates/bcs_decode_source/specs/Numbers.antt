-- Consecutive integers in a byte string.
use Rattle.std.specs.Prelude.{ℕ, zero, suc, List, [], ◌∷◌, take, drop}
use Rattle.std.specs.Int.{from_le_bytes, cast_signed}
use Rattle.bcs_num.specs.Le.{width_of}
use Rattle.bcs_registry_model.specs.Whole.{whole_len}
use Rattle.bcs_registry_model.specs.declared.integer_kind.IntegerKind.{IntegerKind}
use Rattle.bcs_registry_model.specs.declared.integer_kind.IntegerKind.TheVariants.{Unsigned, Signed}
use Rattle.bcs_value_model.specs.Tree as tree
use Rattle.bcs_value_model.specs.Tree.{Tree}

-- the integer with this little-endian encoding
abbrev pub number_of : IntegerKind → List ℕ → Tree
number_of (Unsigned w) b = tree.unsigned (from_le_bytes (width_of w) b)
number_of (Signed w) b = tree.signed (cast_signed (width_of w) (from_le_bytes (width_of w) b))

-- the first `n` integers
abbrev pub numbers : IntegerKind → ℕ → List ℕ → List Tree
numbers f zero b = []
numbers f (suc n) b = number_of f (take (whole_len f) b) ∷ numbers f n (drop (whole_len f) b)
