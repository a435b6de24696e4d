-- Skipping a value without parts, and elements of `U8`.
use Rattle.bcs_explain.proofs.Prelude.{◌≡◌, ℕ, zero, suc, List, refl, sym, w8, byte_len, from_le_bytes, cast_signed, Shape, Entries, shape_of, scalar_shape, Format, Scalar, Unsigned, Signed, width_of, items_here, skipping, chain, give, node, bytes_here, unsigned_here, signed_here, shape_here, value_here, skip, whole_here, flag_past, counted_here, text_past, bytes_past, unsupported_here, dropped, unsigned_is, items_same, node_and_bytes, discarding, scalar_past}
use Rattle.bcs_registry_model.specs.Shape as shape
use Rattle.bcs_registry_model.specs.declared.scalar.Scalar.TheVariants as scalar

shape_past : (registry : Entries) (d : ℕ) (s : Scalar) (p m : ℕ) (b : List ℕ) → skip registry d (scalar_shape s) p m b ≡ scalar_past (scalar_shape s) p m b
unfolding value_here shape_here discarding flag_past node_and_bytes text_past bytes_past unsupported_here counted_here node chain give unsigned_here signed_here
shape_past registry d scalar.Unit p zero b = refl
shape_past registry d scalar.Unit p (suc m) b = refl
shape_past registry d scalar.Bool p zero b = refl
shape_past registry d scalar.Bool p (suc m) b = refl
shape_past registry d (scalar.Whole (Unsigned w)) p zero b = refl
shape_past registry d (scalar.Whole (Unsigned w)) p (suc m) b = dropped (bytes_here (byte_len (width_of w)) p m b) (from_le_bytes (width_of w))
shape_past registry d (scalar.Whole (Signed w)) p zero b = refl
shape_past registry d (scalar.Whole (Signed w)) p (suc m) b = dropped (bytes_here (byte_len (width_of w)) p m b) (λ s. cast_signed (width_of w) (from_le_bytes (width_of w) s))
shape_past registry d (scalar.Unsupported u) p zero b = refl
shape_past registry d (scalar.Unsupported u) p (suc m) b = refl
shape_past registry d scalar.Str p zero b = refl
shape_past registry d scalar.Str p (suc m) b = refl
shape_past registry d scalar.Bytes p zero b = refl
shape_past registry d scalar.Bytes p (suc m) b = refl

pub scalar_past_is : (registry : Entries) (d : ℕ) (f : Format) (s : Scalar) → shape_of f ≡ scalar_shape s → (p m : ℕ) (b : List ℕ) → skip registry d (shape_of f) p m b ≡ scalar_past (scalar_shape s) p m b
scalar_past_is registry d f s is p m b = rw is (shape_past registry d s p m b)

-- n elements of `U8`, skipped in one step
pub octets_are_items : (registry : Entries) (d : ℕ) (s : Shape) → s ≡ shape.unsigned w8 → (n p m : ℕ) (b : List ℕ) → items_here skipping (whole_here 1) n p m b ≡ items_here skipping (skip registry d s) n p m b
octets_are_items registry d s h n p m b = rw h (items_same skipping (whole_here 1) (skip registry d (shape.unsigned w8)) (λ i l c. sym (unsigned_is registry d w8 i l c)) n p m b)
