-- Values without parts.
use Rattle.bcs_json_spec.proofs.Prelude.{◌≡◌, ◌∙◌, ℕ, ℤ, pos, negsuc, ◌≤◌, ◌^◌, List, [], ◌∷◌, Ok, Err, Result, Bool, true, false, IsTrue, if◌then◌else◌, refl, ap, sym, subst, arith, Width, is_utf8, Decides-ltb, max-le, bits, hbits, decode_of, FromHexError, Data, null, boolean, string, bits_most, half_most, Entries, Shape, Tree, Trees, trees_depth, IsHexOf, ByteTextSpells, byte_trees, of, IsNull, IfString, is_unsigned_of, is_signed_of, read_unit, read_truth, size_of, read_unsigned, read_signed, read_text, hex_or_fault, read_hex, read_bytes, read_byte_text, UnitRefuses, TruthRefuses, WholeRefuses, TextRefuses, IsNoHex, BytesRefuse, ByteTextRefuses, SpellsWithin, BadHex, BadShape}
use Rattle.bcs_registry_model.specs.Shape as shape
use Rattle.bcs_registry_model.specs.Shape.{Unsupported}
use Rattle.bcs_value_model.specs.Tree as tree
use Rattle.bcs_json_spec.specs.declared.json_fault.JsonFault.TheVariants as fault
use Rattle.bcs_json_spec.proofs.Exact.{Exact, is_walk_fault, done, refused, refuses, made}
use Rattle.bcs_json_spec.proofs.Numbers.{IsSmall, exact_whole, WholeWithin}

-- ---- hexadecimal text

exact_decode : (r : Result (List ℕ) FromHexError) → Exact (λ b. r ≡ Ok b) (λ e. ((b : List ℕ) → r ≡ Ok b → ⊥) × (e ≡ BadHex)) (hex_or_fault r)
exact_decode (Ok c) = record { ok = (λ b h. cc); again = (λ b h. cc); err = (λ e h. cc); errs = (λ e h. absurd (h.0 c refl)); walks = (λ e h. ap is_walk_fault h.1) }
exact_decode (Err g) = record { ok = (λ b h. cc); again = (λ b h. cc); err = (λ e h. ((λ b is. cc), cc)); errs = (λ e h. ap Err (sym h.1)); walks = (λ e h. ap is_walk_fault h.1) }

exact_hex : (s : List ℕ) → Exact (IsHexOf s) (λ e. IsNoHex s × (e ≡ BadHex)) (read_hex s)
unfolding read_hex
exact_hex s = exact_decode (decode_of s)

bytes_depth : (n : ℕ) (b : List ℕ) → trees_depth (byte_trees b) ≤ n
bytes_depth n [] = omega arith
bytes_depth n (x ∷ b) = max-le (omega arith) (bytes_depth n b)

pub exact_byte_text : (bytes : Bool) (s : List ℕ) → Exact (ByteTextSpells bytes s) (ByteTextRefuses bytes s) (read_byte_text bytes s)
exact_byte_text true s = made byte_trees (exact_hex s) (λ b h. (b, h, refl)) (λ ts w. (w.0, w.1, sym w.2))
exact_byte_text false s = refused BadShape refl (λ ts w. w)

pub byte_text_depth : (n : ℕ) (bytes : Bool) (s : List ℕ) (ts : Trees) → ByteTextSpells bytes s ts → trees_depth ts ≤ n
byte_text_depth n true s ts w = subst (λ us. trees_depth us ≤ n) (sym w.2) (bytes_depth n w.0)
byte_text_depth n false s ts w = absurd w

-- ---- ranges

unsigned_small : (w : Width) (z : ℤ) → is_unsigned_of w z ≡ true → IsSmall z
unsigned_small w (pos n) h = omega (arith, (Decides-ltb n (2 ^ bits w)).0 h, bits_most w)
unsigned_small w (negsuc n) h = cc

signed_small : (w : Width) (z : ℤ) → is_signed_of w z ≡ true → IsSmall z
signed_small w (pos n) h = omega (arith, (Decides-ltb n (2 ^ hbits w)).0 h, half_most w)
signed_small w (negsuc n) h = omega (arith, (Decides-ltb n (2 ^ hbits w)).0 h, half_most w)

module _ (registry : Entries) (n : ℕ) where
  abbrev pub Within : Shape → Data → Tree → Type 0
  Within s = SpellsWithin registry n (of s)

  unit_is : (j : Data) (t : Tree) → Within shape.unit j t → IsNull j × (tree.unit ≡ t)
  unit_is j tree.unit s = (s.0, refl)
  unit_is j _ s = absurd s.0

  pub exact_unit : (j : Data) → Exact (Within shape.unit j) (UnitRefuses j) (read_unit j)
  exact_unit null = done tree.unit (tt, omega arith) (λ t s. (unit_is null t s).1)
  exact_unit j = refused BadShape refl (λ t s. (unit_is j t s).0)

  truth_is : (j : Data) (t : Tree) → Within shape.truth j t → (b : Bool) × (j ≡ boolean b) × (tree.truth b ≡ t)
  truth_is j (tree.truth b) s = (b, s.0, refl)
  truth_is j _ s = absurd s.0

  pub exact_truth : (j : Data) → Exact (Within shape.truth j) (TruthRefuses j) (read_truth j)
  exact_truth (boolean b) = done (tree.truth b) (refl, omega arith) (λ t s. let o = truth_is (boolean b) t s in cc (o.1, o.2))
  exact_truth j = refused BadShape refl (λ t s. let o = truth_is j t s in cc (o.1))

  unsigned_within : (w : Width) (j : Data) (z : ℤ) → WholeWithin (is_unsigned_of w) (unsigned_small w) j z → Within (shape.unsigned w) j (tree.unsigned (size_of z))
  unsigned_within w j (pos m) s = (s, omega arith)
  unsigned_within w j (negsuc m) s = let bad = s.1 in absurd (cc)

  unsigned_is : (w : Width) (j : Data) (t : Tree) → Within (shape.unsigned w) j t → (z : ℤ) × WholeWithin (is_unsigned_of w) (unsigned_small w) j z × (tree.unsigned (size_of z) ≡ t)
  unsigned_is w j (tree.unsigned m) s = (pos m, s.0, refl)
  unsigned_is w j _ s = absurd s.0

  pub exact_unsigned : (w : Width) (j : Data) → Exact (Within (shape.unsigned w) j) (WholeRefuses (is_unsigned_of w) j) (read_unsigned w j)
  unfolding read_unsigned
  exact_unsigned w j = made (λ z. tree.unsigned (size_of z)) (exact_whole (is_unsigned_of w) (unsigned_small w) j) (unsigned_within w j) (unsigned_is w j)

  signed_is : (w : Width) (j : Data) (t : Tree) → Within (shape.signed w) j t → (z : ℤ) × WholeWithin (is_signed_of w) (signed_small w) j z × (tree.signed z ≡ t)
  signed_is w j (tree.signed z) s = (z, s.0, refl)
  signed_is w j _ s = absurd s.0

  pub exact_signed : (w : Width) (j : Data) → Exact (Within (shape.signed w) j) (WholeRefuses (is_signed_of w) j) (read_signed w j)
  unfolding read_signed
  exact_signed w j = made tree.signed (exact_whole (is_signed_of w) (signed_small w) j) (λ z s. (s, omega arith)) (signed_is w j)

  -- formats that have no values
  none_is : (u : Unsupported) (j : Data) (t : Tree) → Within (shape.unsupported u) j t → ⊥
  none_is u j tree.unit s = s.0
  none_is u j _ s = s.0

  pub exact_unsupported : (u : Unsupported) (j : Data) → Exact (Within (shape.unsupported u) j) (λ e. e ≡ fault.Unsupported) (Err fault.Unsupported)
  exact_unsupported u j = refused fault.Unsupported refl (none_is u j)

  text_is : (j : Data) (t : Tree) → Within shape.text j t → (r : List ℕ) × IfString (λ s. (s ≡ r) × IsTrue (is_utf8 s)) j × (tree.text r ≡ t)
  text_is j (tree.text r) s = (r, s.0, refl)
  text_is j _ s = absurd s.0

  exact_text_at : (s : List ℕ) (b : Bool) → is_utf8 s ≡ b → Exact (Within shape.text (string s)) (TextRefuses (string s)) (if b then Ok (tree.text s) else Err BadShape)
  exact_text_at s true is = refuses (done (tree.text s) ((refl, is), omega arith) (λ t w. let o = text_is (string s) t w in ap tree.text o.1.0 ∙ o.2)) (λ e r. absurd r) (λ e r. cc (is, r.0))
  exact_text_at s false is = refuses (refused BadShape refl (λ t w. let o = text_is (string s) t w in cc (is, o.1.1))) (λ e r. (is, r)) (λ e r. r.1)

  pub exact_text : (j : Data) → Exact (Within shape.text j) (TextRefuses j) (read_text j)
  exact_text (string s) = exact_text_at s (is_utf8 s) refl
  exact_text j = refused BadShape refl (λ t w. (text_is j t w).1)

  bytes_is : (j : Data) (t : Tree) → Within shape.bytes j t → (b : List ℕ) × IfString (λ s. IsHexOf s b) j × (tree.bytes b ≡ t)
  bytes_is j (tree.bytes b) w = (b, w.0, refl)
  bytes_is j _ w = absurd w.0

  pub exact_bytes : (j : Data) → Exact (Within shape.bytes j) (BytesRefuse j) (read_bytes j)
  exact_bytes (string s) = made tree.bytes (exact_hex s) (λ b h. (h, omega arith)) (bytes_is (string s))
  exact_bytes j = refused BadShape refl (λ t w. (bytes_is j t w).1)
