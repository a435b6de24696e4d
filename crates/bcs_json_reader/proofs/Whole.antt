-- From the integer that JSON spells, or from its absence, to what is read.
use Rattle.bcs_json_reader.proofs.Prelude.{◌≡◌, ℕ, ℤ, pos, negsuc, [], ◌^◌, Ok, Err, Bool, true, false, refl, arith, rules, Decides-ltb, Width, w128, bits, Data, number, string, IsUnsigned, IsSigned, half_most, holds_signed-is, is-holds_signed, unsigned, signed, tree_of, the_lemmas, SpellsWhole, is_unsigned_of, is_signed_of, whole_refusal, read_unsigned, read_signed, BadNumber, exact_unsigned, exact_signed}
use Rattle.bcs_value_model.specs.declared.value.Value as value

pub unsigned_told : (w : Width) (j : Data) (m : ℕ) → SpellsWhole j (pos m) → IsUnsigned w m → read_unsigned w j ≡ Ok (unsigned m)
unsigned_told w j m s h = (exact_unsigned [] 0 w j).again (unsigned m) ((s, (Decides-ltb m (2 ^ bits w)).1 h), omega arith)

unsigned_out : (w : Width) (j : Data) → ((m : ℕ) → SpellsWhole j (pos m) → ¬ IsUnsigned w m) → (z : ℤ) (b : Bool) → is_unsigned_of w z ≡ b → SpellsWhole j z → is_unsigned_of w z ≡ false
unsigned_out w j none (pos m) true is s = absurd (none m s ((Decides-ltb m (2 ^ bits w)).0 is))
unsigned_out w j none (pos m) false is s = is
unsigned_out w j none (negsuc m) b is s = refl

pub unsigned_refused : (w : Width) (j : Data) → ((m : ℕ) → SpellsWhole j (pos m) → ¬ IsUnsigned w m) → read_unsigned w j ≡ Err (whole_refusal j)
unfolding read_unsigned
unsigned_refused w (number x) none = (exact_unsigned [] 0 w (number x)).errs BadNumber ((λ z s. unsigned_out w (number x) none z (is_unsigned_of w z) refl s), refl)
unsigned_refused w (string t) none = (exact_unsigned [] 0 w (string t)).errs BadNumber ((λ z s. unsigned_out w (string t) none z (is_unsigned_of w z) refl s), refl)
unsigned_refused w _ none = refl

pub signed_told : (w : Width) (j : Data) (z : ℤ) → SpellsWhole j z → IsSigned w z → read_signed w j ≡ Ok (signed z)
signed_told w j z s h = (exact_signed [] 0 w j).again (signed z) ((s, is-holds_signed w z h), omega arith)

signed_out : (w : Width) (j : Data) → ((z : ℤ) → SpellsWhole j z → ¬ IsSigned w z) → (z : ℤ) (b : Bool) → is_signed_of w z ≡ b → SpellsWhole j z → is_signed_of w z ≡ false
signed_out w j none z true is s = absurd (none z s (holds_signed-is w z is))
signed_out w j none z false is s = is

pub signed_refused : (w : Width) (j : Data) → ((z : ℤ) → SpellsWhole j z → ¬ IsSigned w z) → read_signed w j ≡ Err (whole_refusal j)
unfolding read_signed
signed_refused w (number x) none = (exact_signed [] 0 w (number x)).errs BadNumber ((λ z s. signed_out w (number x) none z (is_signed_of w z) refl s), refl)
signed_refused w (string t) none = (exact_signed [] 0 w (string t)).errs BadNumber ((λ z s. signed_out w (string t) none z (is_signed_of w z) refl s), refl)
signed_refused w _ none = refl

-- ---- values

pub tree_unsigned : (n : ℕ) → tree_of (value.Unsigned n) ≡ unsigned n
tree_unsigned n = search (rules, the_lemmas)

pub tree_signed : (z : ℤ) → tree_of (value.Signed z) ≡ signed z
tree_signed z = search (rules, the_lemmas)

-- an integer of any width fits into 128 bits
pub widen : (w : Width) (z : ℤ) → IsSigned w z → IsSigned w128 z
widen w (pos n) h = record { sfits = omega (arith, h.sfits, half_most w) }
widen w (negsuc n) h = record { sfits = omega (arith, h.sfits, half_most w) }
