-- If a list of integers can be written, all of them are in range.
use Rattle.bcs_encode_impl.proofs.Prelude.{◌≡◌, ℕ, Bool, true, false, List, [], if◌then◌else◌, Ok, Err, refl, sym, ap, ◌∙◌, and_from, false≢true, holds_unsigned, holds_signed, width_of, of, whole_shape, IntegerKind, Unsigned, Signed, Tree, Trees, no_trees, tree, fits, all_fit, EncodeFault, NotOfFormat, Verdict, chain, written, items_written}
use Rattle.std.specs.Result.{is_ok}
use Rattle.bcs_value_model.specs.Tree as tree

fault_is_none : (k : EncodeFault) (c : List ℕ) (v : Verdict) → v ≡ Err k → v ≡ Ok c → ⊥
fault_is_none k c v h e = false≢true (sym (ap (λ (x : Verdict). is_ok x) h) ∙ ap (λ (x : Verdict). is_ok x) e)

ok_if : (b : Bool) (v c : List ℕ) → (if b then Ok v else Err NotOfFormat) ≡ Ok c → b ≡ true
ok_if true v c e = refl
ok_if false v c e = absurd (fault_is_none NotOfFormat c _ refl e)

number_fits : (n : IntegerKind) (t : Tree) (b c : List ℕ) → written [] t (of (whole_shape n)) b ≡ Ok c → fits false [] t (of (whole_shape n)) ≡ true
number_fits (Unsigned w) (tree.unsigned n) b c e = ok_if (holds_unsigned (width_of w) n) _ c e
number_fits (Unsigned w) _ b c e = absurd (fault_is_none NotOfFormat c _ refl e)
number_fits (Signed w) (tree.signed z) b c e = ok_if (holds_signed (width_of w) z) _ c e
number_fits (Signed w) _ b c e = absurd (fault_is_none NotOfFormat c _ refl e)

-- a chain that succeeds, split at its first step
chained : (v : Verdict) (f : List ℕ → Verdict) (c : List ℕ) → chain v f ≡ Ok c → (d : List ℕ) × (v ≡ Ok d) × (f d ≡ Ok c)
chained (Ok d) f c e = (d, refl, e)
chained (Err k) f c e = absurd (fault_is_none k c _ refl e)

pub row_fits : (n : IntegerKind) (ts : Trees) (b c : List ℕ) → items_written [] ts (whole_shape n) b ≡ Ok c → all_fit false [] ts (whole_shape n) ≡ true
row_fits n no_trees b c e = refl
row_fits n (tree t ts) b c e =
    let p = chained (written [] t (of (whole_shape n)) b) (items_written [] ts (whole_shape n)) c e in
    and_from _ _ (number_fits n t b p.0 p.1) (row_fits n ts p.0 c p.2)
