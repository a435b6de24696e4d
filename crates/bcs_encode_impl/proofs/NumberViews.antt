-- Facts about views that the encoding of integers needs.
use Rattle.bcs_encode_impl.proofs.Prelude.{◌≡◌, ℕ, ◌<◌, List, [], ◌∷◌, refl, ap, ◌∙◌, Ok, Err, w8, le-w8, le, Entries, of, Shape, whole_shape, IntegerKind, Unsigned, Signed, Tree, Trees, no_trees, tree, Verdict, chain, written, items_written}
use Rattle.bcs_value_model.specs.Tree as tree

-- the encoding of a one-byte number
pub one_byte : (n : ℕ) → n < 256 → le w8 n ≡ n ∷ []
one_byte n small = le-w8 n small

-- an integer looks up no container
number_anywhere : (r q : Entries) (n : IntegerKind) (t : Tree) (b : List ℕ) → written r t (of (whole_shape n)) b ≡ written q t (of (whole_shape n)) b
number_anywhere r q (Unsigned w) tree.unit b = refl
number_anywhere r q (Unsigned w) _ b = refl
number_anywhere r q (Signed w) tree.unit b = refl
number_anywhere r q (Signed w) _ b = refl

chain_alike : (v w : Verdict) (f g : List ℕ → Verdict) → v ≡ w → ((b : List ℕ) → f b ≡ g b) → chain v f ≡ chain w g
chain_alike (Ok b) w f g e same = same b ∙ ap (λ (x : Verdict). chain x g) e
chain_alike (Err k) w f g e same = ap (λ (x : Verdict). chain x g) e

pub numbers_anywhere : (r q : Entries) (n : IntegerKind) (s : Shape) (ts : Trees) (b : List ℕ) → s ≡ whole_shape n
    → items_written r ts s b ≡ items_written q ts (whole_shape n) b
numbers_anywhere r q n s no_trees b e = refl
numbers_anywhere r q n s (tree t ts) b e =
    chain_alike (written r t (of s) b) (written q t (of (whole_shape n)) b) (items_written r ts s) (items_written q ts (whole_shape n))
    (ap (λ (x : Shape). written r t (of x) b) e ∙ number_anywhere r q n t b)
    (λ c. numbers_anywhere r q n s ts c e)
