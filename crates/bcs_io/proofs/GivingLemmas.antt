-- Bytes that a source returned in several calls.
use Rattle.bcs_io.proofs.Prelude.{ℕ, Bool, List, [], ◌++◌, Option, refl, ◌∙◌, arith, Consumes-nil, Consumes-trans, Gave, GaveThenFailed}
use Rattle.std.proofs.lemmas.List.{length-append}

module _ {S : Type 0} (content : S → Option (List ℕ)) (is_failed : S → Bool) (allowance : S → ℕ) where
  -- without a call, nothing is returned
  pub Gave-nothing : (a : S) → Gave content is_failed allowance a a []
  Gave-nothing a = record { front = Consumes-nil (content a); kept = refl; less = omega arith }

  pub Gave-then : (a b c : S) (xs ys : List ℕ) → Gave content is_failed allowance a b xs → Gave content is_failed allowance b c ys
      → Gave content is_failed allowance a c (xs ++ ys)
  Gave-then a b c xs ys p q = record {
    front = Consumes-trans (content a) (content b) (content c) xs ys p.front q.front;
    kept = q.kept ∙ p.kept;
    less = omega (arith, length-append xs ys, p.less, q.less);
  }

  pub GaveThenFailed-then : (a b c : S) (xs ys : List ℕ) → Gave content is_failed allowance a b xs → GaveThenFailed content is_failed allowance b c ys
      → GaveThenFailed content is_failed allowance a c (xs ++ ys)
  GaveThenFailed-then a b c xs ys p q = record {
    front = Consumes-trans (content a) (content b) (content c) xs ys p.front q.front;
    after = q.after;
    less = omega (arith, length-append xs ys, p.less, q.less);
  }
