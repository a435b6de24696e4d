-- Bytes that a sink accepted in several calls.
use Rattle.bcs_io.proofs.Prelude.{ℕ, Bool, List, [], ◌++◌, Option, refl, ◌∙◌, Appends-nil, Appends-trans, Took, TookThenFailed}

module _ {K : Type 0} (taken : K → Option (List ℕ)) (is_failed : K → Bool) where
  -- without a call, nothing is accepted
  pub Took-nothing : (a : K) → Took taken is_failed a a []
  Took-nothing a = record { appended = Appends-nil (taken a); kept = refl }

  pub Took-then : (a b c : K) (xs ys : List ℕ) → Took taken is_failed a b xs → Took taken is_failed b c ys → Took taken is_failed a c (xs ++ ys)
  Took-then a b c xs ys p q = record {
    appended = Appends-trans (taken a) (taken b) (taken c) xs ys p.appended q.appended;
    kept = q.kept ∙ p.kept;
  }

  pub TookThenFailed-then : (a b c : K) (xs ys : List ℕ) → Took taken is_failed a b xs → TookThenFailed taken is_failed b c ys → TookThenFailed taken is_failed a c (xs ++ ys)
  TookThenFailed-then a b c xs ys p q = record {
    appended = Appends-trans (taken a) (taken b) (taken c) xs ys p.appended q.appended;
    after = q.after;
  }
