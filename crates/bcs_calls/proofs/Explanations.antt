-- The answers of calls that explain bytes.
use Rattle.bcs_calls.proofs.Prelude.{ℕ, List, Entries, Shape, Bounds, Answer}
use Rattle.bcs_calls.specs.Explained.{AnswersPieces, no_memory, put, refused_call}

module _ (registry : Entries) (limits : Bounds) (s : Shape) (b old new : List ℕ) (a : Answer) where
  -- under a stronger condition
  pub pieces_if : (P Q : Type 0) → (Q → P) → AnswersPieces P registry limits s b old new a → AnswersPieces Q registry limits s b old new a
  pieces_if P Q from (put text x without ends puts is) = put text x without (λ q. ends (from q)) puts is
  pieces_if P Q from (refused_call text fault place without never puts is) = refused_call text fault place without (λ q. never (from q)) puts is
  pieces_if P Q from (no_memory is) = no_memory is
