-- The refusal of two documents.
use Rattle.bcs_calls.proofs.Prelude.{arith, ◌≡◌, ◌≢◌, ◌∙◌, ℕ, List, Option, Some, None, ap, subst, sym, length, Entries, Shape, Bounds, Tree, Denotes, sized, plain, Answer, Puts, Done, Memory, No}
use Rattle.bcs_calls.specs.Answers.{with_fault}
use Rattle.bcs_calls.specs.Output.{short, whole}
use Rattle.bcs_calls.specs.Places.{AnswersTextRefusal, no_memory, stands, told}
use Rattle.bcs_calls.specs.Statuses.{status_number}
use Rattle.bcs_calls.specs.declared.fault.Fault.TheVariants.{Text}
use Rattle.bcs_calls.specs.declared.status.Status.TheVariants.{Short}

-- what was written, or was too long, isn't answered by "no"
not_no : (bytes old new : List ℕ) (x : Answer) → Puts bytes old new x → x.status ≢ status_number No
not_no bytes old new x (whole fits becomes is) denied = let k : status_number Done ≡ status_number No = sym (ap (λ (a : Answer). a.status) is) ∙ denied in omega (arith, k)
not_no bytes old new x (short over becomes is) denied = let k : status_number Short ≡ status_number No = sym (ap (λ (a : Answer). a.status) is) ∙ denied in omega (arith, k)

-- a document without a refusal represents a value
pub denotes_if_no : (registry : Entries) (limits : Bounds) (s : Shape) (text old new : List ℕ) (a : Answer) → AnswersTextRefusal registry limits s text old new a
    → a.status ≡ status_number No → (t : Tree) × Denotes registry limits s text t
denotes_if_no registry limits s text old new a (told e b x why is_told puts is) denied = absurd (not_no b old new x puts (sym (ap (λ (y : Answer). y.status) is) ∙ denied))
denotes_if_no registry limits s text old new a (stands t denotes is) denied = (t, denotes)
denotes_if_no registry limits s text old new a (no_memory is) denied = let k : status_number Memory ≡ status_number No = sym (ap (λ (y : Answer). y.status) is) ∙ denied in absurd (omega (arith, k))
