-- The answers to a refused name, and to a refused path.
use Rattle.std.proofs.Common.{◌<◌, [], suc, zero}
use Rattle.bcs_calls.proofs.Prelude.{ℕ, List, arith, Entries, Shape, Bounds, Answer, RefusesPath, stopped}
use Rattle.bcs_calls.specs.Contents as content
use Rattle.bcs_calls.specs.Contents.{AnswersContent}
use Rattle.bcs_calls.specs.NamedParts as named
use Rattle.bcs_calls.specs.NamedParts.{AnswersNamed, no_name, no_value, out_of_memory, RefusesName}
use Rattle.bcs_calls.specs.Parts as parts

module _ (registry : Entries) (limits : Bounds) (s : Shape) (b name : List ℕ) (a : Answer) where
  pub named_refused : (n : ℕ) → RefusesName registry limits s b n name a → AnswersNamed registry limits s b n name a
  named_refused n (no_name never is) = named.refused never is
  named_refused n (no_value may e o stops is) = named.stepped may [] (parts.stopped e o stops is)
  named_refused n (out_of_memory is) = named.no_memory is

  pub content_refused : (n : ℕ) → 0 < n → RefusesName registry limits s b n name a → AnswersContent registry limits s b n name a
  content_refused zero some h = absurd (omega arith)
  content_refused (suc n) some (no_name never is) = content.refused (λ steps may. never may) is
  content_refused (suc n) some (no_value may e o stops is) = content.stepped [] may (content.stopped e o stops is)
  content_refused (suc n) some (out_of_memory is) = content.no_memory is

  pub path_refused : RefusesPath name a → AnswersContent registry limits s b 0 name a
  path_refused (parts.no_text never is) = content.refused (λ steps may. never may.0) is
  path_refused (parts.no_path never is) = content.refused (λ steps may. never steps may.1) is
  path_refused (parts.no_memory is) = content.no_memory is
