-- Answers that are written in one call, and how many of them were written.
use Rattle.std.specs.Prelude.{◌≡◌, ◌<◌, ◌-◌, ℕ, suc, nat_lt, if◌then◌else◌, List, [], ◌∷◌, Bool, Option, length, take}
use Rattle.bcs_io.specs.Taking.{TookThenFailed}
use Rattle.bcs_tool.specs.declared.jobs.interruption.Interruption.{Interruption}
use Rattle.bcs_tool.specs.declared.jobs.run_fault.RunFault.TheVariants.{Write}
use Rattle.bcs_tool.specs.declared.lines.held_answers.HeldAnswers.{HeldAnswers}

-- the number of answers with these lengths that end within the first n bytes
abbrev pub whole : List ℕ → ℕ → ℕ
whole [] n = 0
whole (l ∷ ls) n = if nat_lt n l then 0 else suc (whole ls (n - l))

-- only a proper prefix of the answers was written, which are the last ones of this number
pub record IsPartOf {K : Type 0} (taken : K → Option (List ℕ)) (is_failed : K → Bool) (answered : ℕ) (held : HeldAnswers) (out out' : K) (e : Interruption) : Type 0 where
  pub shown : ℕ
  pub short : shown < length held.bytes.items
  pub put : TookThenFailed taken is_failed out out' (take shown held.bytes.items)
  pub is : e ≡ record { fault = Write; answered = answered - (length held.lengths.items - whole held.lengths.items shown) }
