use Rattle.bcs_tool.proofs.Prelude.{◌≡◌, List, false, inl, inr, refl, rules, subst, ℕ, IsFirstOf, is_registry_text}
use Rattle.bcs_tool.proofs.files.reading.read_work.Goals as goal

-- the text for REG, OLD or MODULES was read before
pub returns-in-Err-read_second-clause-fault : goal.returns-in-Err-read_second-clause-fault
returns-in-Err-read_second-clause-fault g c =
    let first = subst (λ (word : List ℕ). IsFirstOf g.R.File.Read.remaining c.args.job.command word c.in-Ok.text.items) c.as_str.ensures.value c.in-Ok.ensures.text in
    let second = c.in-Err-read_second.ensures in (
      second.fault,
      λ other. inr (
        (c.in-Ok.text.items, first),
        elim (second.named other) [
          | inl same ↦ inr (same, refl)
          | inr grows ↦ inl (grows.0, subst (λ (word : List ℕ). is_registry_text word ≡ false) c.as_str-2.ensures.value grows.1, refl)
        ],
      ),
    )

pub returns-clause-work : goal.returns-clause-work
returns-clause-work g c = search rules
