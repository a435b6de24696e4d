-- The steps that an argument gives, in each notation.
use Rattle.bcs_tool_answers.proofs.Prelude.{◌≡◌, ◌≢◌, ◌∙◌, ◌⊎◌, [], inl, inr, ℕ, List, Bool, true, false, refl, subst, sym, true≢false, Step, some_path, Notation, Command, IsPathOf, SpellsNoSteps, SpellsSteps, is_name, is_pointer}
use Rattle.bcs_tool_command_line.specs.declared.command.Command.TheVariants as command
use Rattle.bcs_tool_command_line.specs.declared.notation.Notation.TheVariants as notation

-- an argument that gives steps isn't invalid
pub not_both_spelled : (n : Notation) (word : List ℕ) (path : List Step) → SpellsSteps n word path → SpellsNoSteps n word → ⊥
not_both_spelled notation.Path word path h never = never path h
not_both_spelled notation.Names word path h k = true≢false (sym h ∙ k)
not_both_spelled notation.Pointer word path h k = true≢false (sym h ∙ k)

true_or_false : (b : Bool) → (b ≡ true) ⊎ (b ≡ false)
true_or_false true = inl refl
true_or_false false = inr refl

-- an argument gives some steps, or is invalid
pub some_steps : (n : Notation) (word : List ℕ) → ((path : List Step) × SpellsSteps n word path) ⊎ SpellsNoSteps n word
some_steps notation.Path word = some_path word
some_steps notation.Names word = elim (true_or_false (is_name word)) [ inl h ↦ inl ([], h) | inr h ↦ inr h ]
some_steps notation.Pointer word = elim (true_or_false (is_pointer word)) [ inl h ↦ inl ([], h) | inr h ↦ inr h ]

-- names and pointers that give some steps may give any steps
any_steps : (n : Notation) (word : List ℕ) (path other : List Step) → n ≢ notation.Path → SpellsSteps n word path → SpellsSteps n word other
any_steps notation.Path word path other named h = absurd (named refl)
any_steps notation.Names word path other named h = h
any_steps notation.Pointer word path other named h = h

-- the argument of `part` also gives any equal steps
pub spells : (k : Command) (n : Notation) (word : List ℕ) (path steps : List Step) → k ≡ command.Part → steps ≡ path → IsPathOf k n word path → SpellsSteps n word steps
spells k n word path steps is same h =
    subst (λ (p : List Step). SpellsSteps n word p) (sym same) (subst (λ (c : Command). IsPathOf c n word path) is h)

pub spells_any : (k : Command) (n : Notation) (word : List ℕ) (path other : List Step) → k ≡ command.Part → n ≢ notation.Path → IsPathOf k n word path → SpellsSteps n word other
spells_any k n word path other is named h = any_steps n word path other named (spells k n word path path is refl h)
