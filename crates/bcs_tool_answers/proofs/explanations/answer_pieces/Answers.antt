use Rattle.bcs_tool_answers.proofs.Prelude.{◌≡◌, ◌∙◌, Bool, true, false, None, Some, IfOk-weaker, refl, sym, unopened, Explain, is_some}
use Rattle.std.proofs.Common.{rules}
use Rattle.bcs_tool_answers.proofs.AnswerLemmas.{is_asked, placed_answer}
use Rattle.bcs_tool_answers.proofs.explanations.answer_pieces.Goals as goal

must_be : (b : Bool) → (b ≡ false → ⊥) → b ≡ true
must_be true never = refl
must_be false never = absurd (never refl)

pub returns-then-is_some : goal.returns-then-is_some
returns-then-is_some c =
    let given = must_be (is_some c.args.work.now.options.views) (λ none.
    (let uncalled = c.in_ok-explained.ensures.uncalled (c.requires.plain none) in search (rules, uncalled))) in
    IfOk-weaker c.answer_refused_call.result _ _ (λ a is input within gives. placed_answer _ input 2 _ a is.0 refl is.1
    (unopened _ _ c.args.bytes.now a.output.items (is_asked input Explain c.requires.command c.requires.asked within) gives given)) c.answer_refused_call.ensures

pub returns-in-Some : goal.returns-in-Some
returns-in-Some c =
    let given = must_be (is_some c.args.work.now.options.views) (λ none.
    (let both : Some c.in-Some.field-0 ≡ None = sym c.in-Some.is ∙ c.in_ok-explained.ensures.whole (c.requires.plain none) in absurd cc)) in
    IfOk-weaker c.answer_unopened.result _ _ (λ a is input within gives. placed_answer _ input 2 _ a is.0 refl is.1
    (unopened _ _ c.args.bytes.now a.output.items (is_asked input Explain c.requires.command c.requires.asked within) gives given)) c.answer_unopened.ensures
