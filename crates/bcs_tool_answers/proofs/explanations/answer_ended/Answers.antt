use Rattle.bcs_tool_answers.proofs.Prelude.{◌∙◌, Option, refl, subst, sym, true≢false, IfOk-weaker, shape_of, Stop, EndsAt, damaged, explained, Explain}
use Rattle.bcs_tool_answers.proofs.AnswerLemmas.{is_asked, placed_answer}
use Rattle.bcs_tool_answers.proofs.explanations.answer_ended.Goals as goal

pub returns-in-None : goal.returns-in-None
returns-in-None c =
    let asked = c.args.asked.now in
    let P : Option Stop → Type 0 = EndsAt asked.registry c.args.work.now.limits (shape_of asked.format) c.args.bytes.now in
    let ends = subst P c.in-None.is c.requires.ends in
    IfOk-weaker c.with_notes.result _ _ (λ a is input within gives. placed_answer _ input 0 _ a is.0 refl is.1
    (explained _ _ c.args.bytes.now a.output.items ends.0 (is_asked input Explain c.requires.command c.requires.asked within) gives ends.1)) c.with_notes.ensures

pub returns-then-work : goal.returns-then-work
returns-then-work c =
    let asked = c.args.asked.now in
    let stop = c.in-Some.stop in
    let P : Option Stop → Type 0 = EndsAt asked.registry c.args.work.now.limits (shape_of asked.format) c.args.bytes.now in
    let stops = subst P c.in-Some.is c.requires.ends in
    IfOk-weaker c.answer_stop.result _ _ (λ a is input within gives. placed_answer _ input 2 _ a is.0 is.1 is.2
    (damaged _ _ c.args.bytes.now _ stop.reason stop.place (is_asked input Explain c.requires.command c.requires.asked within) gives stops (λ _. refl))) c.answer_stop.ensures

pub returns : goal.returns
returns c =
    let asked = c.args.asked.now in
    let stop = c.in-Some.stop in
    let P : Option Stop → Type 0 = EndsAt asked.registry c.args.work.now.limits (shape_of asked.format) c.args.bytes.now in
    let stops = subst P c.in-Some.is c.requires.ends in
    IfOk-weaker c.damaged_pieces.result _ _ (λ a is input within gives. placed_answer _ input 2 _ a is.0 refl is.1
    (damaged _ _ c.args.bytes.now a.output.items stop.reason stop.place (is_asked input Explain c.requires.command c.requires.asked within) gives stops
    (λ json. absurd (true≢false (sym json ∙ c.if-work.false))))) c.damaged_pieces.ensures
