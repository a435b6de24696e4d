use Rattle.bcs_tool_answers.proofs.Prelude.{◌∙◌, List, ap, codes, inl, refl, subst, sym, ℕ, IfOk-weaker, growth_fault_name, grown, line_of, refusal_line, refused_early, RefusesJobOf, Growth}
use Rattle.bcs_tool_answers.proofs.AnswerLemmas.{behind_list, with_place}
use Rattle.bcs_tool_answers.proofs.growing.verdict.Goals as goal

pub returns-in-Ok : goal.returns-in-Ok
returns-in-Ok c =
    let work = c.args.work.now in
    IfOk-weaker c.told.result _ _ (λ a made list input lists.
    behind_list work list input 0 (line_of (codes "grows")) a made.same_status made.same_output (inl made.no_place)
    (grown c.args.older.now c.args.newer.now list c.requires.command c.requires.older c.requires.newer (c.in-Ok.ensures.ok.0 refl) lists)) c.told.ensures

pub returns-in_ok-refused-in-Err : goal.returns-in_ok-refused-in-Err
returns-in_ok-refused-in-Err c list input lists =
    let work = c.args.work.now in
    let fault = c.in-Err.fault in
    let set = c.placed.ensures in
    let is = c.in_ok-refused-in-Err.ensures in
    behind_list work list input 2 (refusal_line (growth_fault_name fault)) c.placed.result (set.status ∙ is.same_status)
    (set.output ∙ is.same_output ∙ ap (λ (name : List ℕ). refusal_line name) c.name.ensures)
    (with_place work _ _ set.place c.place_of_difference-place.ensures)
    (refused_early (Growth fault) list (subst (λ k. RefusesJobOf k work (Growth fault)) (sym c.requires.command)
    (c.args.older.now, c.args.newer.now, c.requires.older, c.requires.newer, (c.in-Err.ensures.fault fault).0 refl)) lists)
