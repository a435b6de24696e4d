-- Distinguishes null from a block, whose pointer is returned with what the handle owned.
use Rattle.bcs_calls.proofs.Steps.{◌≡◌, List, [], ◌∷◌, ◌++◌, refl, sym, ap, ◌∙◌, subst, lit<, Val, vcons, vnil, SProp, ent, emp, id⊢, ftrue, WpFn, ‵, raw, ◌⊛◌, at_ret, ◌$◌, ◌∵◌, !, qed, by, move, keep, split, fsplit, fjoin, suffices, use0, use1, stop, fld, lit, of_opd, bin, no_more, and_then, first, branches, exec, returns, enter, alloc_all, pass_all, free_all, look_at, get, get_in, sets, sets_last, env, live, agg, sub, whole, fact, fact_i, tables, yes, layout, RattleType, owns, Ptr, block_ptr, null_ptr, ptr_val, tests_null, types_at, type_at, plain, nothing, Stays, stay_dropped, walk_of, Goes-dropped, after, Good, Some-of, none_of, proved_at, leaves, and_tt, None, Some}
use Rattle.bcs_calls.proofs.Prelude.{ghosts, the_row}
use Rattle.bcs_calls.proofs.Holdings.{R, Z, L, RawBox, handle_good, handle_out, either}
use Rattle.bcs_calls.proofs.RawBoxes.{both, raw_good, raw_in}
use Rattle.bcs_calls.specs.contracts.handle.Handle.into_raw as f
use Rattle.bcs_calls.proofs.handle.Handle.into_raw.Statement.{statement}
use Rattle.bcs_calls.proofs.handle.Handle.into_raw.Code as code

abbrev stayed : Stays f.ended.signature.params f.ended.kept
stayed = (stay_dropped (plain (λ _. the_row)) yes, tt)

pub into_raw_spec : {M : Type 1} → statement M
into_raw_spec 𝓤 𝓛 𝓜 𝓡 wired =
    let H = 𝓛.H in let 𝓣 = tables 𝓤 H 𝓜 𝓡 𝓡.env in let c = f.clauses 𝓛 𝓜.mem 𝓡.returns in let fn = code.function in
    proved_at 𝓛 f.ended stayed c 𝓜 𝓡 (Goes-dropped 𝓛 0 (plain (λ _. the_row)) yes (λ κs x w. refl), tt) f.Key.name fn (code.unfolded 𝓤 H 𝓜 𝓡 wired) (λ z are.
    let v = z.0.3.0 in let Post : Val → SProp 𝓤 = (walk_of 𝓛 f.ended stayed c).post z in let Run : List Val → SProp 𝓤 = λ ws. WpFn 𝓤 H 𝓣.C 𝓣.Λ fn ws Post in
    let Out : RattleType = type_at f.signature.result z.0.0 in
    qed 𝓛 ((‵ ftrue ⊛ ‵ (owns (types_at f.signature.params z.0.0) z.0.3 z.0.4)) ∷ raw ((c z.0.0 z.0.3).requires z.1) ∷ []) ∵ split ! $ move ! (1 ∷ []) $ fsplit ! $
    handle_out ! v z.0.4.0 (λ h ws fits. let word : Ptr → Val = λ p. both (ptr_val p) h in
    either ! v.alloc v.pointer v.registry
    (λ is none. let w : Val = word null_ptr in let e : z.0.4.0 ≡ w ∷ [] = ws ∙ ap (λ (p : Ptr). word p ∷ []) is in
    suffices ! (Run (w ∷ [])) (subst (λ (us : List Val). ent 𝓤 (Run (w ∷ [])) (Run us)) (sym (λ i. e i ++ [])) (id⊢ 𝓤 (Run (w ∷ [])))) $
    -- [the allocator; nothing; no tokens; nothing required; the locals]
    enter ! 𝓣.C 𝓣.Λ fn (w ∷ []) Post $ alloc_all ! (λ l. pass_all ! refl (handle_good null_ptr h fits, tt) $
    sets ! (of_opd ! (get_in ! (fld ! refl (stop !)) (sub ! 0 refl (whole !)))) refl (tt, record { fits = lit< tt }) $
    sets ! (of_opd ! (get_in ! (fld ! refl (stop !)) (sub ! 1 refl (whole !)))) refl fits $
    sets ! (bin ! (get ! refl) (lit ! tt) tt) refl (tt, tt) $ first ! $ branches ! (get ! refl)
    (λ _. sets_last ! (agg ! (and_then ! (lit ! tt) (no_more !))) refl (tt, (record { fits = lit< tt }, tt)) $
    exec ! 𝓣.C 𝓣.Λ (env fn.locals l) (after 4 fn.body) (at_ret (env fn.locals l) Post) $
    sets ! (of_opd ! (get ! refl)) refl (tt, (record { fits = lit< tt }, tt)) $
    use0 𝓛 (‵ (Out.own_val None (live 0 vnil ∷ []))) (none_of 𝓛 RawBox) $
    use0 𝓛 (raw (fact 𝓤 (None ≡ v.registry))) (fact_i 𝓤 (None ≡ v.registry) (emp 𝓤) (sym none)) $ nothing ! $ nothing ! $ fjoin ! $
    -- [nothing of the parameter; the clause; the result; the allocator; nothing; no tokens; ..]
    returns ! (look_at ! 0 refl) $ free_all ! refl $ keep ! (5 ∷ 0 ∷ 2 ∷ 1 ∷ []) $
    by ! (leaves 𝓛 f.ended stayed c z (live 0 vnil) None (tt, tt) (tt, tt)))
    (λ wrong. absurd wrong)))
    (λ b o x is some t. let w : Val = word (block_ptr b o) in let e : z.0.4.0 ≡ w ∷ [] = ws ∙ ap (λ (p : Ptr). word p ∷ []) is in
    let u : Val = live 1 (vcons w vnil) in let d : RawBox.Denot = record { pointer = block_ptr b o; alloc = v.alloc; value = x } in
    let fit = raw_good R Z L ghosts b o h fits in let good : Good (layout Out) u = (and_tt _ fit.0, (record { fits = lit< tt }, (fit.1, tt))) in
    suffices ! (Run (w ∷ [])) (subst (λ (us : List Val). ent 𝓤 (Run (w ∷ [])) (Run us)) (sym (λ i. e i ++ [])) (id⊢ 𝓤 (Run (w ∷ [])))) $
    -- [what the box owned; the allocator; nothing; no tokens; nothing required; the locals]
    enter ! 𝓣.C 𝓣.Λ fn (w ∷ []) Post $ alloc_all ! (λ l. pass_all ! refl (fit, tt) $
    sets ! (of_opd ! (get_in ! (fld ! refl (stop !)) (sub ! 0 refl (whole !)))) refl (tt, tt) $
    sets ! (of_opd ! (get_in ! (fld ! refl (stop !)) (sub ! 1 refl (whole !)))) refl fits $
    sets ! (bin ! (get ! refl) (lit ! tt) (tests_null (block_ptr b o) t)) refl (tt, tt) $ first ! $ branches ! (get ! refl)
    (λ wrong. absurd wrong)
    (λ _. sets ! (agg ! (and_then ! (get ! refl) (and_then ! (get ! refl) (no_more !)))) refl fit $
    sets_last ! (agg ! (and_then ! (lit ! tt) (and_then ! (get ! refl) (no_more !)))) refl good $
    exec ! 𝓣.C 𝓣.Λ (env fn.locals l) (after 4 fn.body) (at_ret (env fn.locals l) Post) $
    sets ! (of_opd ! (get ! refl)) refl good $
    raw_in R Z L ghosts ! b o h v.alloc x $ use1 𝓛 (‵ (Out.own_val (Some d) (u ∷ []))) (Some-of 𝓛 RawBox d w) $
    use0 𝓛 (raw (fact 𝓤 (Some x ≡ v.registry))) (fact_i 𝓤 (Some x ≡ v.registry) (emp 𝓤) (sym some)) $ nothing ! $ nothing ! $ fjoin ! $
    -- [nothing of the parameter; the clause; the result; nothing; no tokens; ..]
    returns ! (look_at ! 0 refl) $ free_all ! refl $ keep ! (4 ∷ 0 ∷ 2 ∷ 1 ∷ []) $
    by ! (leaves 𝓛 f.ended stayed c z u (Some d) (tt, tt) (tt, tt)))))))
