-- A closed handle is null and owns nothing.
use Rattle.bcs_calls.proofs.Steps.{◌≡◌, List, [], ◌∷◌, ◌++◌, refl, sym, subst, Val, SProp, ent, emp, id⊢, ftrue, WpFn, ‵, raw, ◌⊛◌, ◌$◌, ◌∵◌, !, qed, by, move, keep, split, fsplit, fjoin, suffices, use0, feq_i, no_more, and_then, lit, returns, enter, alloc_all, pass_all, free_all, look_at, get, sets, agg, fact, fact_i, tables, yes, owns, types_at, plain, Ptr, null_ptr, ptr_val, nothing, Stays, stay_dropped, walk_of, Goes-dropped, handle_tells, proved_at, leaves, None}
use Rattle.bcs_calls.proofs.Holdings.{Z, allocator, handle_good, handle_in}
use Rattle.bcs_calls.proofs.RawBoxes.{both}
use Rattle.bcs_calls.proofs.Prelude.{Handle}
use Rattle.bcs_calls.specs.contracts.handle.Handle.closed as f
use Rattle.bcs_calls.proofs.handle.Handle.closed.Statement.{statement}
use Rattle.bcs_calls.proofs.handle.Handle.closed.Code as code

abbrev stayed : Stays f.ended.signature.params f.ended.kept
stayed = (stay_dropped (plain (λ _. Z)) yes, tt)

pub closed_spec : {M : Type 1} → statement M
closed_spec 𝓤 𝓛 𝓜 𝓡 wired =
    let H = 𝓛.H in let 𝓣 = tables 𝓤 H 𝓜 𝓡 𝓡.env in let c = f.clauses 𝓛 𝓜.mem 𝓡.returns in let fn = code.function in
    proved_at 𝓛 f.ended stayed c 𝓜 𝓡 (Goes-dropped 𝓛 0 (plain (λ _. Z)) yes (λ κs x w. refl), tt) f.Key.name fn (code.unfolded 𝓤 H 𝓜 𝓡 wired) (λ z are.
    let alloc = z.0.3.0 in let Post : Val → SProp 𝓤 = (walk_of 𝓛 f.ended stayed c).post z in let Run : List Val → SProp 𝓤 = λ ws. WpFn 𝓤 H 𝓣.C 𝓣.Λ fn ws Post in
    let d : Handle = record { pointer = null_ptr; alloc = alloc; registry = None } in
    qed 𝓛 ((‵ ftrue ⊛ ‵ (owns (types_at f.signature.params z.0.0) z.0.3 z.0.4)) ∷ raw ((c z.0.0 z.0.3).requires z.1) ∷ []) ∵ split ! $ move ! (1 ∷ []) $ fsplit ! $
    handle_tells allocator ! alloc z.0.4.0 (λ h e fits.
    suffices ! (Run (h ∷ [])) (subst (λ (us : List Val). ent 𝓤 (Run (h ∷ [])) (Run us)) (sym (λ i. e i ++ [])) (id⊢ 𝓤 (Run (h ∷ [])))) $
    -- [the allocator; nothing; no tokens; nothing required; the locals]
    enter ! 𝓣.C 𝓣.Λ fn (h ∷ []) Post $ alloc_all ! (λ l. pass_all ! refl (fits, tt) $
    sets ! (agg ! (and_then ! (lit ! tt) (and_then ! (get ! refl) (no_more !)))) refl (handle_good null_ptr h fits) $
    feq_i ! Ptr null_ptr null_ptr refl $ handle_in ! d h $
    use0 𝓛 (raw (fact 𝓤 (d.registry ≡ None))) (fact_i 𝓤 (d.registry ≡ None) (emp 𝓤) refl) $ nothing ! $ nothing ! $ fjoin ! $
    -- [nothing of the parameter; the clause; the handle; nothing; no tokens; ..]
    returns ! (look_at ! 0 refl) $ free_all ! refl $ keep ! (4 ∷ 0 ∷ 2 ∷ 1 ∷ []) $
    by ! (leaves 𝓛 f.ended stayed c z (both (ptr_val null_ptr) h) d (tt, tt) (tt, tt)))))
