use Rattle.bcs_calls.proofs.Prelude.{◌≡◌, ℕ, List, refl, subst, Entries, shape_of, no_format, no_limits, IsFormat, RefusesFormat}
use Rattle.bcs_registry_model.specs.WellFormed.{Admits}
use Rattle.bcs_calls.specs.Keeping.{Knows}
use Rattle.bcs_calls.proofs.lending.lend.Goals as goal

pub returns-in-Err-clause-err : goal.returns-in-Err-clause-err
returns-in-Err-clause-err c =
    let same : c.deref_mut.result.now ≡ c.args.opened.value = cc c.deref_mut.ensures.value in
    (no_format c.args.opened.value refl (subst (λ (r : Entries). RefusesFormat r c.args.ask.now.format.now c.in-Err.answer) same c.in-Err.ensures.err), cc (c.in-Err.ensures.same, same))

pub invariant_of-result : goal.invariant_of-result
invariant_of-result c =
    let same : c.deref_mut.result.now ≡ c.format.new.self = cc c.in-Ok.ensures.same in
    record { admitted = subst (λ (r : Entries). Admits r (shape_of c.in-Ok.known.format)) same c.in-Ok.ensures.ok.0.1 }

pub keep-requires : goal.keep-requires
keep-requires c =
    let same : c.deref_mut.result.now ≡ c.deref_mut-in-None.result.now = cc (c.in-Ok.ensures.same, c.deref_mut-in-None.ensures.value) in
    subst (λ (r : Entries). Knows r c.in-Ok.known) same c.in-Ok.ensures.ok.0

pub returns-in-None-clause-err : goal.returns-in-None-clause-err
returns-in-None-clause-err c =
    let same : c.deref_mut.result.now ≡ c.args.opened.value = cc c.deref_mut.ensures.value in
    let knows : Knows c.args.opened.value c.in-Ok.known = subst (λ (r : Entries). Knows r c.in-Ok.known) same c.in-Ok.ensures.ok.0 in
    let form : IsFormat c.args.opened.value c.args.ask.now.format.now (shape_of c.in-Ok.known.format) =
    subst (λ (t : List ℕ). IsFormat c.args.opened.value t (shape_of c.in-Ok.known.format)) c.in-Ok.ensures.ok.1 knows
    in
    (no_limits c.args.opened.value (shape_of c.in-Ok.known.format) refl form (c.in-None.ensures.none.0 refl) c.plain.ensures, cc (c.keep.ensures, c.deref_mut-in-None.ensures.value, c.in-Ok.ensures.same, same))
