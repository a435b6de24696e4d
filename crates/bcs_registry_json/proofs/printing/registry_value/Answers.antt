use Rattle.std.proofs.Common.{arith, drop, ◌+◌}
use Rattle.std.proofs.lemmas.List.{drop_more}
use Rattle.std.specs.String.{string_cmp}
use Rattle.bcs_registry_json.proofs.Prelude.{◌≡◌, ◌∙◌, List, [], ◌∷◌, ◌++◌, string_bytes, sym, ap, ap₂, subst, append_assoc, append-nil, IsStrictlySortedBy, keys_of, object, put, members_view, view-Object, shown_registry, shown_container, container_of, entries_of, Stored}
use Rattle.bcs_registry_json.proofs.ShownParts.{shown_containers-push}
use Rattle.bcs_registry_model.proofs.Gathering.{dropped, rise_back}
use Rattle.bcs_registry_model.proofs.Places.{Rise}
use Rattle.bcs_registry_json.proofs.printing.registry_value.Goals as goal

pub loop-name-preserved : goal.loop-name-preserved
loop-name-preserved c =
    let l = c.loop-name in
    let es = c.entries-entries.result.now in
    let done = l.invariant.0 in
    let e : Stored = c.loop-name-item.result in
    let left = drop (l.name-index + 1) es in
    let step : drop l.name-index es ≡ e ∷ left = drop_more es l.name-index e (omega (arith, c.loop-name-test.true)) ∙ ap (λ x. x ∷ left) (sym c.loop-name-item.is) in
    let all : es ≡ done ++ e ∷ left = l.invariant.1 ∙ ap (λ xs. done ++ xs) step in
    let ordered = subst (λ (xs : List Stored). IsStrictlySortedBy string_cmp (keys_of xs)) all (rise_back es (subst Rise (sym c.entries-entries.ensures.is) c.entries-entries.ensures.rise)) in (
      done ++ e ∷ [],
      all ∙ sym (append_assoc done (e ∷ []) left),
      c.in_ok-put.ensures.ok ∙ ap₂ (λ k d. put k d (members_view l.members.entries)) c.as_str.ensures.value c.in_ok-value.ensures
          ∙ ap (put (string_bytes e.0) (shown_container (container_of e.1))) l.invariant.2 ∙ shown_containers-push done e left ordered,
    )

pub returns : goal.returns
returns c =
    let l = c.loop-name in
    let es = c.entries-entries.result.now in
    let done = l.invariant.0 in
    let all : done ≡ c.args.containers.now.entries.items = sym (l.invariant.1 ∙ ap (λ xs. done ++ xs) (dropped l.name-index es (omega (arith, c.loop-name-test.false))) ∙ append-nil done) ∙ c.entries-entries.ensures.is in
    view-Object l.members ∙ ap object l.invariant.2 ∙ ap (λ xs. shown_registry (entries_of xs)) all
