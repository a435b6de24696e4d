use Rattle.bcs_json_tokens.proofs.Prelude.{◌≡◌, ◌∙◌, suc, Some, ap, arith, sym, slice_get-get_or, rules, slice_get, string_bytes, subst, IsRefusal, IsWithin, OthersPassed, first_empty, first_names, IsFieldRefused}
use Rattle.bcs_json_spec.specs.Place.{member}
use Rattle.bcs_json_tokens.proofs.Starts.{refused_as}
use Rattle.bcs_json_tokens.proofs.refused_fields.refused_field.Goals as goal

pub returns-in-Ok : goal.returns-in-Ok
returns-in-Ok c =
    let fs = c.args.fields.now in
    let os = c.args.slots.now.items in
    let i = c.args.place in
    let x = c.index-fields-place.result in
    let name = c.as_str-name.result.now in
    let inner = c.into_inner.result in
    let first : first_empty os ≡ i = search rules in
    let at : slice_get fs i ≡ Some x = slice_get-get_or fs i x (omega (arith, c.if-place-fields.false)) ∙ ap Some (sym c.index-fields-place.is) in
    let was : IsRefusal c.args.given_up inner = search rules in
    let others : OthersPassed (first_names (suc i) fs) c.args.depth c.args.reader.now c.pass_others.new.reader = search rules in
    let named : name ≡ string_bytes x.name = search rules in
    refused_as (IsWithin (member name) inner) (IsFieldRefused fs os i c.args.depth c.args.reader.now c.pass_others.new.reader c.args.given_up) c.within_member.result
    (λ e h. record { first = first; field = x; at = at; inner = inner; was = was; within = subst (λ k. IsWithin (member k) inner e) named h; others = others }) c.within_member.ensures
