use Rattle.bcs_json_tokens.proofs.Prelude.{◌≡◌, ◌∙◌, ℕ, ◌<◌, List, length, get_or, Bool, true, false, Some, option_map, slice_get, string_bytes, ap, sym, arith, slice_get-get_or, bytes_eq-Decides, bytes_eq, OnTrue, Format, Named}
use Rattle.bcs_json_tokens.proofs.field_places.is_named.Goals as goal

named_here : (fs : List (Named Format)) (i : ℕ) (f : Named Format) (text name : List ℕ) → i < length fs → f ≡ get_or fs i f → text ≡ string_bytes f.name → bytes_eq text name ≡ true
    → option_map (λ f. string_bytes f.name) (slice_get fs i) ≡ Some name
named_here fs i f text name within is value same =
    ap (option_map (λ f. string_bytes f.name)) (slice_get-get_or fs i f within ∙ ap Some (sym is)) ∙ ap Some (sym value ∙ (bytes_eq-Decides text name).0 same)

named_if : (b : Bool) (fs : List (Named Format)) (i : ℕ) (f : Named Format) (text name : List ℕ) → i < length fs → f ≡ get_or fs i f → text ≡ string_bytes f.name → b ≡ bytes_eq text name
    → OnTrue b (option_map (λ f. string_bytes f.name) (slice_get fs i) ≡ Some name)
named_if true fs i f text name within is value same = named_here fs i f text name within is value (sym same)
named_if false fs i f text name within is value same = tt

pub returns-then-place-fields-clause-named : goal.returns-then-place-fields-clause-named
returns-then-place-fields-clause-named c =
    named_if c.eq.result c.args.fields.now c.args.place c.index-fields-place.result c.as_str.result.now c.args.name.now (omega (arith, c.if-place-fields.true)) c.index-fields-place.is
    (c.as_str.ensures.value ∙ ap (λ f. string_bytes f.name) (sym c.index-fields-place.is)) c.eq.ensures
