use Rattle.bcs_json_tokens.proofs.Prelude.{◌≡◌, ◌∙◌, Ok, Err, length, ap, sym, arith, string, shape_of, is_byte, Data, Tree, Trees, Read, follow, read_byte_text, read_array, BadShape, IsHere}
use Rattle.bcs_json_spec.specs.Reading.{sized}
use Rattle.bcs_json_tokens.proofs.Prelude.{Here}
use Rattle.bcs_json_tokens.proofs.Rows.{digits_other, digits_told}
use Rattle.bcs_json_tokens.proofs.Starts.{refused_as}
use Rattle.bcs_json_tokens.proofs.Values.{tree_items}
use Rattle.bcs_json_tokens.proofs.leaves.array_of_text.Goals as goal

pub returns-then-len-size-clause-read : goal.returns-then-len-size-clause-read
returns-then-len-size-clause-read c =
    let v = c.in-Ok.items in
    let so_many : length v.items ≡ c.args.size = omega (arith, c.len.ensures, v.ok, c.if-len-size.true) in
    λ r. digits_told (is_byte (shape_of c.args.element.now)) c.args.size r c.args.text.now v.items so_many c.in-Ok.ensures.read ∙ ap Ok (sym (tree_items v))

pub returns-else-len-size-clause-refused : goal.returns-else-len-size-clause-refused
returns-else-len-size-clause-refused c =
    let v = c.in-Ok.items in
    let b = is_byte (shape_of c.args.element.now) in
    let s = c.args.text.now in
    refused_as (IsHere BadShape) (λ e. ((r : Data → Read Tree) → read_array b c.args.size r (string s) ≡ Err e.fault) × (e.location ≡ Here)) c.here.result
    (λ e h. ((λ r. digits_other b c.args.size r s v.items (λ same. c.if-len-size.false (omega (arith, c.len.ensures, v.ok, same))) c.in-Ok.ensures.read ∙ ap Err (sym h.0)), h.1)) c.here.ensures

pub returns-in-Err-clause-refused : goal.returns-in-Err-clause-refused
returns-in-Err-clause-refused c =
    let b = is_byte (shape_of c.args.element.now) in
    let s = c.args.text.now in
    refused_as (λ e. (read_byte_text b s ≡ Err e.fault) × (e.location ≡ Here)) (λ e. ((r : Data → Read Tree) → read_array b c.args.size r (string s) ≡ Err e.fault) × (e.location ≡ Here)) c.in-Err.given_up
    (λ e h. ((λ r. ap (λ (x : Read Trees). follow x (sized c.args.size)) h.0), h.1)) c.in-Err.ensures.refused
