use Rattle.bcs_json_tokens.proofs.Prelude.{◌≡◌, ◌∙◌, Ok, Err, ap, sym, string, shape_of, is_byte, Data, Tree, Trees, Read, follow, read_byte_text, read_seq}
use Rattle.bcs_value_model.specs.Tree.{items}
use Rattle.bcs_json_tokens.proofs.Prelude.{Here}
use Rattle.bcs_json_tokens.proofs.Starts.{refused_as}
use Rattle.bcs_json_tokens.proofs.Values.{tree_items}
use Rattle.bcs_json_tokens.proofs.leaves.list_of_text.Goals as goal

pub returns-in-Ok-clause-read : goal.returns-in-Ok-clause-read
returns-in-Ok-clause-read c = λ r. ap (λ (x : Read Trees). follow x (λ ts. Ok (items ts))) c.in-Ok.ensures.read ∙ ap Ok (sym (tree_items c.in-Ok.items))

pub returns-in-Err-clause-refused : goal.returns-in-Err-clause-refused
returns-in-Err-clause-refused c =
    let b = is_byte (shape_of c.args.element.now) in
    let s = c.args.text.now in
    refused_as (λ e. (read_byte_text b s ≡ Err e.fault) × (e.location ≡ Here)) (λ e. ((r : Data → Read Tree) → read_seq b r (string s) ≡ Err e.fault) × (e.location ≡ Here)) c.in-Err.given_up
    (λ e h. ((λ r. ap (λ (x : Read Trees). follow x (λ ts. Ok (items ts))) h.0), h.1)) c.in-Err.ensures.refused
