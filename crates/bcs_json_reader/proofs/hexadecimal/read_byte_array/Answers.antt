use Rattle.bcs_json_reader.proofs.Prelude.{Ok, Err, arith, ap, sym, ◌∙◌, string_bytes, err_from_is_err_and, shape_of, items, byte_trees, is_byte, read_byte_text}
use Rattle.bcs_json_reader.proofs.Texts.{other_count, right_count, items_told}
use Rattle.bcs_json_reader.proofs.hexadecimal.read_byte_array.Goals as goal

pub returns-in_err-exactly : goal.returns-in_err-exactly
returns-in_err-exactly c =
    let p = err_from_is_err_and c.from_residual-in_err-exactly.result c.from_residual-in_err-exactly.ensures.1 in
    rw (p.1, p.2) (λ _. other_count (read_byte_text (is_byte (shape_of c.args.element.now)) (string_bytes c.args.text)) c.in_ok-bytes.bytes.items c.args.size c.in_ok-bytes.ensures
    (λ is. c.in_err-exactly.ensures.other (omega (arith, c.len.ensures, c.in_ok-bytes.bytes.ok, is))) ∙ ap Err (sym c.in_err-exactly.ensures.fault))

pub returns : goal.returns
returns c =
    items_told c.numbers.result _ (byte_trees c.as_slice.result.now)
    (right_count (read_byte_text (is_byte (shape_of c.args.element.now)) (string_bytes c.args.text)) c.in_ok-bytes.bytes.items c.args.size c.in_ok-bytes.ensures
    (omega (arith, c.len.ensures, c.in_ok-bytes.bytes.ok, c.in_ok-exactly.ensures.ok)) ∙ ap (λ b. Ok (items (byte_trees b))) (sym c.as_slice.ensures.value))
    c.numbers.ensures.ok c.numbers.ensures.fault
