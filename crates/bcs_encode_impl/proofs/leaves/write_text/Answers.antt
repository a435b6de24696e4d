use Rattle.bcs_encode_impl.proofs.Prelude.{◌&&◌, Bool, length, nat_le, sym, ap, ◌∙◌, is_utf8-from_IsUtf8, length_limit, leaf}
use Rattle.bcs_encode_impl.proofs.leaves.write_text.Goals as goal

pub returns-clause-validated : goal.returns-clause-validated
returns-clause-validated c =
    c.charge_leaf.ensures
    ∙ ap (λ (b : Bool). leaf (b && nat_le (length c.args.text.now) length_limit) c.args.nodes) (sym (is_utf8-from_IsUtf8 c.args.text.now c.utf8.text))
