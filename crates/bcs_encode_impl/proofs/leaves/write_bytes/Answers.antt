use Rattle.bcs_encode_impl.proofs.Prelude.{◌&&◌, Bool, length, nat_le, sym, ap, ◌∙◌, bytes_are, length_limit, leaf}
use Rattle.bcs_encode_impl.proofs.leaves.write_bytes.Goals as goal

pub returns-clause-validated : goal.returns-clause-validated
returns-clause-validated c =
    c.charge_leaf.ensures
    ∙ ap (λ (b : Bool). leaf (b && nat_le (length c.args.bytes.now) length_limit) c.args.nodes) (sym (bytes_are c.args.bytes.now (λ i. (c.type_inv.bytes i).fits)))
