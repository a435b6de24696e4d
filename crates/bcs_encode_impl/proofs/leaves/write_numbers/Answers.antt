use Rattle.bcs_encode_impl.proofs.Prelude.{◌≡◌, ◌∙◌, sym, ap, rules, false, true, [], None, Bool, if◌then◌else◌, length, whole_shape, items_trees, all_fit, items_written, less}
use Rattle.bcs_encode_impl.proofs.AppendsLaws.{whole_written}
use Rattle.bcs_encode_impl.proofs.RowsFit.{row_fits}
use Rattle.bcs_encode_impl.proofs.leaves.write_numbers.Goals as goal
use Rattle.bcs_encode_impl.proofs.leaves.write_numbers.Goals.{then-is_complete, else-is_complete}

pub returns-then-are_numbers-clause-validated : goal.returns-then-are_numbers-clause-validated
returns-then-are_numbers-clause-validated c =
    let fit : all_fit false [] (items_trees c.args.items.now) (whole_shape c.args.format) ≡ true =
    elim c.if-is_complete.branch [
      | then-is_complete w ↦
          let whole : c.is_complete.result ≡ true = search rules in
          row_fits c.args.format (items_trees c.args.items.now) c.args.out.now.bytes.items c.push_numbers.new.self.bytes.items
          (whole_written c.args.out.now c.push_numbers.new.self (items_written [] (items_trees c.args.items.now) (whole_shape c.args.format)) c.push_numbers.ensures.appended (sym c.is_complete.ensures ∙ whole))
      | else-is_complete w ↦ search rules
    ] in
    c.take.ensures ∙ sym (ap (λ (b : Bool). if b then less (length c.args.items.now) c.args.nodes else None) fit)
