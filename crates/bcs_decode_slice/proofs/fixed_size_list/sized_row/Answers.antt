use Rattle.bcs_decode_slice.proofs.Prelude.{◌≡◌, ◌*◌, ◌/◌, ◌<◌, ◌≤◌, length, arith, rules, le-div_iff_mul-le}
use Rattle.bcs_decode_slice.proofs.fixed_size_list.sized_row.Goals as goal
use Rattle.bcs_decode_slice.proofs.fixed_size_list.sized_row.Goals.{then-size-eq0, else-size-eq0}

pub returns-clause-most : goal.returns-clause-most
returns-clause-most c k few there left =
    let size = c.args.size in
    let at = c.args.cursor.now in
    let same : c.from.result ≡ at.nodes = c.from.ensures in
    let begun : k * size.nodes ≤ c.from.result = omega (arith, same, left) in
    let some : k ≤ c.from.result / size.nodes = (le-div_iff_mul-le {k = size.nodes} {x = k} {y = c.from.result} c.requires.node).1 begun in
    elim c.if-size-eq0.branch [
      | then-size-eq0 w ↦ omega (arith, w.gone-is, c.min-begun.ensures, some, few)
      | else-size-eq0 w ↦
          (let positive : 0 < size.bytes = omega (arith, w.if-size-eq0.false) in
          let room : k ≤ length at.rest.now / size.bytes = (le-div_iff_mul-le {k = size.bytes} {x = k} {y = length at.rest.now} positive).1 there in
          omega (arith, w.gone-is, w.min-gone.ensures, c.min-begun.ensures, some, few, room))
    ]

pub returns-clause-nodes : goal.returns-clause-nodes
returns-clause-nodes c = search rules
