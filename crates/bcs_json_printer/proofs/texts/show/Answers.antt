use Rattle.bcs_json_printer.proofs.Prelude.{◌≡◌, ◌∙◌, ◌≤◌, ap, arith, string_bytes, rules, IsUtf8-string_bytes, depth, max_depth, read, compact_text, shape_of, tree_of, of, shown, IsReadAs}
use Rattle.bcs_json_printer.proofs.ShownBack.{read_back, text_back}
use Rattle.bcs_json_printer.proofs.texts.show.Goals as goal

pub returns-in-Ok-clause-text : goal.returns-in-Ok-clause-text
returns-in-Ok-clause-text c =
    let d = shown c.args.registry.now (tree_of c.args.value.now) (of (shape_of c.args.format.now)) in
    let made = text_back c.args.registry.now (shape_of c.args.format.now) (tree_of c.args.value.now) c.requires.fits in
    let e = c.in-Ok.ensures.events in
    let same : string_bytes c.in-Ok.text ≡ compact_text d = made e.0 (string_bytes c.in-Ok.text) e.1.0 e.2 in
    search (rules, same)

pub returns-in-Ok-clause-reads_back : goal.returns-in-Ok-clause-reads_back
returns-in-Ok-clause-reads_back c =
    let d = shown c.args.registry.now (tree_of c.args.value.now) (of (shape_of c.args.format.now)) in
    let made = text_back c.args.registry.now (shape_of c.args.format.now) (tree_of c.args.value.now) c.requires.fits in
    let e = c.in-Ok.ensures.events in
    let nests = e.1.1 in
    let shallow : depth d ≤ max_depth = omega (arith, nests) in
    let back = read_back c.args.registry.now (shape_of c.args.format.now) (tree_of c.args.value.now) c.requires.fits shallow in
    let reads : IsReadAs (string_bytes c.in-Ok.text) d = ((IsUtf8-string_bytes c.in-Ok.text, ap read (made e.0 (string_bytes c.in-Ok.text) e.1.0 e.2) ∙ back), nests) in
    search (rules, reads)
