use Rattle.bcs_json_reader.proofs.Prelude.{rules}
use Rattle.bcs_json_reader.proofs.Called.{lacks_called, stands_called}
use Rattle.bcs_json_reader.proofs.names.find_variant.Goals as goal

pub returns-in_err-variant : goal.returns-in_err-variant
returns-in_err-variant c =
    rw (c.from_residual-in_err-variant.ensures) (lacks_called c.args.registry.now c.requires.orderly c.args.name.now c.args.word.now c.args.variants.now.entries c.requires.stands
    c.variant_number.result c.in_ok-number.number c.get.result c.variant_number.ensures (search rules) c.get.ensures.value (search rules))

pub returns : goal.returns
returns c =
    stands_called c.args.registry.now c.requires.orderly c.args.name.now c.args.word.now c.args.variants.now.entries c.requires.stands
    c.variant_number.result c.in_ok-number.number c.get.result c.in_ok-variant.variant c.variant_number.ensures (search rules) c.get.ensures.value (search rules)
