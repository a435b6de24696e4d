use Rattle.std.proofs.Common.{ap, sym}
use Rattle.bcs_registry_model.specs.Container.{of}
use Rattle.bcs_part_names.proofs.PartContents.{moved}
use Rattle.bcs_part_names.proofs.contents.sized_value.Goals as goal

pub returns-in-Scalar : goal.returns-in-Scalar
returns-in-Scalar c = moved c.args.ahead.now _ _ c.sized_scalar.result (ap of (sym c.in-Scalar.ensures)) c.sized_scalar.ensures

pub returns-in-Seq : goal.returns-in-Seq
returns-in-Seq c = moved c.args.ahead.now _ _ c.sized_list.result (ap of (sym c.in-Seq.ensures)) c.sized_list.ensures

pub returns-in-TupleArray : goal.returns-in-TupleArray
returns-in-TupleArray c = moved c.args.ahead.now _ _ c.sized_array.result (ap of (sym c.in-TupleArray.ensures)) c.sized_array.ensures
