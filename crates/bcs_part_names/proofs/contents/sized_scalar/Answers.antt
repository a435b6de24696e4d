use Rattle.std.proofs.Common.{ap, inl, inr}
use Rattle.bcs_registry_model.specs.Container.{of}
use Rattle.bcs_registry_model.specs.Kind.{scalar_shape}
use Rattle.bcs_registry_model.specs.Shape as shape
use Rattle.bcs_part_names.proofs.PartContents.{bytes_sized, moved, text_sized}
use Rattle.bcs_part_names.proofs.contents.sized_scalar.Goals as goal

pub returns-in-Bytes : goal.returns-in-Bytes
returns-in-Bytes c =
    (let ahead = c.args.ahead.now in
    elim c.in-Bytes.is [
      | inl e ↦ moved ahead (of (scalar_shape c.args.scalar)) (of shape.bytes) c.counted.result (ap (λ s. of (scalar_shape s)) e) (bytes_sized ahead c.counted.result c.counted.ensures)
      | inr e ↦ moved ahead (of (scalar_shape c.args.scalar)) (of shape.text) c.counted.result (ap (λ s. of (scalar_shape s)) e) (text_sized ahead c.counted.result c.counted.ensures)
    ])
