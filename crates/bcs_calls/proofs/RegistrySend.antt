-- An open registry may move to another thread, since all its parts may. `search` handles only a layer or two at once.
use Rattle.bcs_calls.proofs.Prelude.{shape, IsSend, enum_send, recorded_send, sendable, Vec-send, crosses, ghosts, send-Format}
use Rattle.std.proofs.MapsCrossing as maps
use Rattle.std.specs.contracts.alloc.Global as Global
use Rattle.std.specs.contracts.vec.Vec as Vec
use Rattle.bcs_registry_model.specs.contracts.container.Container as Container
use Rattle.bcs_registry_model.specs.contracts.format.Format as Format
use Rattle.bcs_registry_model.specs.contracts.named.Named as Named
use Rattle.bcs_registry_model.specs.contracts.variant_format.VariantFormat as VariantFormat
use Rattle.bcs_registry.specs.contracts.registry.Registry as Registry
use Rattle.bcs_calls.specs.contracts.known.Known as Known
use Rattle.bcs_calls.specs.contracts.open_registry.OpenRegistry as OpenRegistry

format : IsSend Format.the_field.row
format = search (send-Format, sendable, crosses, maps.crosses) depth 40

formats : IsSend (Vec.the_row Format.the_row Global.the_row ghosts)
formats = search (format, sendable, crosses) depth 40

field : IsSend (Named.the_row Format.the_row)
field = search (format, sendable, crosses, maps.crosses) depth 40

fields : IsSend (Vec.the_row (Named.the_row Format.the_row) Global.the_row ghosts)
fields = Vec-send _ field

payload : IsSend VariantFormat.the_row
payload = recorded_send _ _ _ VariantFormat.the_type.to_one (enum_send (shape VariantFormat.the_type) (tt, ((format, tt), ((formats, tt), ((fields, tt), tt)))))

variant : IsSend (Named.the_row VariantFormat.the_row)
variant = search (payload, sendable, crosses, maps.crosses) depth 40

container : IsSend Container.the_row
container =
    recorded_send _ _ _ Container.the_type.to_one (enum_send (shape Container.the_type)
    (tt, ((format, tt), ((formats, tt), ((fields, tt), ((search (variant, sendable, crosses, maps.crosses) depth 40, tt), tt))))))

registry : IsSend Registry.the_row
registry = search (container, sendable, crosses, maps.crosses) depth 40

known : IsSend Known.the_row
known = search (format, sendable, crosses, maps.crosses) depth 40

pub opened : IsSend OpenRegistry.the_row
opened = search (registry, known, sendable, crosses, maps.crosses) depth 40
