-- A law of growth.
use Rattle.bcs_registry_model.specs.Shape.{Shape}
use Rattle.bcs_registry_model.specs.Container.{Entries}
use Rattle.bcs_registry_model.specs.Grows.{Grows}
use Rattle.bcs_registry_model.specs.WellFormed.{Admits}

-- the newer registry admits each format that the older one admits
abbrev pub GrowthKeepsAdmitting : Type 0
GrowthKeepsAdmitting = (older newer : Entries) (s : Shape) → Grows older newer → Admits older s → Admits newer s
