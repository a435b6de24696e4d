-- Growth: a newer registry contains all of an older one, and if it doesn't, which fault is reported.
use Rattle.std.specs.Prelude.{◌≡◌, ◌≢◌, ℕ, List, ◌∷◌, ◌++◌, Some, None, All}
use Rattle.bcs_registry_model.specs.Container.{Payload, Choice, Container, enumeration, Entries, container_at, choice_numbered}
use Rattle.bcs_registry_model.specs.declared.growth_fault.GrowthFault.{GrowthFault}
use Rattle.bcs_registry_model.specs.declared.growth_fault.GrowthFault.TheVariants.{Missing, Changed, VariantMissing, VariantChanged}

-- the list starts with good elements, and a faulty one follows them
pub record IsFirst {X : Type 0} (Good Faulty : X → Type 0) (xs : List X) : Type 0 where
  pub front : List X
  pub one : X
  pub back : List X
  pub split : xs ≡ front ++ one ∷ back
  pub good : All Good front
  pub faulty : Faulty one

-- the newer variants include this one
abbrev pub HasChoice : List Choice → Choice → Type 0
HasChoice newer c = choice_numbered c.0 newer ≡ Some c.1

-- the number is missing, or has another name or payload
abbrev pub LacksChoice : List Choice → GrowthFault → Choice → Type 0
LacksChoice newer VariantMissing c = choice_numbered c.0 newer ≡ None
LacksChoice newer VariantChanged c = (v : List ℕ × Payload) × (choice_numbered c.0 newer ≡ Some v) × (v ≢ c.1)
LacksChoice newer _ c = ⊥

-- of two enums, the newer one has each variant of the older one; any other container is unchanged
abbrev pub GrowsTo : Container → Container → Type 0
GrowsTo (enumeration cs) (enumeration ds) = All (HasChoice ds) cs
GrowsTo c d = c ≡ d

-- of two enums, the first variant (by ascending number) that the newer one lacks determines the fault
abbrev pub BreaksTo : GrowthFault → Container → Container → Type 0
BreaksTo e (enumeration cs) (enumeration ds) = IsFirst (HasChoice ds) (LacksChoice ds e) cs
BreaksTo Changed c d = c ≢ d
BreaksTo _ c d = ⊥

-- the newer registry has the container, possibly grown
abbrev pub HasContainer : Entries → List ℕ × Container → Type 0
HasContainer newer c = (d : Container) × (container_at c.0 newer ≡ Some d) × GrowsTo c.1 d

abbrev pub LacksContainer : Entries → GrowthFault → List ℕ × Container → Type 0
LacksContainer newer Missing c = container_at c.0 newer ≡ None
LacksContainer newer e c = (d : Container) × (container_at c.0 newer ≡ Some d) × BreaksTo e c.1 d

-- the newer registry has each container of the older one unchanged, except that an enum may have more variants
abbrev pub Grows : Entries → Entries → Type 0
Grows older newer = All (HasContainer newer) older

-- the first container (by ascending name) that the newer registry lacks determines the fault
abbrev pub IsFirstGrowthFault : Entries → Entries → GrowthFault → Type 0
IsFirstGrowthFault older newer e = IsFirst (HasContainer newer) (LacksContainer newer e) older
