-- What a handle owns besides its fields.
use Rattle.std.specs.Coded.{Coded, coded_option}
use Rattle.std.specs.declared.option.Option.{Option}
use Rattle.std.specs.declared.option.Option.TheVariants.{None, Some}
use Rattle.std.specs.Box.Ownership.{box_owns}
use Rattle.std.specs.Global.{Global}
use Rattle.std.specs.contracts.impls.GlobalAllocator.TheImpl.{ghosts}
use base.Fml.{Fml, feq}
use denote.RawPtr.{Ptr, null_ptr}
use Rattle.bcs_registry_model.specs.Container.{Entries}
use Rattle.bcs_calls.specs.contracts.open_registry.OpenRegistry.{the_row}

-- if no registry is open, the pointer is null and nothing is owned; otherwise what a box of the open registry owns
abbrev pub holds : Global → Ptr → Option Entries → Fml
holds alloc pointer None = feq Ptr pointer null_ptr
holds alloc pointer (Some registry) = box_owns (ghosts.dealloc_token alloc) the_row pointer registry

abbrev pub entries_coded : Coded (Option Entries)
entries_coded = coded_option the_row.coded
