-- The line on standard error if the content of a source wasn't read.
use Rattle.std.specs.Prelude.{ℕ, List, codes}
use Rattle.bcs_io.specs.declared.taking.TakeFault.{TakeFault}
use Rattle.bcs_io.specs.declared.taking.TakeFault.TheVariants.{Read, TooLarge, OutOfMemory}

abbrev pub take_note : TakeFault → List ℕ
take_note Read = codes "fault: read"
take_note TooLarge = codes "fault: too large"
take_note OutOfMemory = codes "fault: memory"
