-- The numbers of statuses, as C sees them.
use Rattle.std.specs.Prelude.{ℕ}
use Rattle.bcs_calls.specs.declared.status.Status.{Status}
use Rattle.bcs_calls.specs.declared.status.Status.TheVariants.{Done, Short, Registry, Format, Limits, Refused, Memory, No, Path, Newer, Closed, NoCall}

abbrev pub status_number : Status → ℕ
status_number Done = 0
status_number Short = 1
status_number Registry = 2
status_number Format = 3
status_number Limits = 4
status_number Refused = 5
status_number Memory = 6
status_number No = 7
status_number Path = 8
status_number Newer = 9
status_number Closed = 10
status_number NoCall = 12
