-- The answers of calls, with all their fields.
use Rattle.std.specs.Prelude.{◌==◌, ℕ, Option, Some, None, if◌then◌else◌}
use Rattle.bcs_decode_spec.specs.declared.reason.Reason.{Reason}
use Rattle.bcs_decode_spec.specs.declared.stop.Stop as declared
use Rattle.bcs_calls.specs.declared.answer.Answer.{Answer}
use Rattle.bcs_calls.specs.declared.fault.Fault.{Fault}
use Rattle.bcs_calls.specs.declared.fault.Fault.TheVariants.{Stop}
use Rattle.bcs_calls.specs.declared.status.Status.{Status}
use Rattle.bcs_calls.specs.declared.status.Status.TheVariants.{Done, Refused}
use Rattle.bcs_calls.specs.Faults.{fault_number, reason_number}
use Rattle.bcs_calls.specs.Statuses.{status_number}

-- the status alone
abbrev pub plain : Status → Answer
plain status = record { status = status_number status; fault = 0; place = 0; length = 0 }

-- the number of bytes
abbrev pub sized : Status → ℕ → Answer
sized status n = record { status = status_number status; fault = 0; place = 0; length = n }

-- the place of a part, and its length in bytes
abbrev pub placed : ℕ → ℕ → Answer
placed place n = record { status = status_number Done; fault = 0; place = place; length = n }

-- something is refused
abbrev pub refusal : Status → Fault → Answer
refusal status fault = record { status = status_number status; fault = fault_number fault; place = 0; length = 0 }

-- bytes stop being a value
abbrev pub stop_at : Reason → ℕ → Answer
stop_at reason place = record { status = status_number Refused; fault = fault_number (Stop reason); place = place; length = 0 }

-- the answer, with this number of bytes
abbrev pub with_length : ℕ → Answer → Answer
with_length n a = record a { length = n }

-- the answer, without the number of bytes of its message
abbrev pub without_message : Answer → Answer
without_message a = if a.status == status_number Refused then with_length 0 a else a

-- the answer, with why something is refused
abbrev pub with_fault : Fault → Answer → Answer
with_fault fault a = record a { fault = fault_number fault }

-- the answer, with why something is refused at a place
abbrev pub with_fault_at : Fault → ℕ → Answer → Answer
with_fault_at fault place a = record a { fault = fault_number fault; place = place }

-- the answer, with why and where the bytes stop being a value, if they do
abbrev pub with_stop : Option declared.Stop → Answer → Answer
with_stop None a = a
with_stop (Some x) a = record a { fault = reason_number x.reason; place = x.place }
