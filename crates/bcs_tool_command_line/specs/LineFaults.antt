-- Why a command line asks for no job.
use Rattle.std.specs.Prelude.{◌≡◌, ◌≢◌, ◌⊎◌, IsSomeAnd, List, [], string_bytes}
use Rattle.clap.specs.Words.{IsAmong, Kinds, Text, fault_of}
use Rattle.clap.specs.declared.error.kind.ErrorKind.{ErrorKind}
use Rattle.clap.specs.declared.error.kind.ErrorKind.TheVariants as kind
use Rattle.bcs_tool_command_line.specs.CommandLine.{bcs_app}
use Rattle.bcs_tool_command_line.specs.declared.line_fault.LineFault.{LineFault}
use Rattle.bcs_tool_command_line.specs.declared.line_fault.LineFault.TheVariants.{Usage, Help, OutOfMemory}
use Rattle.bcs_tool_command_line.specs.Misuses.{misuse_of}
use Rattle.bcs_tool_command_line.specs.Options.{misuse_text}
use Rattle.bcs_tool_command_line.specs.Spelling.{spelled}
use Rattle.bcs_tool_command_line.specs.declared.options.Misuse.{Misuse}

-- clap's error of this kind has a text that the words ask for: help, or the version
abbrev pub IsAskedFor : ErrorKind → Type 0
IsAskedFor k = (k ≡ kind.DisplayHelp) ⊎ (k ≡ kind.DisplayVersion)

-- the fault for clap's error of this kind; the text itself may be refused its memory
abbrev pub IsFaultOfKind : ErrorKind → LineFault → Type 0
IsFaultOfKind k (Usage text) = (¬ IsAskedFor k) × (k ≢ kind.OutOfMemory)
IsFaultOfKind k (Help text) = IsAskedFor k
IsFaultOfKind k OutOfMemory = Unit {0}

-- the fault is for one of these kinds, or memory ran out
abbrev pub IsFaultAmong : Kinds → LineFault → Type 0
IsFaultAmong kinds (Usage text) = (k : ErrorKind) × IsAmong k kinds × (¬ IsAskedFor k)
IsFaultAmong kinds (Help text) = (k : ErrorKind) × IsAmong k kinds × IsAskedFor k
IsFaultAmong kinds OutOfMemory = Unit {0}

-- the fault reports this misuse
abbrev pub ReportsMisuse : Misuse → LineFault → Type 0
ReportsMisuse misuse (Usage text) = string_bytes text ≡ misuse_text misuse
ReportsMisuse misuse (Help text) = ⊥
ReportsMisuse misuse OutOfMemory = ⊥

-- the fault is for arguments that are otherwise good, but don't go together
abbrev pub IsMisuseFault : List Text → LineFault → Type 0
IsMisuseFault words fault = (fault_of bcs_app (spelled words) ≡ []) × IsSomeAnd (misuse_of words) (λ misuse. ReportsMisuse misuse fault)

-- the fault is one that clap finds in the arguments, the program's own name first, or it is for arguments that don't go together
abbrev pub IsFaultOf : List Text → LineFault → Type 0
IsFaultOf words fault = IsFaultAmong (fault_of bcs_app (spelled words)) fault ⊎ IsMisuseFault words fault
