-- Which arguments ask for a job.
use Rattle.std.specs.Prelude.{◌≡◌, List, [], None}
use Rattle.clap.specs.Words.{Text, fault_of}
use Rattle.bcs_tool_command_line.specs.CommandLine.{bcs_app}
use Rattle.bcs_tool_command_line.specs.Misuses.{misuse_of}
use Rattle.bcs_tool_command_line.specs.Spelling.{spelled}

-- the arguments are accepted, the program's own name first: clap finds no fault in them, and they go together
abbrev pub AcceptsArguments : List Text → Type 0
AcceptsArguments words = (fault_of bcs_app (spelled words) ≡ []) × (misuse_of words ≡ None)
