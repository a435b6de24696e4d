-- Arguments that clap accepts one by one, but that don't go together.
use Rattle.std.specs.Prelude.{List, Option, find, option_and_then}
use Rattle.clap.specs.Words.{Row, Text, subcommand_of}
use Rattle.bcs_tool_command_line.specs.CommandLine.{bcs_app}
use Rattle.bcs_tool_command_line.specs.Options.{command_named, is_misuse, misuses}
use Rattle.bcs_tool_command_line.specs.Spelling.{spelled}
use Rattle.bcs_tool_command_line.specs.declared.command.Command.{Command}
use Rattle.bcs_tool_command_line.specs.declared.options.Misuse.{Misuse}

-- why the arguments that clap found for a command don't go together: the first reason
abbrev pub misuse_in : Command → List Row → Option Misuse
misuse_in command found = find (λ m. is_misuse m command found) misuses

-- the same of a command line, the program's own name first
abbrev pub misuse_of : List Text → Option Misuse
misuse_of words = option_and_then (λ p. option_and_then (λ command. misuse_in command p.1) (command_named p.0)) (subcommand_of bcs_app (spelled words))
