-- The command line of `bcs`, in the terms of clap's contracts.
use Rattle.std.specs.Prelude.{List, true, codes, fold, map, String, string_bytes}
use Rattle.std.specs.declared.alloc.Global.{Global}
use Rattle.clap.specs.Words.{App, Text, new_app, with_subcommand}
use Rattle.clap.specs.Simple.{on_top}
use Rattle.bcs_tool_command_line.specs.Options.{app_of_command, commands}

-- one of its commands has to be there
abbrev pub wants_command : App → App
wants_command = on_top (λ s. record s { subcommand_required = true })

-- it answers `--version` and `-V`
abbrev pub reports_version : App → App
reports_version = on_top (λ s. record s { has_version = true })

-- a program with one command more
abbrev pub with_command : App → App → App
with_command program command = with_subcommand program command.top

abbrev pub bcs_app : App
bcs_app = fold with_command (wants_command (reports_version (new_app (codes "bcs")))) (map app_of_command commands)

-- the words as texts
abbrev pub texts_of : List (String Global) → List Text
texts_of = map string_bytes
