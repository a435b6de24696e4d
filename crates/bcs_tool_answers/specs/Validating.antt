-- What is validated before the input of a job is read: its registries, then the format, and then the path.
use Rattle.std.specs.Prelude.{◌≡◌, ◌⊎◌, ◌==◌, ◌||◌, ◌&&◌, ℕ, List, [], ◌∷◌, Option, Some, None, option_map, Bool, true, false, codes, is_some, string_bytes}
use Rattle.bcs_registry_model.specs.Container.{Entries, container_at}
use Rattle.bcs_registry.specs.Faults.{IsLeastFault, IsLeastFormatFault}
use Rattle.bcs_registry_model.specs.FaultNames.{growth_fault_name, registry_fault_name}
use Rattle.bcs_registry_model.specs.Grows.{IsFirstGrowthFault}
use Rattle.bcs_registry_model.specs.Shape.{Shape, name}
use Rattle.bcs_registry_json.specs.Text.{WritesRegistry, WritesFormat}
use Rattle.bcs_registry_model.specs.WellFormed.{IsWellFormed, Admits}
use Rattle.bcs_registry_model.specs.declared.fault.RegistryFault.{RegistryFault}
use Rattle.bcs_registry_model.specs.declared.fault.RegistryFault.TheVariants.{UnknownName, OutOfMemory}
use Rattle.bcs_decode_parts.specs.Parts.{Step}
use Rattle.bcs_decode_parts.specs.declared.path_fault.PathFault.{PathFault}
use Rattle.bcs_decode_parts.specs.declared.path_fault.PathFault.TheVariants as path
use Rattle.bcs_tool_command_line.specs.declared.command.Command.{Command}
use Rattle.bcs_tool_command_line.specs.declared.command.Command.TheVariants as command
use Rattle.bcs_tool_answers.specs.declared.job_fault.JobFault.{JobFault}
use Rattle.bcs_tool_answers.specs.declared.job_fault.JobFault.TheVariants as job
use Rattle.bcs_tool_command_line.specs.Jobs.{coding_of, is_raw}
use Rattle.bcs_tool_command_line.specs.declared.notation.Notation.{Notation}
use Rattle.bcs_tool_answers.specs.Notations.{SpellsNoSteps, SpellsSteps}
use Rattle.bcs_tool_command_line.specs.declared.work.Work.{Work}
use Rattle.bcs_tool_answers.specs.declared.value_command.BytesCommand.{BytesCommand}
use Rattle.bcs_tool_answers.specs.declared.value_command.BytesCommand.TheVariants as on_bytes
use Rattle.bcs_tool_answers.specs.declared.value_command.ValueCommand.{ValueCommand}
use Rattle.bcs_tool_answers.specs.declared.value_command.ValueCommand.TheVariants as on_values

-- ---- the printed names

abbrev pub job_fault_name : JobFault → List ℕ
job_fault_name (job.Registry fault) = registry_fault_name fault
job_fault_name (job.Growth fault) = growth_fault_name fault
job_fault_name job.BadPath = codes "BadPath"

-- the job's fault if PATH is refused
abbrev pub path_job_fault : PathFault → JobFault
path_job_fault path.BadPath = job.BadPath
path_job_fault path.OutOfMemory = job.Registry OutOfMemory

-- ---- the registry's text

-- the text represents this registry, which is well-formed
abbrev pub IsRegistry : List ℕ → Entries → Type 0
IsRegistry text registry = WritesRegistry text registry × IsWellFormed registry

-- ---- the format argument

-- it begins with a brace or a quotation mark; any other argument is a container's name
abbrev pub is_json_word : List ℕ → Bool
is_json_word [] = false
is_json_word (c ∷ cs) = c == 123 || c == 34

-- the argument is the JSON of a format that the registry admits, or the name of one of its containers
abbrev pub IsFormatWord : Entries → List ℕ → Shape → Type 0
IsFormatWord registry word s = ((is_json_word word ≡ true) × WritesFormat word s × Admits registry s)
    ⊎ ((is_json_word word ≡ false) × (is_some (container_at word registry) ≡ true) × (s ≡ name word))

-- it is JSON with this fault, or a name that no container has
abbrev pub RefusesFormatWord : Entries → List ℕ → RegistryFault → Type 0
RefusesFormatWord registry word fault = ((is_json_word word ≡ true) × IsLeastFormatFault registry word fault)
    ⊎ ((is_json_word word ≡ false) × (container_at word registry ≡ None) × (fault ≡ UnknownName))

-- ---- the optional name

-- the name of a container or of a variant
abbrev pub name_of : Work → Option (List ℕ)
name_of work = option_map string_bytes work.options.name

-- a name is given, and no container has it
abbrev pub NamesNone : Option (List ℕ) → Entries → Type 0
NamesNone None registry = ⊥
NamesNone (Some word) registry = container_at word registry ≡ None

-- ---- the path argument

-- the steps that a command's argument PATH, or the one in its place, gives; empty if the command has no such argument
abbrev pub IsPathOf : Command → Notation → List ℕ → List Step → Type 0
IsPathOf command.Part notation word path = SpellsSteps notation word path
IsPathOf other notation word path = path ≡ []

-- ---- the job

-- the command works on values: it has a format, even if `which` doesn't use it, and an input
abbrev pub works_on_values : Command → Bool
works_on_values command.Encode = true
works_on_values command.Decode = true
works_on_values command.Explain = true
works_on_values command.Normalise = true
works_on_values command.Same = true
works_on_values command.Diff = true
works_on_values command.Part = true
works_on_values command.Scan = true
works_on_values command.Which = true
works_on_values other = false

-- the command of a job whose input gives bytes
abbrev pub bytes_command : BytesCommand → Command
bytes_command on_bytes.Decode = command.Decode
bytes_command on_bytes.Explain = command.Explain
bytes_command on_bytes.Part = command.Part
bytes_command on_bytes.Scan = command.Scan
bytes_command on_bytes.Which = command.Which

-- the command of a job that works on values
abbrev pub command_of : ValueCommand → Command
command_of on_values.Encode = command.Encode
command_of on_values.Normalise = command.Normalise
command_of on_values.Same = command.Same
command_of on_values.Diff = command.Diff
command_of (on_values.Bytes asked) = bytes_command asked

-- the command only validates bytes
abbrev pub is_scan : Command → Bool
is_scan command.Scan = true
is_scan other = false

-- the input may have any size: raw bytes, which are validated as they arrive
abbrev pub is_unlimited : Work → Bool
is_unlimited work = is_scan work.command && is_raw (coding_of work)

-- the job works on values of this format from this registry, and its PATH is valid if it has one
pub record Asks (work : Work) (registry : Entries) (s : Shape) : Type 0 where
  pub command : works_on_values work.command ≡ true
  pub is_registry : IsRegistry work.registry.items registry
  pub is_format : IsFormatWord registry (string_bytes work.format) s
  pub has_path : (path : List Step) × IsPathOf work.command work.options.notation (string_bytes work.path) path

-- the job has an input, which is read since its arguments are not refused
abbrev pub ReadsInput : Work → Type 0
ReadsInput work = (registry : Entries) × (s : Shape) × Asks work registry s

-- the registry's fault, or else the format's
abbrev pub RefusesFormatted : Work → JobFault → Type 0
RefusesFormatted work (job.Registry fault) = IsLeastFault work.registry.items fault
    ⊎ ((registry : Entries) × IsRegistry work.registry.items registry × RefusesFormatWord registry (string_bytes work.format) fault)
RefusesFormatted work (job.Growth fault) = ⊥
RefusesFormatted work job.BadPath = ⊥

abbrev pub RefusesCheck : Work → JobFault → Type 0
RefusesCheck work (job.Registry fault) = IsLeastFault work.registry.items fault
RefusesCheck work (job.Growth fault) = ⊥
RefusesCheck work job.BadPath = ⊥

-- the registry's fault, or else that no container has NAME
abbrev pub RefusesShow : Work → JobFault → Type 0
RefusesShow work (job.Registry fault) = IsLeastFault work.registry.items fault
    ⊎ ((registry : Entries) × IsRegistry work.registry.items registry × NamesNone (name_of work) registry × (fault ≡ UnknownName))
RefusesShow work (job.Growth fault) = ⊥
RefusesShow work job.BadPath = ⊥

-- the older registry's fault, or else the newer's, or else why the older has not grown into the newer
abbrev pub RefusesGrowth : Work → JobFault → Type 0
RefusesGrowth work (job.Registry fault) = IsLeastFault work.registry.items fault
    ⊎ ((older : Entries) × IsRegistry work.registry.items older × IsLeastFault work.second.items fault)
RefusesGrowth work (job.Growth fault) = (older : Entries) × (newer : Entries) × IsRegistry work.registry.items older
    × IsRegistry work.second.items newer × IsFirstGrowthFault older newer fault
RefusesGrowth work job.BadPath = ⊥

-- the registry's fault, or else the format's, or else that PATH is invalid
abbrev pub RefusesPart : Work → JobFault → Type 0
RefusesPart work (job.Registry fault) = RefusesFormatted work (job.Registry fault)
RefusesPart work (job.Growth fault) = ⊥
RefusesPart work job.BadPath = (registry : Entries) × (s : Shape) × IsRegistry work.registry.items registry
    × IsFormatWord registry (string_bytes work.format) s × SpellsNoSteps work.options.notation (string_bytes work.path)

abbrev pub RefusesJobOf : Command → Work → JobFault → Type 0
RefusesJobOf command.Check = RefusesCheck
RefusesJobOf command.Grows = RefusesGrowth
RefusesJobOf command.Show = RefusesShow
RefusesJobOf command.Part = RefusesPart
RefusesJobOf command.FromMove = λ work fault. ⊥
RefusesJobOf other = RefusesFormatted

-- the job is refused before any input is read
abbrev pub RefusesEarly : Work → JobFault → Type 0
RefusesEarly work = RefusesJobOf work.command work
