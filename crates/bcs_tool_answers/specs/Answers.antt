-- The program's answer to a job and its input: a status, and the bytes of the standard output.
use Rattle.std.specs.Prelude.{◌≡◌, ◌⊎◌, ◌≤◌, ◌<◌, ◌++◌, ◌∷◌, [], ℕ, List, Bool, true, false, Some, None, codes, is_some, length, string_bytes}
use Rattle.std.specs.Fmt.{decimal}
use Rattle.hex.specs.Hex.{encode_lower}
use Rattle.serde_json.specs.Data.{depth}
use Rattle.bcs_registry_model.specs.Container as container
use Rattle.bcs_registry_model.specs.Container.{Entries}
use Rattle.bcs_registry_model.specs.Grows.{Grows}
use Rattle.bcs_registry_model.specs.Shape.{Shape}
use Rattle.bcs_value_model.specs.Tree.{Tree}
use Rattle.bcs_value_model.specs.Limits.{Bounds}
use Rattle.bcs_decode_spec.specs.Stop.{reason_name}
use Rattle.bcs_decode_spec.specs.declared.reason.Reason.{Reason}
use Rattle.bcs_decode_spec.specs.Accepting.{Accepts}
use Rattle.bcs_decode_spec.specs.Stopping.{Stops, StopsAll}
use Rattle.bcs_decode_parts.specs.Parts.{Step, Part, part_at}
use Rattle.bcs_json_spec.specs.Headline.{Compares, HasBytes, Normalises, ShowsBytes}
use Rattle.bcs_json_spec.specs.FaultNames.{json_fault_name}
use Rattle.bcs_json_spec.specs.JsonContent.{of}
use Rattle.bcs_json_spec.specs.Shown as value
use Rattle.bcs_json_spec.specs.Texts.{Denotes, RefusesText, nesting_limit}
use Rattle.bcs_json_spec.specs.declared.json_fault.JsonFault.{JsonFault}
use Rattle.bcs_move_types.specs.FaultNames.{move_refusal_name}
use Rattle.bcs_move_types.specs.declared.refusal.MoveRefusalName.{MoveRefusalName}
use Rattle.bcs_tool_answers.specs.Notations.{SpellsSteps}
use Rattle.bcs_tool_answers.specs.PartBytes.{printed_bytes, printed_place}
use Rattle.bcs_tool_command_line.specs.Files.{size_limit}
use Rattle.bcs_tool_answers.specs.Input as given
use Rattle.bcs_tool_answers.specs.Validating.{Asks, IsFormatWord, IsRegistry, NamesNone, RefusesEarly, is_unlimited, job_fault_name, name_of}
use Rattle.bcs_tool_command_line.specs.Jobs.{coding_of}
use Rattle.bcs_tool_command_line.specs.declared.coding.Coding.{Coding}
use Rattle.bcs_tool_command_line.specs.declared.coding.Coding.TheVariants as coding
use Rattle.bcs_tool_command_line.specs.declared.command.Command.{Command}
use Rattle.bcs_tool_command_line.specs.declared.command.Command.TheVariants as command
use Rattle.bcs_tool_answers.specs.declared.job_fault.JobFault.{JobFault}
use Rattle.bcs_tool_answers.specs.declared.job_fault.JobFault.TheVariants as job
use Rattle.bcs_tool_command_line.specs.declared.work.Work.{Work}

-- the text, followed by a line end
abbrev pub line_of : List ℕ → List ℕ
line_of text = text ++ 10 ∷ []

-- the line for a refusal of this name
abbrev pub refusal_line : List ℕ → List ℕ
refusal_line name = line_of (codes "refused: " ++ name)

-- the line for bytes that stop being a value
abbrev pub stop_line : Reason → ℕ → List ℕ
stop_line reason place = refusal_line (reason_name reason ++ codes " at " ++ decimal place)

-- bytes as a line of hexadecimal digits or base64, or raw
abbrev pub printed : Coding → List ℕ → List ℕ
printed coding.Hexadecimal bytes = line_of (encode_lower bytes)
printed coding.Base64 bytes = line_of (given.base64_text bytes)
printed coding.Raw bytes = bytes

-- where bytes are, and how many
abbrev pub range_line : ℕ → ℕ → List ℕ
range_line place count = line_of (decimal place ++ codes " " ++ decimal count)

-- the bytes at a place; or with `--range`, only where they are
abbrev pub printed_part : Bool → Coding → ℕ → List ℕ → List ℕ
printed_part false coded place bytes = printed coded bytes
printed_part true coded place bytes = range_line place (length bytes)

-- what is printed if steps lead nowhere
abbrev pub printed_none : Coding → List ℕ
printed_none coding.Hexadecimal = line_of (codes "none")
printed_none coding.Base64 = line_of (codes "none")
printed_none coding.Raw = []

-- the line for a registry of N containers, and for a value of N bytes
abbrev pub count_line : ℕ → List ℕ
count_line n = line_of (codes "ok " ++ decimal n)

-- nothing comes before a verdict on growth, unless a list of all differences is requested: that is for display, and may be
-- any text
abbrev pub Lists : Bool → List ℕ → Type 0
Lists asked list = asked ≡ false → list ≡ []

-- among refusals, only that of growth has the list before it
abbrev pub lists : Work → JobFault → Bool
lists work (job.Registry fault) = false
lists work (job.Growth fault) = work.options.list
lists work job.BadPath = false

-- the input is within the size limit, if there is one
abbrev pub IsWithin : Work → List ℕ → Type 0
IsWithin work input = is_unlimited work ≡ false → length input ≤ size_limit

-- the job is for this command on values of this format, and its input is within the size limit
pub record IsAsked (work : Work) (input : List ℕ) (asked : Command) (registry : Entries) (s : Shape) : Type 0 where
  pub is_command : work.command ≡ asked
  pub asks : Asks work registry s
  pub within : IsWithin work input

-- the only input of these commands is the text of a value
abbrev pub IsOneText : Command → Type 0
IsOneText asked = (asked ≡ command.Encode) ⊎ (asked ≡ command.Normalise)

-- the input of these commands gives the bytes of a value
abbrev pub TakesBytes : Command → Type 0
TakesBytes asked = (asked ≡ command.Decode) ⊎ (asked ≡ command.Part) ⊎ (asked ≡ command.Explain) ⊎ (asked ≡ command.Scan) ⊎ (asked ≡ command.Which)

-- the job is for this command on this format, and has no input
pub record AsksOfFormat (work : Work) (asked : Command) (registry : Entries) (s : Shape) : Type 0 where
  pub is_command : work.command ≡ asked
  pub is_registry : IsRegistry work.registry.items registry
  pub is_format : IsFormatWord registry (string_bytes work.format) s

-- where scanned bytes stop: they have no value at their front, if only that is requested; otherwise they aren't exactly one
-- value
abbrev pub ScanStops : Bool → Entries → Bounds → Shape → List ℕ → Reason → ℕ → Type 0
ScanStops true = Stops
ScanStops false = StopsAll

-- the answer of `same` to two texts
pub data AnswersTexts (registry : Entries) (limits : Bounds) (s : Shape) (first second : List ℕ) : ℕ → List ℕ → Type 0 where
  -- they denote equal values, or different ones
  equal : Compares registry limits s first second true → AnswersTexts registry limits s first second 0 (line_of (codes "equal"))
  different : Compares registry limits s first second false → AnswersTexts registry limits s first second 1 (line_of (codes "different"))
  -- the first text is refused; or it denotes a value and the second is refused
  first_refused : (fault : JsonFault) → RefusesText registry limits s first fault → AnswersTexts registry limits s first second 2 (refusal_line (json_fault_name fault))
  second_refused : (t : Tree) (fault : JsonFault) → Denotes registry limits s first t → RefusesText registry limits s second fault → AnswersTexts registry limits s first second 2 (refusal_line (json_fault_name fault))

-- one case for each kind of answer
pub data Answers (work : Work) (input : List ℕ) : ℕ → List ℕ → Type 0 where
  -- the arguments are refused, whatever the input; the list comes before a refusal of growth, if it is requested
  refused_early : (fault : JobFault) (list : List ℕ) → RefusesEarly work fault → Lists (lists work fault) list → Answers work input 2 (list ++ refusal_line (job_fault_name fault))
  -- `check`: the number of containers in the registry
  checked : (registry : Entries) → work.command ≡ command.Check → IsRegistry work.registry.items registry → Answers work input 0 (count_line (length registry))
  -- `grows`: the newer registry keeps everything in the older one; the list comes first, if it is requested
  grown : (older newer : Entries) (list : List ℕ) → work.command ≡ command.Grows → IsRegistry work.registry.items older → IsRegistry work.second.items newer → Grows older newer → Lists work.options.list list → Answers work input 0 (list ++ line_of (codes "grows"))
  -- `show`: a text for display; NAME, if it is given, is that of a container
  shown : (registry : Entries) (text : List ℕ) → work.command ≡ command.Show → IsRegistry work.registry.items registry → (NamesNone (name_of work) registry → ⊥) → Answers work input 0 text
  -- `example`: an example for display, or a refusal since there is none. Only that the arguments are valid is specified
  exampled : (registry : Entries) (s : Shape) (status : ℕ) (output : List ℕ) → AsksOfFormat work command.Example registry s → (status ≡ 0) ⊎ (status ≡ 2) → Answers work input status output
  -- `schema`: a text for display, if the arguments are valid
  described : (registry : Entries) (s : Shape) (text : List ℕ) → AsksOfFormat work command.Schema registry s → Answers work input 0 text
  -- `from-move`: the JSON of a well-formed registry; or one of the refusals of `from-move`. Which one is only tested
  made : (registry : Entries) (text : List ℕ) → work.command ≡ command.FromMove → IsRegistry text registry → Answers work input 0 (line_of text)
  unmade : (name : MoveRefusalName) → work.command ≡ command.FromMove → Answers work input 2 (refusal_line (move_refusal_name name))
  -- `encode`: the bytes of the value that the text denotes
  encoded : (registry : Entries) (s : Shape) (bytes : List ℕ) → IsAsked work input command.Encode registry s → HasBytes registry work.limits s input bytes → Answers work input 0 (printed (coding_of work) bytes)
  -- `normalise`: the normal text of that value
  normalised : (registry : Entries) (s : Shape) (text : List ℕ) → IsAsked work input command.Normalise registry s → Normalises registry work.limits s input text → Answers work input 0 (line_of text)
  -- `encode` and `normalise`: the text is refused
  refused : (asked : Command) (registry : Entries) (s : Shape) (fault : JsonFault) → IsOneText asked → IsAsked work input asked registry s → RefusesText registry work.limits s input fault → Answers work input 2 (refusal_line (json_fault_name fault))
  -- `same`: the answer to the job's text and that of the input
  compared : (registry : Entries) (s : Shape) (status : ℕ) (output : List ℕ) → IsAsked work input command.Same registry s → AnswersTexts registry work.limits s work.second.items input status output → Answers work input status output
  -- `diff`: lines for display, if its arguments are valid. Which texts are refused is only tested
  differed : (registry : Entries) (s : Shape) (status : ℕ) (output : List ℕ) → IsAsked work input command.Diff registry s → status < 3 → Answers work input status output
  -- `decode`: the text of the value whose bytes the input gives
  decoded : (registry : Entries) (s : Shape) (bytes text : List ℕ) → IsAsked work input command.Decode registry s → given.GivesBytes (coding_of work) input bytes → ShowsBytes registry work.limits s bytes text → Answers work input 0 (line_of text)
  -- `decode`: the bytes stop being a value at a place
  stopped : (registry : Entries) (s : Shape) (bytes : List ℕ) (reason : Reason) (place : ℕ) → IsAsked work input command.Decode registry s → given.GivesBytes (coding_of work) input bytes → StopsAll registry work.limits s bytes reason place → Answers work input 2 (stop_line reason place)
  -- `decode`: the bytes are a value's, but its text would exceed the nesting limit
  too_nested : (registry : Entries) (s : Shape) (bytes : List ℕ) (c : Tree) → IsAsked work input command.Decode registry s → given.GivesBytes (coding_of work) input bytes → Accepts registry work.limits s bytes (length bytes) c → nesting_limit < depth (value.shown registry c (of s)) → Answers work input 2 (refusal_line (codes "TooNested"))
  -- `explain`: a text for display, if the input gives the bytes of exactly one value
  explained : (registry : Entries) (s : Shape) (bytes text : List ℕ) (c : Tree) → IsAsked work input command.Explain registry s → given.GivesBytes (coding_of work) input bytes → Accepts registry work.limits s bytes (length bytes) c → Answers work input 0 text
  -- `explain`: the bytes stop being a value: a text for display, or if refusals are JSON, the line of the stop
  damaged : (registry : Entries) (s : Shape) (bytes text : List ℕ) (reason : Reason) (place : ℕ) → IsAsked work input command.Explain registry s → given.GivesBytes (coding_of work) input bytes → StopsAll registry work.limits s bytes reason place → (work.options.json_refusals ≡ true → text ≡ stop_line reason place) → Answers work input 2 text
  -- `decode`, `explain`, `part`, `scan` and `which`: the input gives no bytes
  no_bytes : (asked : Command) (registry : Entries) (s : Shape) → TakesBytes asked → IsAsked work input asked registry s → ((bytes : List ℕ) → given.GivesBytes (coding_of work) input bytes → ⊥) → Answers work input 2 (refusal_line (given.input_fault_name (coding_of work)))
  -- `explain --inside`: the bytes of a byte string aren't a value of its format, or such an option is invalid: a text for display
  unopened : (registry : Entries) (s : Shape) (bytes text : List ℕ) → IsAsked work input command.Explain registry s → given.GivesBytes (coding_of work) input bytes → is_some work.options.views ≡ true → Answers work input 2 text
  -- `part`: a value is at the front of the bytes, and the steps of PATH lead to a part of it: the bytes of that part, or of its content
  found : (registry : Entries) (s : Shape) (path : List Step) (bytes : List ℕ) (n : ℕ) (c : Tree) (x : Part) (wanted : List ℕ) → IsAsked work input command.Part registry s → SpellsSteps work.options.notation (string_bytes work.path) path → given.GivesBytes (coding_of work) input bytes → Accepts registry work.limits s bytes n c → part_at registry path (container.of s) c ≡ Some x → printed_bytes work.options.content registry x ≡ Some wanted → Answers work input 0 (printed_part work.options.range (coding_of work) (printed_place work.options.content x) wanted)
  -- `part --content`: that part has no content
  no_content : (registry : Entries) (s : Shape) (path : List Step) (bytes : List ℕ) (n : ℕ) (c : Tree) (x : Part) → IsAsked work input command.Part registry s → SpellsSteps work.options.notation (string_bytes work.path) path → given.GivesBytes (coding_of work) input bytes → Accepts registry work.limits s bytes n c → part_at registry path (container.of s) c ≡ Some x → printed_bytes work.options.content registry x ≡ None → Answers work input 2 (refusal_line (codes "NoContent"))
  -- `part`: the steps lead nowhere in it
  nowhere : (registry : Entries) (s : Shape) (path : List Step) (bytes : List ℕ) (n : ℕ) (c : Tree) → IsAsked work input command.Part registry s → SpellsSteps work.options.notation (string_bytes work.path) path → given.GivesBytes (coding_of work) input bytes → Accepts registry work.limits s bytes n c → part_at registry path (container.of s) c ≡ None → Answers work input 1 (printed_none (coding_of work))
  -- `part`: there is no value at the front of the bytes, since they stop being one at a place
  front_stopped : (registry : Entries) (s : Shape) (bytes : List ℕ) (reason : Reason) (place : ℕ) → IsAsked work input command.Part registry s → given.GivesBytes (coding_of work) input bytes → Stops registry work.limits s bytes reason place → Answers work input 2 (stop_line reason place)
  -- `scan`: a value is at the front of the bytes, and it is all of them unless only the front is requested
  scanned : (registry : Entries) (s : Shape) (bytes : List ℕ) (n : ℕ) (c : Tree) → IsAsked work input command.Scan registry s → given.GivesBytes (coding_of work) input bytes → Accepts registry work.limits s bytes n c → (work.options.front ≡ false → n ≡ length bytes) → Answers work input 0 (count_line n)
  -- `scan`: the bytes stop being a value at a place
  scan_stopped : (registry : Entries) (s : Shape) (bytes : List ℕ) (reason : Reason) (place : ℕ) → IsAsked work input command.Scan registry s → given.GivesBytes (coding_of work) input bytes → ScanStops work.options.front registry work.limits s bytes reason place → Answers work input 2 (stop_line reason place)
  -- `which`: names of containers for display, or that there is none, if the input gives bytes
  sifted : (registry : Entries) (s : Shape) (bytes : List ℕ) (status : ℕ) (text : List ℕ) → IsAsked work input command.Which registry s → given.GivesBytes (coding_of work) input bytes → (status ≡ 0) ⊎ (status ≡ 1) → Answers work input status text
