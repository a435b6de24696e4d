-- What a `SystemFile` has done to FILE. Which bytes a real file received isn't known.
use Rattle.std.specs.Prelude.{◌≡◌, ◌⊎◌, ℕ, List, Option, None, Some, false, string_bytes}
use Rattle.bcs_tool.specs.OutputFile.{Stage, beside, emptied, replaced, untouched}
use Rattle.bcs_tool.specs.declared.files.system_file.OpenedFile.{OpenedFile}
use Rattle.bcs_tool.specs.declared.files.system_file.Progress.{Progress}
use Rattle.bcs_tool.specs.declared.files.system_file.Progress.TheVariants.{Beside, Emptied, Replaced}
use Rattle.bcs_tool.specs.declared.files.system_file.SystemFile.{SystemFile}

-- the stage of a file of this name
abbrev pub stage_at : List ℕ → Progress → Stage
stage_at name (Beside is_synced) = beside is_synced name
stage_at name (Replaced is_synced) = replaced is_synced name
stage_at name Emptied = emptied name

abbrev pub opened_stage : OpenedFile → Stage
opened_stage file = stage_at (string_bytes file.name) file.progress

abbrev pub stage_if : Option OpenedFile → Stage
stage_if None = untouched
stage_if (Some file) = opened_stage file

abbrev pub stage_of : SystemFile → Stage
stage_of file = stage_if file.opened

abbrev pub unknown : SystemFile → Option (List ℕ)
unknown file = None

-- it was opened now, under this name
abbrev pub IsFresh : List ℕ → OpenedFile → Type 0
IsFresh name file = (opened_stage file ≡ beside false name) ⊎ (opened_stage file ≡ emptied name)
