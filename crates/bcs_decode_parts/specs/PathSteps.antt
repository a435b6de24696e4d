-- The specification's view of a `PathStep`.
use Rattle.std.specs.Prelude.{List, map}
use Rattle.bcs_decode_parts.specs.Parts.{Step, item, inner, key}
use Rattle.bcs_decode_parts.specs.declared.path_step.PathStep.{PathStep}
use Rattle.bcs_decode_parts.specs.declared.path_step.PathStep.TheVariants.{Item, Inner, Key}

-- the step, without the memory that holds its key
abbrev pub spelled : PathStep → Step
spelled (Item n) = item n
spelled Inner = inner
spelled (Key bytes) = key bytes.items

abbrev pub all_spelled : List PathStep → List Step
all_spelled = map spelled
