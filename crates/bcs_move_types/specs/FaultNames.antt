-- The names of refusals, as they are printed.
use Rattle.std.specs.Prelude.{ℕ, List, codes}
use Rattle.bcs_move_types.specs.declared.refusal.MoveRefusalName.{MoveRefusalName}
use Rattle.bcs_move_types.specs.declared.refusal.MoveRefusalName.TheVariants as move

abbrev pub move_refusal_name : MoveRefusalName → List ℕ
move_refusal_name move.NotJson = codes "NotJson"
move_refusal_name move.RepeatedMember = codes "RepeatedMember"
move_refusal_name move.NotModules = codes "NotModules"
move_refusal_name move.ChainError = codes "ChainError"
move_refusal_name move.MixedChains = codes "MixedChains"
move_refusal_name move.RepeatedName = codes "RepeatedName"
move_refusal_name move.BadType = codes "BadType"
move_refusal_name move.MissingModule = codes "MissingModule"
move_refusal_name move.UnknownName = codes "UnknownName"
move_refusal_name move.WrongCount = codes "WrongCount"
move_refusal_name move.NoBytes = codes "NoBytes"
move_refusal_name move.UnknownVariants = codes "UnknownVariants"
move_refusal_name move.NotStandard = codes "NotStandard"
move_refusal_name move.TooLarge = codes "TooLarge"
