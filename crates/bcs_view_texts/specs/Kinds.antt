-- The options that ask for views.
use Rattle.std.specs.Prelude.{ℕ, List, [], ◌∷◌, codes, string_bytes}
use Rattle.bcs_view_texts.specs.declared.move_kind.MoveKind.{MoveKind}
use Rattle.bcs_view_texts.specs.declared.move_kind.MoveKind.TheVariants.{Address, Unsigned, Signed}
use Rattle.bcs_view_texts.specs.declared.view_kind.ViewKind.{ViewKind}
use Rattle.bcs_view_texts.specs.declared.view_kind.ViewKind.TheVariants.{Inside, Call, Value}
use Rattle.bcs_view_texts.specs.declared.view_text.ViewText.{ViewText}

abbrev pub move_word : MoveKind → List ℕ
move_word Address = codes "address"
move_word Unsigned = codes "u256"
move_word Signed = codes "i256"

-- the option's name
abbrev pub view_name : ViewKind → List ℕ
view_name Inside = codes "inside"
view_name Call = codes "call"
view_name (Value kind) = move_word kind

-- all of them, in the order in which they are read
abbrev pub view_kinds : List ViewKind
view_kinds = Inside ∷ Call ∷ Value Address ∷ Value Unsigned ∷ Value Signed ∷ []

-- which view a text asks for
abbrev pub asked_of : ViewText → ViewKind × List ℕ
asked_of view = (view.kind, string_bytes view.text)
