-- Views that name no byte string.
use Rattle.std.specs.Prelude.{◌≡◌, []}
use Rattle.bcs_display_pieces.specs.declared.views.Views.{Views}

abbrev pub IsPlain : Views → Type 0
IsPlain views = (views.insides.items ≡ []) × (views.calls.items ≡ [])
