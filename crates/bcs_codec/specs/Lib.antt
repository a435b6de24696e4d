pub use Rattle.bcs_registry.specs.Shape
pub use Rattle.bcs_registry.specs.Container
pub use Rattle.bcs_registry.specs.WellFormed
pub use Rattle.bcs_registry.specs.Grows
pub use Rattle.bcs_registry.specs.Text
pub use Rattle.bcs_display_registry.specs.Shows
pub use Rattle.bcs_value.specs.Tree
pub use Rattle.bcs_value.specs.Fits
pub use Rattle.bcs_value.specs.Same
pub use Rattle.bcs_value.specs.Limits
pub use Rattle.bcs_encode.specs.Plain
pub use Rattle.bcs_encode.specs.Canonical
pub use Rattle.bcs_encode.specs.Sound
pub use Rattle.bcs_encode.specs.Encodes
pub use Rattle.bcs_encode.specs.Refused
pub use Rattle.bcs_encode.specs.Wrote
pub use Rattle.bcs_decode.specs.Accepting
pub use Rattle.bcs_decode.specs.Stopping
pub use Rattle.bcs_decode.specs.Sliced
pub use Rattle.bcs_decode.specs.Whole
pub use Rattle.bcs_decode.specs.Parts
pub use Rattle.bcs_decode.specs.Scanned
pub use Rattle.bcs_explain.specs.Covering
pub use Rattle.bcs_display_pieces.specs.EndsAt
pub use Rattle.bcs_json.specs.Spells
pub use Rattle.bcs_json.specs.Refuses
pub use Rattle.bcs_json.specs.Place
pub use Rattle.bcs_json.specs.Texts
pub use Rattle.bcs_json.specs.Headline
pub use Rattle.bcs_json.specs.Printing
pub use Rattle.bcs_json.specs.Showing
pub use Rattle.bcs_json.specs.Shown
pub use Rattle.bcs_json.specs.JsonContent
pub use Rattle.bcs_registry.specs.View as RegistryView
pub use Rattle.bcs_value.specs.View as ValueView
pub use Rattle.bcs_registry.specs.Laws as RegistryLaws
pub use Rattle.bcs_value.specs.Laws as ValueLaws
pub use Rattle.bcs_encode.specs.Laws as EncodeLaws
pub use Rattle.bcs_decode.specs.Laws as DecodeLaws
pub use Rattle.bcs_json.specs.Laws as JsonLaws
