-- Which bytes of a part are printed, and where they are.
use Rattle.std.specs.Prelude.{◌≡◌, ◌+◌, ℕ, List, length, Bool, true, false, Option, Some, None, Result, Ok, Err}
use Rattle.bcs_registry_model.specs.Container.{Entries}
use Rattle.bcs_encode_spec.specs.Plain.{plain}
use Rattle.bcs_decode_parts.specs.Parts as parts
use Rattle.bcs_decode_parts.specs.declared.part.Part.{Part}
use Rattle.bcs_part_names.specs.Contents.{content_bytes, length_bytes}
use Rattle.bcs_part_names.specs.declared.contents.NoContent.{NoContent}

-- the part's own bytes; or with `--content`, those of its content, if it has one
abbrev pub printed_bytes : Bool → Entries → parts.Part → Option (List ℕ)
printed_bytes false registry x = Some (plain registry x.value x.content)
printed_bytes true registry x = content_bytes x.content x.value

-- where they begin: with `--content`, behind the length
abbrev pub printed_place : Bool → parts.Part → ℕ
printed_place false x = x.place
printed_place true x = x.place + length (length_bytes x.content x.value)

-- the result is these bytes at this place; or `NoContent`, if and only if there are none
abbrev pub GivesBytesAt : ℕ → Option (List ℕ) → Result (Option Part) NoContent → Type 0
GivesBytesAt place (Some bytes) (Ok (Some r)) = (r.place ≡ place) × (r.bytes.now ≡ bytes)
GivesBytesAt place (Some bytes) (Ok None) = ⊥
GivesBytesAt place (Some bytes) (Err e) = ⊥
GivesBytesAt place None (Ok r) = ⊥
GivesBytesAt place None (Err e) = Unit {0}

-- the same for a part that may not exist: the result is `None`, if and only if it doesn't
abbrev pub GivesPrinted : Bool → Entries → Option parts.Part → Result (Option Part) NoContent → Type 0
GivesPrinted content registry None (Ok None) = Unit {0}
GivesPrinted content registry None (Ok (Some r)) = ⊥
GivesPrinted content registry None (Err e) = ⊥
GivesPrinted content registry (Some x) r = GivesBytesAt (printed_place content x) (printed_bytes content registry x) r
