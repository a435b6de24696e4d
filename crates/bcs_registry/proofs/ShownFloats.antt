-- The JSON of a registry contains no float.
use Rattle.bcs_registry.proofs.Prelude.{◌≡◌, ℕ, List, [], ◌∷◌, false, Ordering, Less, Equal, Greater, refl, or_parts, or_from, slice_cmp, nat_cmp, match_ordering, Data, Members, no_members, member, put, has_float, items_have_float, members_have_float, Field, Payload, Choice, Container, Entries, unit_struct, newtype_struct, tuple_struct, field_struct, enumeration, Shape, option, seq, map_of, tuple, array, Shapes, no_shapes, shape, single, shown_format, shown_formats, shown_struct, shown_payload, shown_choices, shown_container, shown_containers, shown_registry}
use Rattle.std.specs.Fmt.{decimal}
use Rattle.bcs_registry_model.specs.Container as container

no_float-put_at : (o : Ordering) (k l : List ℕ) (d e : Data) (ms : Members) → has_float d ≡ false → members_have_float (member l e ms) ≡ false → members_have_float (put k d ms) ≡ false
    → members_have_float (match_ordering o (member k d (member l e ms)) (member l d ms) (member l e (put k d ms))) ≡ false
no_float-put_at Less k l d e ms p h q = rw p h
no_float-put_at Equal k l d e ms p h q = rw p (or_parts (has_float e) (members_have_float ms) h).1
no_float-put_at Greater k l d e ms p h q = or_from (has_float e) (members_have_float (put k d ms)) (or_parts (has_float e) (members_have_float ms) h).0 q

-- putting a member without a float among others without one
pub no_float-put : (k : List ℕ) (d : Data) (ms : Members) → has_float d ≡ false → members_have_float ms ≡ false → members_have_float (put k d ms) ≡ false
no_float-put k d no_members p h = rw p refl
no_float-put k d (member l e ms) p h = no_float-put_at (slice_cmp nat_cmp k l) k l d e ms p h (no_float-put k d ms p (or_parts (has_float e) (members_have_float ms) h).1)

mutual
  no_float-format : (s : Shape) → has_float (shown_format s) ≡ false
  no_float-format (option s) = rw (no_float-format s) refl
  no_float-format (seq s) = rw (no_float-format s) refl
  no_float-format (map_of k v) = rw (no_float-format k, no_float-format v) refl
  no_float-format (tuple ss) = rw (no_float-formats ss) refl
  no_float-format (array s n) = rw (no_float-format s) refl
  no_float-format _ = refl

  no_float-formats : (ss : Shapes) → items_have_float (shown_formats ss) ≡ false
  no_float-formats no_shapes = refl
  no_float-formats (shape s ss) = rw (no_float-format s) (no_float-formats ss)

no_float-fields : (fs : List Field) → items_have_float (shown_struct fs) ≡ false
no_float-fields [] = refl
no_float-fields (f ∷ fs) = rw (no_float-format f.1) (no_float-fields fs)

no_float-payload : (p : Payload) → has_float (shown_payload p) ≡ false
no_float-payload container.unit = refl
no_float-payload (container.newtype s) = rw (no_float-format s) refl
no_float-payload (container.tuple ss) = rw (no_float-formats ss) refl
no_float-payload (container.fields fs) = rw (no_float-fields fs) refl

no_float-choices : (cs : List Choice) → members_have_float (shown_choices cs) ≡ false
no_float-choices [] = refl
no_float-choices (c ∷ cs) = no_float-put (decimal c.0) (single c.1.0 (shown_payload c.1.1)) (shown_choices cs) (rw (no_float-payload c.1.1) refl) (no_float-choices cs)

no_float-container : (c : Container) → has_float (shown_container c) ≡ false
no_float-container unit_struct = refl
no_float-container (newtype_struct s) = rw (no_float-format s) refl
no_float-container (tuple_struct ss) = rw (no_float-formats ss) refl
no_float-container (field_struct fs) = rw (no_float-fields fs) refl
no_float-container (enumeration cs) = rw (no_float-choices cs) refl

no_float-containers : (es : Entries) → members_have_float (shown_containers es) ≡ false
no_float-containers [] = refl
no_float-containers (e ∷ es) = rw (no_float-container e.1) (no_float-containers es)

pub no_float-shown : (registry : Entries) → has_float (shown_registry registry) ≡ false
no_float-shown registry = no_float-containers registry
