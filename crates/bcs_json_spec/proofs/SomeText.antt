-- Every value that a text denotes has bytes and a normal form as text; every value that bytes encode has a text, within
-- the nesting limit.
use Rattle.bcs_json_spec.proofs.Prelude.{⊤, ◌≤◌, ℕ, List, length, arith, refl, depth, compact_text, Entries, Shape, IsWellFormed, WritesRegistry, Bounds, Tree, has_one_form, IsSound, Accepts, HasBytes, Normalises, ShowsBytes, of, shown, Denotes, SpelledBy, nesting_limit}
use Rattle.bcs_registry_model.specs.Container as container
use Rattle.bcs_encode_spec.specs.Plain.{plain}
use Rattle.bcs_json_spec.proofs.Printed.{form_is_sound, form_nests, shown_denotes}
use Rattle.bcs_json_spec.proofs.ShownText.{shown_writable}
use Rattle.bcs_json_spec.proofs.Utf8Names.{written_names}
use Rattle.bcs_json_spec.proofs.WrittenBack.{text_is_json}

-- what a text denotes has bytes, those of its canonical form
pub some_bytes : (registry : Entries) (limits : Bounds) (s : Shape) (text : List ℕ) (t : Tree) → Denotes registry limits s text t → (b : List ℕ) × HasBytes registry limits s text b
some_bytes registry limits s text t denoted =
    let one = has_one_form registry (container.of s) t denoted.sound.fit denoted.sound.distinct in (
      plain registry one.0 (container.of s),
      record { value = t; denoted = denoted; encoded = record { sound = denoted.sound; form = one.0; is_form = one.1.is_form; bytes = refl } },
    )

-- in a well-formed registry that was read from a text
module _ (written : List ℕ) (registry : Entries) (limits : Bounds) (s : Shape) (writes : WritesRegistry written registry) (well : IsWellFormed registry) where
  -- the compact text of a sound value's JSON denotes the value
  pub compact_denotes : (c : Tree) → IsSound registry limits s c → depth (shown registry c (of s)) ≤ nesting_limit → Denotes registry limits s (compact_text (shown registry c (of s))) c
  compact_denotes c sound low =
      let json = text_is_json (shown registry c (of s)) (shown_writable ⊤ registry (λ p. written_names written registry writes) s c sound.fit) (omega (arith, low)) in
      shown_denotes registry limits s well writes.2.orderly c sound (compact_text (shown registry c (of s))) json low

  -- what a text denotes has a normal form
  pub some_normal_text : (text : List ℕ) (t : Tree) → Denotes registry limits s text t → (out : List ℕ) × Normalises registry limits s text out
  some_normal_text text t denoted =
      let one = has_one_form registry (container.of s) t denoted.sound.fit denoted.sound.distinct in
      let form = one.0 in
      let is_form = one.1.is_form in
      let spelled : SpelledBy registry limits s text t = record { read = denoted.read; is = denoted.is; spells = (denoted.spells, denoted.sound.depth_holds) } in
      let low = form_nests registry limits s well writes.2.orderly text t form spelled is_form in (
        compact_text (shown registry form (of s)),
        record {
          value = t;
          denoted = denoted;
          form = form;
          is_form = is_form;
          is = refl;
          again = compact_denotes form (form_is_sound registry limits s well writes.2.orderly t form denoted.sound is_form) low;
        },
      )

  -- the bytes of a value have a text, if its JSON is within the nesting limit
  pub some_shown_text : (b : List ℕ) (c : Tree) → Accepts registry limits s b (length b) c → depth (shown registry c (of s)) ≤ nesting_limit → (text : List ℕ) × ShowsBytes registry limits s b text
  some_shown_text b c accepted low =
      (compact_text (shown registry c (of s)), record { value = c; accepted = accepted; is = refl; denoted = compact_denotes c accepted.sound low })
