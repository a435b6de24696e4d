-- Equal values and equal bytes, normal forms that are stable, and bytes that survive a round trip.
use Rattle.bcs_json_spec.proofs.Prelude.{◌≡◌, ◌∙◌, ℕ, List, sym, ap, subst, compact_text, Entries, Shape, same-refl, Bounds, Tree, bytes_decide_same, forms_same, Encodes, IsForm, accepted_is_encoded_is, of, HasBytes, EqualValuesEqualBytes, NormalTextIsStable, ShownBytesComeBack, shown, Denotes}
use Rattle.bcs_registry_model.specs.Container as container
use Rattle.bcs_json_spec.proofs.TextLaws.{denotes_once}

-- the bytes of a text are those of the value that it denotes
encoded : (registry : Entries) (limits : Bounds) (s : Shape) (text : List ℕ) (v : Tree) (b : List ℕ) → Denotes registry limits s text v → HasBytes registry limits s text b → Encodes registry limits s v b
encoded registry limits s text v b d h = subst (λ t. Encodes registry limits s t b) (denotes_once registry limits s text h.value v h.denoted d) h.encoded

pub equal_values_equal_bytes : EqualValuesEqualBytes
equal_values_equal_bytes registry limits s first second v w b c d e g h =
    bytes_decide_same registry limits s v w b c (encoded registry limits s first v b d g) (encoded registry limits s second w c e h)

pub normal_text_is_stable : NormalTextIsStable
normal_text_is_stable registry limits s text out again n m =
    let is : m.value ≡ n.form = denotes_once registry limits s out m.value n.form m.denoted n.again in
    let own : IsForm registry (container.of s) n.form m.form = subst (λ t. IsForm registry (container.of s) t m.form) is m.is_form in
    let same : n.form ≡ m.form = forms_same registry (container.of s) n.value n.form n.form m.form n.is_form own n.is_form.is_same in
    m.is ∙ ap (λ t. compact_text (shown registry t (of s))) (sym same) ∙ sym n.is

pub shown_bytes_come_back : ShownBytesComeBack
shown_bytes_come_back registry limits s bytes text again h =
    let own : Encodes registry limits s h.value bytes = accepted_is_encoded_is registry limits s bytes h.value h.accepted in (
      record { value = h.value; denoted = h.denoted; encoded = own },
      λ other.
          sym ((bytes_decide_same registry limits s h.value h.value bytes again own (encoded registry limits s text h.value again h.denoted other)).0 (same-refl h.value)),
    )
