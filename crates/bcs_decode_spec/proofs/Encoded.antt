-- What is accepted is what is encoded.
use Rattle.bcs_decode_spec.proofs.Prelude.{ℕ, List, length, sym, subst, ◌∙◌, arith, take_all, Entries, of, Shape, Tree, Bounds, Same, same-refl, has_one_form, IsSoundAt, Accepts, IsDecoded, StopsAll, Reason, Encodes, AcceptedIsEncoded, EncodedIsAccepted, ExactDecoding}
use Rattle.bcs_decode_spec.proofs.Verdicts.{accepts_once_is, no_two_verdicts_of_all_are}

pub accepted_is_encoded_is : AcceptedIsEncoded
accepted_is_encoded_is = λ registry limits s b c h. record {
  sound = h.sound;
  form = c;
  is_form = record { fit = h.sound.fit; canonical = h.canonical; is_same = same-refl c };
  bytes = sym h.is ∙ take_all (length b) b (omega arith);
}

pub encoded_is_accepted_is : EncodedIsAccepted
encoded_is_accepted_is = λ registry limits s v b h. (
  h.form,
  h.is_form.is_same,
  (let one = has_one_form registry (of s) v h.sound.fit h.sound.distinct in record {
    sound = subst (λ (t : Tree). IsSoundAt registry limits (of s) t) (sym (one.1.only h.form h.is_form)) (one.1.sound limits h.sound);
    canonical = h.is_form.canonical;
    within = omega arith;
    is = take_all (length b) b (omega arith) ∙ sym h.bytes;
  }),
)

pub is_decoded : (registry : Entries) (limits : Bounds) (s : Shape) (b : List ℕ) (c : Tree) → Accepts registry limits s b (length b) c → IsDecoded registry limits s b c
is_decoded registry limits s b c a = record {
  accepted = a;
  encoded = accepted_is_encoded_is registry limits s b c a;
  only = λ v h.
      (let form = encoded_is_accepted_is registry limits s v b h in
      subst (Same v) (accepts_once_is registry limits s b (length b) (length b) form.0 c form.2 a).1 form.1);
}

pub exact_decoding_is : ExactDecoding
exact_decoding_is = λ registry limits s b. (
  (λ h. (let form = encoded_is_accepted_is registry limits s h.0 b h.1 in (form.0, form.2)), λ h. (h.0, accepted_is_encoded_is registry limits s b h.0 h.1)),
  is_decoded registry limits s b,
)

-- an input with a stop isn't the encoding of any value
pub no_encoding_stops : (registry : Entries) (limits : Bounds) (s : Shape) (b : List ℕ) (e : Reason) (o : ℕ) → StopsAll registry limits s b e o → (v : Tree) → Encodes registry limits s v b → ⊥
no_encoding_stops registry limits s b e o k v h =
    let form = encoded_is_accepted_is registry limits s v b h in
    no_two_verdicts_of_all_are registry limits s b form.0 e o form.2 k
