-- The result for a text that spells a value: the value that it denotes, or the encoder's reason.
use Rattle.bcs_json_spec.proofs.Prelude.{◌≡◌, ◌≢◌, ℕ, List, Ok, Err, refl, arith, Data, Entries, IsOrderly, Shape, strictly_then_loosely, Bounds, Tree, EncodeFault, fault_of_value, JsonFault, OutOfMemory, of, read_data, IsReadAs, Denotes, SpelledBy, RefusesText}
use Rattle.bcs_encode_spec.specs.Refused as encode
use Rattle.bcs_encode_spec.specs.declared.fault.EncodeFault.TheVariants as fault
use Rattle.bcs_json_spec.proofs.Fitting.{spelled_fits}
use Rattle.bcs_json_spec.proofs.OneAnswer.{misspelled}
use Rattle.bcs_json_spec.proofs.TextLaws.{denoted_is_not_refused}
use Rattle.bcs_json_spec.proofs.Verdict.{exact_data, walk_fault}

module _ (registry : Entries) (limits : Bounds) (s : Shape) (text : List ℕ) where
  -- a value read from the JSON of a text is spelled by the text
  pub read_is_spelled : (d : Data) → IsReadAs text d → (t : Tree) → read_data registry limits.depth (of s) d ≡ Ok t → SpelledBy registry limits s text t
  read_is_spelled d is t told = record { read = d; is = is; spells = (exact_data registry limits.depth (of s) d).ok t told }

  -- if reading fails, the text is refused
  pub stop_is_refusal : (d : Data) → IsReadAs text d → (e : JsonFault) → read_data registry limits.depth (of s) d ≡ Err e → RefusesText registry limits s text e
  stop_is_refusal d is e told =
      let refused = (exact_data registry limits.depth (of s) d).err e told in
      misspelled registry limits s text e (walk_fault registry limits.depth (of s) d e refused) (d, is, refused)

  -- if the encoder refuses a value, a text that spells it is refused for the same reason
  pub refused_value : IsOrderly registry → (t : Tree) → SpelledBy registry limits s text t → (e : EncodeFault) → encode.RefusesValue registry limits s t e → RefusesText registry limits s text (fault_of_value e)
  refused_value orderly t spelled fault.NotOfFormat h = absurd (h (strictly_then_loosely registry s t (spelled_fits registry s spelled.read t orderly spelled.spells.0)))
  refused_value orderly t spelled fault.Unsupported h = absurd (h.1 (spelled_fits registry s spelled.read t orderly spelled.spells.0))
  refused_value orderly t spelled fault.TooDeep h = absurd (omega (arith, h.1, spelled.spells.1))
  refused_value orderly t spelled fault.TooManyNodes h = (t, spelled, h)
  refused_value orderly t spelled fault.TooLong h = (t, spelled, h)
  refused_value orderly t spelled fault.RepeatedKey h = (t, spelled, h)
  refused_value orderly t spelled fault.OutOfMemory h = absurd h

  -- for a text that denotes a value, the only possible fault is `OutOfMemory`
  pub memory_alone : (e : JsonFault) → (e ≢ OutOfMemory → RefusesText registry limits s text e) → (t : Tree) → Denotes registry limits s text t → e ≡ OutOfMemory
  memory_alone OutOfMemory h t d = refl
  memory_alone e h t d = absurd (denoted_is_not_refused registry limits s text t e d (h (λ is. cc)))
