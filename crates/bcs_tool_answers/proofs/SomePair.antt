-- Two texts have an answer.
use Rattle.bcs_tool_answers.proofs.Prelude.{◌⊎◌, inl, inr, ℕ, List, Bool, true, false, bytes_eq, bytes_eq-Decides, Entries, IsOrderly, Shape, Tree, Bounds, compares, Compares, Denotes, RefusesText, JsonFault, text_denotes_or_is_refused, some_bytes, AnswersTexts, different, equal, first_refused, second_refused}

module _ (r : Entries) (limits : Bounds) (f : Shape) where
  -- a text either denotes a value or is refused
  pub validated : IsOrderly r → (text : List ℕ) → ((t : Tree) × Denotes r limits f text t) ⊎ ((e : JsonFault) × RefusesText r limits f text e)
  validated orderly text = (text_denotes_or_is_refused r limits f text orderly).some

  module _ (first second : List ℕ) where
    abbrev pub Answered : Type 0
    Answered = (status : ℕ) × (output : List ℕ) × AnswersTexts r limits f first second status output

    -- two texts that denote values are equal or different
    two_values : (answer : Bool) → Compares r limits f first second answer → Answered
    two_values true h = (_, _, equal h)
    two_values false h = (_, _, different h)

    pub some_pair : IsOrderly r → Answered
    some_pair orderly = elim (validated orderly first) [
      | inr h ↦ (_, _, first_refused h.0 h.1)
      | inl one ↦ elim (validated orderly second) [
        | inr h ↦ (_, _, second_refused one.0 h.0 one.1 h.1)
        | inl other ↦
            let ours = some_bytes r limits f first one.0 one.1 in
            let theirs = some_bytes r limits f second other.0 other.1 in
            two_values (bytes_eq ours.0 theirs.0)
            (compares r limits f first second ours.0 theirs.0 (bytes_eq ours.0 theirs.0) ours.1 theirs.1 (bytes_eq-Decides ours.0 theirs.0))
      ]
    ]
