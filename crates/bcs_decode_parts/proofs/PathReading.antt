-- Reads the steps of a path, one part of the word at a time.
use Rattle.bcs_decode_parts.proofs.Prelude.{◌≡◌, ◌≢◌, ◌∙◌, ◌++◌, ℕ, List, [], ◌∷◌, Option, Some, None, ap, codes, refl, subst, sym, AlwaysYields, AllZip, append-nil, Step, SpellsNoPath, SpellsPath, SpellsStep}
use Rattle.std.proofs.lemmas.List.{append_assoc}
use Rattle.bcs_decode_parts.proofs.Parts.{one_more, part_spells, parts, parts_spell, spelled_by_parts}

module _ {S A : Type 0} (steps : S → Option A → S → Type 0) (text_of : A → List ℕ) where
  -- the parts read so far spell `path`; the others are still to come
  pub record IsRead (word : List ℕ) (s : S) (path : List Step) : Type 0 where
    pub come : List (List ℕ)
    pub left : List (List ℕ)
    pub are_parts : parts word ≡ come ++ left
    pub spells : AllZip SpellsStep come path
    pub yields : AlwaysYields steps text_of s left

  module _ (word : List ℕ) where
    pub begins : (s : S) → AlwaysYields steps text_of s (parts word) → IsRead word s []
    begins s yields = record { come = []; left = parts word; are_parts = refl; spells = tt; yields = yields }

    module _ (s t : S) (path : List Step) (come : List (List ℕ)) (spelled : AllZip SpellsStep come path) where
      more : (text : A) (step : Step) → steps s (Some text) t → SpellsStep (text_of text) step
          → (left : List (List ℕ)) → parts word ≡ come ++ left → AlwaysYields steps text_of s left → IsRead word t (path ++ step ∷ [])
      more text step k is [] e yields = absurd (yields text t k)
      more text step k is (next ∷ left) e yields =
          let at = yields.1 text t k in
          record {
            come = come ++ text_of text ∷ [];
            left = left;
            are_parts = e ∙ ap (λ (y : List ℕ). come ++ y ∷ left) (sym at.0) ∙ sym (append_assoc come (text_of text ∷ []) left);
            spells = one_more come path (text_of text) step spelled is;
            yields = at.1;
          }

      last : steps s None t → (left : List (List ℕ)) → parts word ≡ come ++ left → AlwaysYields steps text_of s left → SpellsPath word path
      last k [] e yields =
          let all : parts word ≡ come = e ∙ append-nil come in
          parts_spell word path (subst (λ (texts : List (List ℕ)). AllZip SpellsStep texts path) (sym all) spelled)
      last k (next ∷ left) e yields = absurd (yields.0 t k)

      none : (text : A) → steps s (Some text) t → ((step : Step) → SpellsStep (text_of text) step → ⊥) → word ≢ codes "."
          → (left : List (List ℕ)) → parts word ≡ come ++ left → AlwaysYields steps text_of s left → SpellsNoPath word
      none text k bad other [] e yields path spells = absurd (yields text t k)
      none text k bad other (next ∷ left) e yields [] spells = other spells
      none text k bad other (next ∷ left) e yields (first ∷ rest) spells =
          let at = yields.1 text t k in
          let is : parts word ≡ come ++ text_of text ∷ left = e ∙ ap (λ (y : List ℕ). come ++ y ∷ left) (sym at.0) in
          let each = subst (λ (texts : List (List ℕ)). AllZip SpellsStep texts (first ∷ rest)) is (spelled_by_parts word first rest spells) in
          let found = part_spells come (text_of text) left (first ∷ rest) each in
          bad found.0 found.1

    -- the next part spells a step
    pub goes_on : (s t : S) (path : List Step) (text : A) (step : Step) → IsRead word s path → steps s (Some text) t
        → SpellsStep (text_of text) step → IsRead word t (path ++ step ∷ [])
    goes_on s t path text step h k is = more s t path h.come h.spells text step k is h.left h.are_parts h.yields

    -- no part is left
    pub ends : (s t : S) (path : List Step) → IsRead word s path → steps s None t → SpellsPath word path
    ends s t path h k = last s t path h.come h.spells k h.left h.are_parts h.yields

    -- the next part doesn't spell a step
    pub stops : (s t : S) (path : List Step) (text : A) → IsRead word s path → steps s (Some text) t
        → ((step : Step) → SpellsStep (text_of text) step → ⊥) → word ≢ codes "." → SpellsNoPath word
    stops s t path text h k bad other = none s t path h.come h.spells text k bad other h.left h.are_parts h.yields
