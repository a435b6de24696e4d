-- A text that `json` refuses isn't JSON.
use Rattle.std.specs.Prelude.{◌↔◌, IsTrue, IsSome}
use Rattle.bcs_json_tokens.proofs.Prelude.{◌≡◌, ◌∙◌, OnTrue, not, subst, ◌∷◌, ℕ, List, [], Some, None, Option, Bool, true, false, option_and_then, refl, ap, sym, arith, none-some, Token, value, tokens, Data, of_json}
use Rattle.json.specs.Json as json
use Rattle.json.specs.Json.{document, if_last}
use Rattle.bcs_registry_json.specs.Json.{IsNotJson}
use Rattle.bcs_json_tokens.proofs.Deeper.{deeper}

last_is : (j : json.Json) (r : List Token) (k : json.Json) → if_last j r ≡ Some k → r ≡ []
last_is j [] k h = refl
last_is j (t ∷ r) k h = absurd (none-some k h)

at_127 : (text : List ℕ) (o : Option (json.Json × List Token)) (d : Data) → value 127 (tokens text) ≡ o → option_and_then of_json (option_and_then (λ p. if_last p.0 p.1) o) ≡ Some d → (j : json.Json) × (document text ≡ Some j)
at_127 text None d is h = absurd (none-some d h)
at_127 text (Some (j, [])) d is h = (j, ap (option_and_then (λ p. if_last p.0 p.1)) (deeper 127 128 (omega arith) (tokens text) (j, []) is))
at_127 text (Some (j, t ∷ r)) d is h = absurd (none-some d h)

pub invalid : (text : List ℕ) → document text ≡ None → IsNotJson text
invalid text none d h = let p = at_127 text (value 127 (tokens text)) d refl h.1 in absurd (none-some p.0 (sym none ∙ p.1))

absent : (o : Option json.Json) (IsIt : Type 0) → (IsIt → ⊥) → IsIt ↔ IsSome o → o ≡ None
absent None IsIt never h = refl
absent (Some j) IsIt never h = absurd (never (h.1 refl))

pub not_valid : (valid : Bool) (text all : List ℕ) → text ≡ all → IsTrue valid ↔ IsSome (document text) → OnTrue (not valid) (IsNotJson all)
not_valid true text all same h = tt
not_valid false text all same h = subst IsNotJson same (invalid text (absent (document text) (IsTrue false) (λ k. cc) h))
