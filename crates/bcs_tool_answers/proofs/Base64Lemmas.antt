-- A text is the base64 of exactly one byte string, or it is invalid.
use Rattle.bcs_tool_answers.proofs.Prelude.{◌≡◌, ◌≢◌, ◌∙◌, ◌⊎◌, ◌∷◌, ◌<◌, [], inl, inr, ℕ, zero, suc, List, Result, Ok, Err, IfOk, ap, arith, refl, subst, sym, bytes_eq, cases_Bool, cases_lt, All-nil, All-cons, All-head, All-tail, All-from_get_or, bytes_eq-Decides, decode_of-encode_of, standard, IsBytes, IsConsistent, IsDecodeFailure, IsStrict, encode_of, DecodeAllocError, Failed, DecodeError, GeneralPurpose, AreBytes, IsBase64Of, base64_text}
use Rattle.base64.specs.GeneralPurpose.{decode_of}
use Rattle.base64.specs.declared.decode.DecodeAllocError.TheVariants.{OutOfMemory}

-- the decoder accepts what the encoder writes, and nothing else
pub is_strict : IsStrict standard
is_strict = (refl, refl)

is_consistent : IsConsistent standard
is_consistent = refl

-- combines two facts about a success
pub both_ok : {T E : Type 0} (r : Result T E) (P Q R : T → Type 0) → ((x : T) → P x → Q x → R x) → IfOk r P → IfOk r Q → IfOk r R
both_ok (Ok x) P Q R f h k = f x h k
both_ok (Err e) P Q R f h k = tt

-- ---- bytes

pub are_bytes : (b : List ℕ) → IsBytes b → AreBytes b
are_bytes b is = All-from_get_or (λ x. x < 256) b 0 (λ i within. is i)

is_bytes : (b : List ℕ) → AreBytes b → IsBytes b
is_bytes [] are i = omega arith
is_bytes (x ∷ xs) are zero = All-head (λ y. y < 256) x xs are
is_bytes (x ∷ xs) are (suc i) = is_bytes xs (All-tail (λ y. y < 256) x xs are) i

bytes_or_not : (b : List ℕ) → AreBytes b ⊎ (AreBytes b → ⊥)
bytes_or_not [] = inl (All-nil (λ y. y < 256))
bytes_or_not (x ∷ xs) = elim (cases_lt x 256) [
  | inr over ↦ inr (λ are. let head : x < 256 = All-head (λ y. y < 256) x xs are in omega (arith, head, over))
  | inl below ↦ elim (bytes_or_not xs) [
    | inl rest ↦ inl (All-cons (λ y. y < 256) x xs below rest)
    | inr none ↦ inr (λ are. none (All-tail (λ y. y < 256) x xs are))
  ]
]

-- ---- any engine that accepts what it writes

module _ (e : GeneralPurpose) (consistent : IsConsistent e) where
  abbrev Writes : List ℕ → List ℕ → Type 0
  Writes text b = AreBytes b × (text ≡ encode_of e b)

  reads : (text b : List ℕ) → Writes text b → decode_of e text ≡ Ok b
  reads text b (are, is) = ap (decode_of e) is ∙ decode_of-encode_of e b consistent (is_bytes b are)

  writes_once : (text b c : List ℕ) → Writes text b → Writes text c → b ≡ c
  writes_once text b c h k = let both : Ok b ≡ Ok c = sym (reads text b h) ∙ reads text c k in cc

  writes_or_not : (text : List ℕ) → ((b : List ℕ) × Writes text b) ⊎ ((b : List ℕ) → Writes text b → ⊥)
  writes_or_not text = at (decode_of e text) refl
    where
      tried : (b : List ℕ) → Writes text b ⊎ (Writes text b → ⊥)
      tried b = elim (bytes_or_not b) [
        | inr none ↦ inr (λ h. none h.0)
        | inl are ↦ elim (cases_Bool (bytes_eq text (encode_of e b))) [
          | inl same ↦ inl (are, (bytes_eq-Decides text (encode_of e b)).0 same)
          | inr other ↦ inr (λ h. let same = (bytes_eq-Decides text (encode_of e b)).1 h.1 in cc)
        ]
      ]

      at : (o : Result (List ℕ) DecodeError) → decode_of e text ≡ o → ((b : List ℕ) × Writes text b) ⊎ ((b : List ℕ) → Writes text b → ⊥)
      at (Err d) is = inr (λ b h. let both : Err d ≡ Ok b = sym is ∙ reads text b h in cc)
      at (Ok b) is = elim (tried b) [
        | inl h ↦ inl (b, h)
        | inr none ↦ inr (λ c h. let both : Ok c ≡ Ok b = sym (reads text c h) ∙ is in let same : c ≡ b = cc in none (subst (λ (x : List ℕ). Writes text x) same h))
      ]

  none_read : (text : List ℕ) (f : DecodeAllocError) → IsDecodeFailure e text f → f ≢ OutOfMemory → (b : List ℕ) → Writes text b → ⊥
  none_read text (Failed d) is differs b h = let both : Err d ≡ Ok b = sym is ∙ reads text b h in cc
  none_read text OutOfMemory is differs b h = differs refl

-- ---- the standard engine

pub one_base64 : (text b c : List ℕ) → IsBase64Of text b → IsBase64Of text c → b ≡ c
unfolding base64_text
one_base64 text b c h k = writes_once standard is_consistent text b c h k

pub some_base64 : (text : List ℕ) → ((b : List ℕ) × IsBase64Of text b) ⊎ ((b : List ℕ) → IsBase64Of text b → ⊥)
unfolding base64_text
some_base64 text = writes_or_not standard is_consistent text

pub is_base64 : (text b : List ℕ) → IsBytes b → text ≡ encode_of standard b → IsBase64Of text b
unfolding base64_text
is_base64 text b bytes is = (are_bytes b bytes, is)

pub no_base64 : (text : List ℕ) (f : DecodeAllocError) → IsDecodeFailure standard text f → f ≢ OutOfMemory → (b : List ℕ) → IsBase64Of text b → ⊥
unfolding base64_text
no_base64 text f is differs b h = none_read standard is_consistent text f is differs b h
