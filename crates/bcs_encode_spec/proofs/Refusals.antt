-- Each tree is sound or refused, for at most one reason.
use Rattle.bcs_encode_spec.proofs.Prelude.{◌≡◌, Bool, true, false, leb, if◌then◌else◌, Option, Some, None, refl, sym, ◌∙◌, inl, inr, ◌⊎◌, cases_Bool, cases_lt, false≢true, false_from_ne_true, le-leb, lt-leb, Shape, Entries, of, Tree, depth, nodes, fits, distinct, Bounds, strictly_then_loosely, length_limit, lengths_hold, IsSound, RefusesValue, OneRefusal, RefusedOrSound, EncodeFault, NotOfFormat, Unsupported, TooDeep, TooManyNodes, TooLong, RepeatedKey, OutOfMemory}

-- the first reason, from the results of the tests
abbrev first_of_tests : Bool → Bool → Bool → Bool → Bool → Bool → Option EncodeFault
first_of_tests loose strict shallow few short differ =
    if loose then (if strict then (if shallow then (if few then (if short then (if differ then None else Some RepeatedKey) else Some TooLong) else Some TooManyNodes) else Some TooDeep) else Some Unsupported) else Some NotOfFormat

module _ (registry : Entries) (limits : Bounds) (s : Shape) (t : Tree) where
  abbrev first_reason : Option EncodeFault
  first_reason = first_of_tests (fits true registry t (of s)) (fits false registry t (of s)) (leb (depth t) limits.depth)
      (leb (nodes t) limits.nodes) (lengths_hold length_limit registry t (of s)) (distinct t)

  first_if_refused : (e : EncodeFault) → RefusesValue registry limits s t e → first_reason ≡ Some e
  first_if_refused NotOfFormat h = rw (false_from_ne_true _ h) refl
  first_if_refused Unsupported h = rw (h.0, false_from_ne_true _ h.1) refl
  first_if_refused TooDeep h =
      rw (strictly_then_loosely registry s t h.0, h.0, lt-leb (depth t) limits.depth h.1) refl
  first_if_refused TooManyNodes h =
      rw (strictly_then_loosely registry s t h.0, h.0, le-leb (depth t) limits.depth h.1, lt-leb (nodes t) limits.nodes h.2) refl
  first_if_refused TooLong h =
      rw (
        strictly_then_loosely registry s t h.0,
        h.0,
        le-leb (depth t) limits.depth h.1,
        le-leb (nodes t) limits.nodes h.2,
        false_from_ne_true _ h.3,
      ) refl
  first_if_refused RepeatedKey h =
      rw (
        strictly_then_loosely registry s t h.0.fit,
        h.0.fit,
        le-leb (depth t) limits.depth h.0.depth_holds,
        le-leb (nodes t) limits.nodes h.0.nodes_hold,
        h.0.lengths,
        false_from_ne_true _ h.1,
      ) refl
  first_if_refused OutOfMemory h = absurd h

  none_if_sound : IsSound registry limits s t → first_reason ≡ None
  none_if_sound h =
      rw (
        strictly_then_loosely registry s t h.fit,
        h.fit,
        le-leb (depth t) limits.depth h.depth_holds,
        le-leb (nodes t) limits.nodes h.nodes_hold,
        h.lengths,
        h.distinct,
      ) refl

  sound_or_refused : IsSound registry limits s t ⊎ ((e : EncodeFault) × RefusesValue registry limits s t e)
  sound_or_refused = elim (cases_Bool (fits true registry t (of s))) [
    | inr loose ↦ inr (NotOfFormat, λ h. false≢true (sym loose ∙ h))
    | inl loose ↦ elim (cases_Bool (fits false registry t (of s))) [
      | inr strict ↦ inr (Unsupported, (loose, λ h. false≢true (sym strict ∙ h)))
      | inl strict ↦ elim (cases_lt limits.depth (depth t)) [
        | inl deep ↦ inr (TooDeep, (strict, deep))
        | inr shallow ↦ elim (cases_lt limits.nodes (nodes t)) [
          | inl many ↦ inr (TooManyNodes, (strict, shallow, many))
          | inr few ↦ elim (cases_Bool (lengths_hold length_limit registry t (of s))) [
            | inr long ↦ inr (TooLong, (strict, shallow, few, λ h. false≢true (sym long ∙ h)))
            | inl short ↦ elim (cases_Bool (distinct t)) [
              | inr repeated ↦ inr (RepeatedKey, (record { fit = strict; depth_holds = shallow; nodes_hold = few; lengths = short }, λ h. false≢true (sym repeated ∙ h)))
              | inl differ ↦ inl (record { fit = strict; distinct = differ; depth_holds = shallow; nodes_hold = few; lengths = short })
            ]
          ]
        ]
      ]
    ]
  ]

pub one_refusal : OneRefusal
one_refusal registry limits s t a b h g =
    let p : first_reason registry limits s t ≡ Some a = first_if_refused registry limits s t a h in
    let q : first_reason registry limits s t ≡ Some b = first_if_refused registry limits s t b g in
    cc

pub refused_or_sound : RefusedOrSound
refused_or_sound registry limits s t = (
  sound_or_refused registry limits s t,
  λ e h g.
      let p : first_reason registry limits s t ≡ None = none_if_sound registry limits s t h in
      let q : first_reason registry limits s t ≡ Some e = first_if_refused registry limits s t e g in
      absurd cc,
)
