-- A document has at most one least fault, and none if it represents something well-formed.
use Rattle.bcs_registry.proofs.Prelude.{◌≡◌, ◌∙◌, ◌&&◌, ℕ, List, Bool, true, false, ap, if◌then◌else◌, refl, subst, sym, true≢false, Data, Breaks, FormatBreaks, Entries, IsLeastFault, IsLeastFormatFault, IsJson, Shape, is_format, is_registry, IsFormatText, IsRegistryText, WritesFormat, WritesRegistry, OneFault, OneFormatFault, IsWellFormed, has_few_levels, is_known, levels_hold, names_differ, names_known, RegistryFault, BadNumber, BadShape, NotJson, OutOfMemory, RepeatedName, TooNested, UnknownName, and-true_parts}
use Rattle.bcs_registry.proofs.OneText.{same_format, same_json, same_registry}
use Rattle.bcs_registry.proofs.ShownShape.{format_shaped, registry_shaped}

contradicts : (b : Bool) → b ≡ true → b ≡ false → ⊥
contradicts b h i = true≢false (sym h ∙ i)

-- ---- the kinds of documents: a document has at most one of them

data Verdict : Type 0 where
  unread : Verdict
  misshapen : Verdict
  misnumbered : Verdict
  written : Verdict

-- the kind of a document, from the loose and the strict test of its shape
module _ (A : Type 0) (Writes : Data → A → Type 0) (test : Bool → Data → Bool) (shaped : (loose : Bool) (d : Data) (a : A) → Writes d a → test loose d ≡ true) (text : List ℕ) where
  abbrev Is : Verdict → Type 0
  Is unread = (d : Data) → ¬ IsJson text d
  Is misshapen = (d : Data) × IsJson text d × (test true d ≡ false)
  Is misnumbered = (d : Data) × IsJson text d × (test true d ≡ true) × (test false d ≡ false)
  Is written = (a : A) × ((d : Data) × IsJson text d × Writes d a)

  same_test : (loose : Bool) (d e : Data) → IsJson text d → IsJson text e → test loose d ≡ true → test loose e ≡ false → ⊥
  same_test loose d e is other h i = contradicts (test loose e) (ap (test loose) (sym (same_json text d e is other)) ∙ h) i

  apart : (v w : Verdict) → Is v → Is w → v ≡ w
  apart unread unread h i = refl
  apart unread misshapen h i = absurd (h i.0 i.1)
  apart unread misnumbered h i = absurd (h i.0 i.1)
  apart unread written h i = absurd (h i.1.0 i.1.1)
  apart misshapen unread h i = absurd (i h.0 h.1)
  apart misshapen misshapen h i = refl
  apart misshapen misnumbered h i = absurd (same_test true i.0 h.0 i.1 h.1 i.2 h.2)
  apart misshapen written h i = absurd (same_test true i.1.0 h.0 i.1.1 h.1 (shaped true i.1.0 i.0 i.1.2) h.2)
  apart misnumbered unread h i = absurd (i h.0 h.1)
  apart misnumbered misshapen h i = absurd (same_test true h.0 i.0 h.1 i.1 h.2 i.2)
  apart misnumbered misnumbered h i = refl
  apart misnumbered written h i = absurd (same_test false i.1.0 h.0 i.1.1 h.1 (shaped false i.1.0 i.0 i.1.2) h.3)
  apart written unread h i = absurd (i h.1.0 h.1.1)
  apart written misshapen h i = absurd (same_test true h.1.0 i.0 h.1.1 i.1 (shaped true h.1.0 h.0 h.1.2) i.2)
  apart written misnumbered h i = absurd (same_test false h.1.0 i.0 h.1.1 i.1 (shaped false h.1.0 h.0 h.1.2) i.3)
  apart written written h i = refl

abbrev verdict_of : RegistryFault → Verdict
verdict_of NotJson = unread
verdict_of BadShape = misshapen
verdict_of BadNumber = misnumbered
verdict_of _ = written

-- ---- registries

shaped_registry : (loose : Bool) (d : Data) (r : Entries) → IsRegistryText d r → is_registry loose d ≡ true
shaped_registry loose d r is = ap (is_registry loose) is.is ∙ registry_shaped loose r is.orderly.containers

abbrev RegistryIs : List ℕ → Verdict → Type 0
RegistryIs = Is Entries IsRegistryText (λ loose. is_registry loose) shaped_registry

validated : (text : List ℕ) (e : RegistryFault) → IsLeastFault text e → RegistryIs text (verdict_of e)
validated text NotJson h = h
validated text BadShape h = h
validated text BadNumber h = h
validated text TooNested h = (h.0, h.1)
validated text RepeatedName h = (h.0, h.1)
validated text UnknownName h = (h.0, h.1)
validated text OutOfMemory h = absurd h

-- the first rule that is broken, if one is
first_break : Entries → RegistryFault
first_break r = if levels_hold r then (if names_differ r then UnknownName else RepeatedName) else TooNested

is_first : (r : Entries) (e : RegistryFault) → Breaks r e → first_break r ≡ e
unfolding first_break
is_first r TooNested h = rw h refl
is_first r RepeatedName h = rw (h.0, h.1) refl
is_first r UnknownName h = rw (h.0, h.1) refl
is_first r NotJson h = absurd h
is_first r BadShape h = absurd h
is_first r BadNumber h = absurd h
is_first r OutOfMemory h = absurd h

-- what a fault implies for a document that represents a registry
broken : (text : List ℕ) (e : RegistryFault) → verdict_of e ≡ written → IsLeastFault text e → (r : Entries) × WritesRegistry text r × Breaks r e
broken text TooNested is h = h
broken text RepeatedName is h = h
broken text UnknownName is h = h
broken text NotJson is h = absurd cc
broken text BadShape is h = absurd cc
broken text BadNumber is h = absurd cc
broken text OutOfMemory is h = absurd h

one_break : (text : List ℕ) (e f : RegistryFault) → verdict_of e ≡ written → verdict_of f ≡ written → IsLeastFault text e → IsLeastFault text f → e ≡ f
one_break text e f is other h i =
    let a = broken text e is h in
    let b = broken text f other i in
    sym (is_first a.0 e a.2) ∙ ap first_break (same_registry text a.0 b.0 a.1 b.1) ∙ is_first b.0 f b.2

-- the kind determines the fault, unless the document represents something
told : (e f : RegistryFault) → verdict_of e ≡ verdict_of f → (verdict_of e ≡ written → e ≡ f) → e ≡ f
told NotJson NotJson same rest = refl
told BadShape BadShape same rest = refl
told BadNumber BadNumber same rest = refl
told TooNested f same rest = rest refl
told RepeatedName f same rest = rest refl
told UnknownName f same rest = rest refl
told OutOfMemory f same rest = rest refl
told NotJson _ same rest = absurd cc
told BadShape _ same rest = absurd cc
told BadNumber _ same rest = absurd cc

keeps_rules : (r : Entries) (e : RegistryFault) → IsWellFormed r → Breaks r e → ⊥
keeps_rules r e well h = at e (and-true_parts (levels_hold r) (names_differ r) parts.0) parts.1 h
  where
    parts : ((levels_hold r && names_differ r) ≡ true) × (names_known r ≡ true)
    parts = and-true_parts (levels_hold r && names_differ r) (names_known r) well

    at : (e : RegistryFault) → (levels_hold r ≡ true) × (names_differ r ≡ true) → names_known r ≡ true → Breaks r e → ⊥
    at TooNested p k h = contradicts (levels_hold r) p.0 h
    at RepeatedName p k h = contradicts (names_differ r) p.1 h.1
    at UnknownName p k h = contradicts (names_known r) k h.2
    at NotJson p k h = h
    at BadShape p k h = h
    at BadNumber p k h = h
    at OutOfMemory p k h = h

pub one_fault : OneFault
one_fault = (
  λ text e f h i.
      let same = apart Entries IsRegistryText (λ loose. is_registry loose) shaped_registry text (verdict_of e) (verdict_of f) (validated text e h) (validated text f i) in
      told e f same (λ is. one_break text e f is (sym same ∙ is) h i),
  λ text r e writes well h.
      let is = apart Entries IsRegistryText (λ loose. is_registry loose) shaped_registry text (verdict_of e) written (validated text e h) (r, writes) in
      let a = broken text e is h in
      keeps_rules r e well (subst (λ (q : Entries). Breaks q e) (same_registry text a.0 r a.1 writes) a.2),
)

-- ---- formats

shaped_format : (loose : Bool) (d : Data) (s : Shape) → IsFormatText d s → is_format loose d ≡ true
shaped_format loose d s is = ap (is_format loose) is.is ∙ format_shaped loose s is.sizes

module _ (registry : Entries) (text : List ℕ) where
  format_validated : (e : RegistryFault) → IsLeastFormatFault registry text e → Is Shape IsFormatText (λ loose. is_format loose) shaped_format text (verdict_of e)
  format_validated NotJson h = h
  format_validated BadShape h = h
  format_validated BadNumber h = h
  format_validated TooNested h = (h.0, h.1)
  format_validated RepeatedName h = absurd h
  format_validated UnknownName h = (h.0, h.1)
  format_validated OutOfMemory h = absurd h

  format_broken : (e : RegistryFault) → verdict_of e ≡ written → IsLeastFormatFault registry text e → (s : Shape) × WritesFormat text s × FormatBreaks registry s e
  format_broken TooNested is h = h
  format_broken UnknownName is h = h
  format_broken RepeatedName is h = absurd h
  format_broken NotJson is h = absurd cc
  format_broken BadShape is h = absurd cc
  format_broken BadNumber is h = absurd cc
  format_broken OutOfMemory is h = absurd h

  first_format_break : Shape → RegistryFault
  first_format_break s = if has_few_levels s then UnknownName else TooNested

  is_first_format : (s : Shape) (e : RegistryFault) → FormatBreaks registry s e → first_format_break s ≡ e
  unfolding first_format_break
  is_first_format s TooNested h = rw h refl
  is_first_format s UnknownName h = rw h.0 refl
  is_first_format s RepeatedName h = absurd h
  is_first_format s NotJson h = absurd h
  is_first_format s BadShape h = absurd h
  is_first_format s BadNumber h = absurd h
  is_first_format s OutOfMemory h = absurd h

  one_format_break : (e f : RegistryFault) → verdict_of e ≡ written → verdict_of f ≡ written → IsLeastFormatFault registry text e → IsLeastFormatFault registry text f → e ≡ f
  one_format_break e f is other h i =
      let a = format_broken e is h in
      let b = format_broken f other i in
      sym (is_first_format a.0 e a.2) ∙ ap first_format_break (same_format text a.0 b.0 a.1 b.1) ∙ is_first_format b.0 f b.2

  keeps_format_rules : (s : Shape) (e : RegistryFault) → (has_few_levels s ≡ true) × (is_known registry s ≡ true) → FormatBreaks registry s e → ⊥
  keeps_format_rules s TooNested p h = contradicts (has_few_levels s) p.0 h
  keeps_format_rules s UnknownName p h = contradicts (is_known registry s) p.1 h.1
  keeps_format_rules s RepeatedName p h = h
  keeps_format_rules s NotJson p h = h
  keeps_format_rules s BadShape p h = h
  keeps_format_rules s BadNumber p h = h
  keeps_format_rules s OutOfMemory p h = h

pub one_format_fault : OneFormatFault
one_format_fault = (
  λ registry text e f h i.
      let same = apart Shape IsFormatText (λ loose. is_format loose) shaped_format text (verdict_of e) (verdict_of f) (format_validated registry text e h) (format_validated registry text f i) in
      told e f same (λ is. one_format_break registry text e f is (sym same ∙ is) h i),
  λ registry text s e writes admitted h.
      let is = apart Shape IsFormatText (λ loose. is_format loose) shaped_format text (verdict_of e) written (format_validated registry text e h) (s, writes) in
      let a = format_broken registry text e is h in
      keeps_format_rules registry text s e (and-true_parts (has_few_levels s) (is_known registry s) admitted)
      (subst (λ (t : Shape). FormatBreaks registry t e) (same_format text a.0 s a.1 writes) a.2),
)
