-- Rewriting what was appended, and combining it step by step.
use Rattle.bcs_encode_impl.proofs.Prelude.{◌≡◌, ℕ, ◌<◌, List, length, true, ◌⊎◌, inl, inr, Ok, Err, IfOk, Option, Some, None, refl, sym, ap, subst, ◌∙◌, IfSome, Entries, Verdict, chain, RepeatedKey, Appends, Continues, Keeps, TakesWhatFits, is_told, is_complete, told, verdict_at, Output, Extent, Rising, Sorting, Repeated, Incomplete}

-- ---- verdicts, one after another

pub chain_chain : (x : Verdict) (f g : List ℕ → Verdict) → chain (chain x f) g ≡ chain x (λ b. chain (f b) g)
chain_chain (Ok b) f g = refl
chain_chain (Err e) f g = refl

pub chain_same : (x : Verdict) (f g : List ℕ → Verdict) → ((b : List ℕ) → f b ≡ g b) → chain x f ≡ chain x g
chain_same (Ok b) f g same = same b
chain_same (Err e) f g same = refl

pub chain_end : (x : Verdict) (f : List ℕ → Verdict) → ((b : List ℕ) → f b ≡ Ok b) → chain x f ≡ x
chain_end (Ok b) f same = same b
chain_end (Err e) f same = refl

-- ---- extents

pub told_cases : (x : Extent) → is_told x ≡ true → (is_complete x ≡ true) ⊎ (x ≡ Repeated)
told_cases Rising is = inl refl
told_cases Sorting is = inl refl
told_cases Repeated is = inr refl
told_cases Incomplete is = absurd cc

whole_at : (x : Extent) (b : List ℕ) → is_complete x ≡ true → verdict_at x b ≡ Ok b
whole_at Rising b is = refl
whole_at Sorting b is = refl
whole_at Repeated b is = absurd cc
whole_at Incomplete b is = absurd cc

whole_is_told : (x : Extent) → is_complete x ≡ true → is_told x ≡ true
whole_is_told Rising is = refl
whole_is_told Sorting is = refl
whole_is_told Repeated is = absurd cc
whole_is_told Incomplete is = absurd cc

pub whole_told : (o : Output) → is_complete o.extent ≡ true → told o ≡ Ok o.bytes.items
whole_told o is = whole_at o.extent o.bytes.items is

pub is_whole_told : (o : Output) → is_complete o.extent ≡ true → is_told o.extent ≡ true
is_whole_told o is = whole_is_told o.extent is

pub same_whole : (x y : Extent) → x ≡ y → is_complete x ≡ true → is_complete y ≡ true
same_whole x y e is = subst (λ (z : Extent). is_complete z ≡ true) e is

-- ---- steps

pub keeps_on : (a b c : Output) → Keeps a b → Keeps b c → Keeps a c
keeps_on a b c f g = (f.0, λ whole. let q = g.1 whole in let p = f.1 (same_whole c.extent b.extent q.0 whole) in (q.0 ∙ p.0, q.1 ∙ p.1))

pub then_appends : (old middle new : Output) (first rest w : List ℕ → Verdict) → ((b : List ℕ) → w b ≡ chain (first b) rest)
    → Appends old middle first → Appends middle new rest → Appends old new w
then_appends old middle new first rest w same f g = λ is.
    let q = g is in
    let p = f q.1.0 in
    (chain_same (told old) w (λ b. chain (first b) rest) same ∙ sym (chain_chain (told old) first rest) ∙ ap (λ (u : Verdict). chain u rest) p.0 ∙ q.0, keeps_on old middle new p.1 q.1)

pub as_well : (old new : Output) (v w : List ℕ → Verdict) → ((b : List ℕ) → w b ≡ v b) → Appends old new v → Appends old new w
as_well old new v w same h = λ is. let p = h is in (chain_same (told old) w v same ∙ p.0, p.1)

pub along : (o : Option ℕ) (old new : Output) (v w : List ℕ → Verdict) → ((b : List ℕ) → w b ≡ v b)
    → IfSome o (λ x. Appends old new v) → IfSome o (λ x. Appends old new w)
along None old new v w same h = tt
along (Some m) old new v w same h = as_well old new v w same h

pub after : (o : Option ℕ) (old middle new : Output) (first rest w : List ℕ → Verdict) → ((b : List ℕ) → w b ≡ chain (first b) rest)
    → Appends old middle first → IfSome o (λ x. Appends middle new rest) → IfSome o (λ x. Appends old new w)
after None old middle new first rest w same f h = tt
after (Some m) old middle new first rest w same f h = then_appends old middle new first rest w same f h

pub some_appends : (o : Option ℕ) (old new : Output) (v : List ℕ → Verdict) → Appends old new v → IfSome o (λ x. Appends old new v)
some_appends None old new v h = tt
some_appends (Some m) old new v h = h

-- what an integer appends doesn't depend on the registry
pub at_one_registry : (o : Option ℕ) (registry : Entries) (P : Entries → Type 0) → IfSome o (λ x. (r : Entries) → P r) → IfSome o (λ x. P registry)
at_one_registry None registry P h = tt
at_one_registry (Some m) registry P h = h registry

-- ---- lists: the beginning, the next element, and the end

pub begins : (first : Output) (all rest : List ℕ → Verdict) → ((b : List ℕ) → all b ≡ rest b) → Continues first first all rest
begins first all rest same = λ is. (chain_same (told first) all rest same, (is, λ _. (refl, refl)))

pub goes_on : (first now new : Output) (all rest v more : List ℕ → Verdict) → ((b : List ℕ) → rest b ≡ chain (v b) more)
    → Continues first now all rest → Appends now new v → Continues first new all more
goes_on first now new all rest v more same f g = λ is.
    let q = g is in
    let p = f q.1.0 in
    (p.0 ∙ chain_same (told now) rest (λ b. chain (v b) more) same ∙ sym (chain_chain (told now) v more) ∙ ap (λ (u : Verdict). chain u more) q.0, keeps_on first now new p.1 q.1)

pub ends : (first now : Output) (all rest : List ℕ → Verdict) → ((b : List ℕ) → rest b ≡ Ok b) → Continues first now all rest → Appends first now all
ends first now all rest same f = λ is. let p = f is in (p.0 ∙ chain_end (told now) rest same, p.1)

-- ---- one step of an output

pub repeated_told : (o : Output) → o.extent ≡ Repeated → told o ≡ Err RepeatedKey
repeated_told o is = ap (λ (x : Extent). verdict_at x o.bytes.items) is

-- ---- the contents at the end

pub whole_written : (old new : Output) (v : List ℕ → Verdict) → Appends old new v → is_complete new.extent ≡ true → v old.bytes.items ≡ Ok new.bytes.items
whole_written old new v h whole =
    let p = h (is_whole_told new whole) in
    let old_whole = same_whole new.extent old.extent (p.1.1 whole).0 whole in
    ap (λ (u : Verdict). chain u v) (sym (whole_told old old_whole)) ∙ p.0 ∙ whole_told new whole

pub repeated_written : (old new : Output) (v : List ℕ → Verdict) → is_complete old.extent ≡ true → Appends old new v → new.extent ≡ Repeated → v old.bytes.items ≡ Err RepeatedKey
repeated_written old new v old_whole h repeated =
    let p = h (ap is_told repeated) in
    ap (λ (u : Verdict). chain u v) (sym (whole_told old old_whole)) ∙ p.0 ∙ repeated_told new repeated

-- replaces what is appended by something equal
pub fits_as_well : (old new : Output) (v w : List ℕ → Verdict) → ((b : List ℕ) → w b ≡ v b) → TakesWhatFits old new v → TakesWhatFits old new w
fits_as_well old new v w same h =
    (h.0, h.1, λ whole off. subst (λ (u : Verdict). IfOk u (λ b. old.bytes.capacity < length b)) (sym (same old.bytes.items)) (h.2 whole off))
