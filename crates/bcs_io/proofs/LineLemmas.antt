-- The lines of a text, from its first line and the rest.
use Rattle.bcs_io.proofs.Prelude.{◌≡◌, ◌≢◌, ◌⊎◌, ℕ, ◌==◌, true, false, ◌||◌, cond, List, [], ◌∷◌, ◌++◌, refl, sym, ap, ◌∙◌, inl, inr, subst, cases_Bool, eqb-true, All, list_any, All-nil, All-cons, All-head, All-tail, lines_of, onto, HasNoLineFeed, ended, LinesGiveTextBack, LinesHaveNoLineFeed}

-- if no byte is a line feed, the first one isn't
pub no_feed_first : (c : ℕ) (cs : List ℕ) → HasNoLineFeed (c ∷ cs) → (c == 10) ≡ false
no_feed_first c cs plain = elim (c == 10) as (λ b. (b || list_any (λ d. d == 10) cs) ≡ false → b ≡ false) [ true ↦ λ h. h | false ↦ λ _. refl ] plain

pub no_feed_rest : (c : ℕ) (cs : List ℕ) → HasNoLineFeed (c ∷ cs) → HasNoLineFeed cs
no_feed_rest c cs plain = elim (c == 10) as (λ b. (b || list_any (λ d. d == 10) cs) ≡ false → list_any (λ d. d == 10) cs ≡ false) [ true ↦ λ h. (cc) | false ↦ λ h. h ] plain

lines_of-other : (c : ℕ) (cs : List ℕ) → (c == 10) ≡ false → lines_of (c ∷ cs) ≡ onto c (lines_of cs)
lines_of-other c cs other = ap (λ b. cond b ([] ∷ lines_of cs) (onto c (lines_of cs))) other

-- a line, its line feed, and what follows
pub lines_of-line : (line rest : List ℕ) → HasNoLineFeed line → lines_of (line ++ 10 ∷ rest) ≡ line ∷ lines_of rest
lines_of-line [] rest plain = refl
lines_of-line (c ∷ cs) rest plain =
    lines_of-other c (cs ++ 10 ∷ rest) (no_feed_first c cs plain) ∙ ap (onto c) (lines_of-line cs rest (no_feed_rest c cs plain))

-- a last line without a line feed
pub lines_of-last : (line : List ℕ) → HasNoLineFeed line → line ≢ [] → lines_of line ≡ line ∷ []
lines_of-last [] plain some = absurd (some refl)
lines_of-last (c ∷ []) plain some = lines_of-other c [] (no_feed_first c [] plain)
lines_of-last (c ∷ d ∷ ds) plain some =
    lines_of-other c (d ∷ ds) (no_feed_first c (d ∷ ds) plain) ∙ ap (onto c) (lines_of-last (d ∷ ds) (no_feed_rest c (d ∷ ds) plain) (λ e. (cc)))

-- prepending a byte to the first line prepends it to the joined text
ended-onto : (c : ℕ) (ls : List (List ℕ)) (text : List ℕ) → (ended ls ≡ text) ⊎ (ended ls ≡ text ++ 10 ∷ [])
    → (ls ≡ [] → text ≡ []) → (ended (onto c ls) ≡ c ∷ text) ⊎ (ended (onto c ls) ≡ c ∷ (text ++ 10 ∷ []))
ended-onto c [] text is none = inr (ap (λ (t : List ℕ). c ∷ (t ++ 10 ∷ [])) (sym (none refl)))
ended-onto c (l ∷ ls) text (inl is) none = inl (ap (λ (t : List ℕ). c ∷ t) is)
ended-onto c (l ∷ ls) text (inr is) none = inr (ap (λ (t : List ℕ). c ∷ t) is)

onto-some : (c : ℕ) (ls : List (List ℕ)) → onto c ls ≡ [] → ⊥
onto-some c [] e = cc
onto-some c (l ∷ ls) e = cc

-- only the empty text has no lines
lines_of-none : (text : List ℕ) → lines_of text ≡ [] → text ≡ []
lines_of-none [] e = refl
lines_of-none (c ∷ cs) e =
    absurd (elim (c == 10) as (λ b. cond b ([] ∷ lines_of cs) (onto c (lines_of cs)) ≡ [] → ⊥) [ true ↦ λ h. (cc) | false ↦ λ h. onto-some c (lines_of cs) h ] e)

pub lines_give_text_back : LinesGiveTextBack
lines_give_text_back [] = inl refl
lines_give_text_back (c ∷ cs) = elim (cases_Bool (c == 10)) [
  | inl feed ↦ let is : lines_of (c ∷ cs) ≡ [] ∷ lines_of cs = ap (λ b. cond b ([] ∷ lines_of cs) (onto c (lines_of cs))) feed in
      let first : ended (lines_of (c ∷ cs)) ≡ c ∷ ended (lines_of cs) = ap ended is ∙ ap (λ (d : ℕ). d ∷ ended (lines_of cs)) (sym (eqb-true c 10 feed)) in
      elim (lines_give_text_back cs) [
        | inl same ↦ inl (first ∙ ap (λ (t : List ℕ). c ∷ t) same)
        | inr same ↦ inr (first ∙ ap (λ (t : List ℕ). c ∷ t) same)
      ]
  | inr other ↦ let is = ap ended (lines_of-other c cs other) in
      elim (ended-onto c (lines_of cs) cs (lines_give_text_back cs) (lines_of-none cs)) [
        | inl same ↦ inl (is ∙ same)
        | inr same ↦ inr (is ∙ same)
      ]
]

-- prepending a byte that isn't a line feed
plain-onto : (c : ℕ) (ls : List (List ℕ)) → (c == 10) ≡ false → All HasNoLineFeed ls → All HasNoLineFeed (onto c ls)
plain-onto c [] other all = All-cons HasNoLineFeed (c ∷ []) [] (ap (λ b. b || false) other) (All-nil HasNoLineFeed)
plain-onto c (l ∷ ls) other all =
    All-cons HasNoLineFeed (c ∷ l) ls (ap (λ b. b || list_any (λ d. d == 10) l) other ∙ All-head HasNoLineFeed l ls all) (All-tail HasNoLineFeed l ls all)

pub lines_have_no_line_feed : LinesHaveNoLineFeed
lines_have_no_line_feed [] = All-nil HasNoLineFeed
lines_have_no_line_feed (c ∷ cs) = elim (cases_Bool (c == 10)) [
  | inl feed ↦ let is : lines_of (c ∷ cs) ≡ [] ∷ lines_of cs = ap (λ b. cond b ([] ∷ lines_of cs) (onto c (lines_of cs))) feed in
      subst (All HasNoLineFeed) (sym is) (All-cons HasNoLineFeed [] (lines_of cs) refl (lines_have_no_line_feed cs))
  | inr other ↦ subst (All HasNoLineFeed) (sym (lines_of-other c cs other)) (plain-onto c (lines_of cs) other (lines_have_no_line_feed cs))
]
