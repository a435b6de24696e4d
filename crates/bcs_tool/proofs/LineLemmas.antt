-- Lines of a content, of which the first ones were read.
use Rattle.bcs_tool.proofs.Prelude.{◌≡◌, ◌≢◌, ◌⊎◌, ◌≤◌, ◌<◌, ◌+◌, ◌++◌, ◌∙◌, inl, inr, ℕ, zero, suc, cond, List, [], ◌∷◌, Option, Some, None, ap, append_assoc, append-nil, arith, length, length-append, refl, subst, sym, take, IfSome, All, Consumes, IsAtEnd, All-head, All-tail, take-append-le, ended, HasNoLineFeed, lines_of, onto, lines_of-last, lines_of-line, no_feed_first, no_feed_rest, IsContent, size_limit, StandBefore, AreFirst, IsLongBehind}

-- if lines contain no line feeds, they are the lines of the text that ends each of them with one
ended_lines : (lines : List (List ℕ)) → All HasNoLineFeed lines → lines_of (ended lines) ≡ lines
ended_lines [] plain = refl
ended_lines (l ∷ ls) plain =
    lines_of-line l (ended ls) (All-head HasNoLineFeed l ls plain) ∙ ap (λ (rest : List (List ℕ)). l ∷ rest) (ended_lines ls (All-tail HasNoLineFeed l ls plain))

-- ---- the first line of a text

onto_long : (c n : ℕ) (ls : List (List ℕ)) → (n ≡ 0) ⊎ ((long : List ℕ) × (more : List (List ℕ)) × (ls ≡ long ∷ more) × (n ≤ length long))
    → (long : List ℕ) × (more : List (List ℕ)) × (onto c ls ≡ long ∷ more) × (suc n ≤ length long)
onto_long c n [] (inl none) = (c ∷ [], [], refl, omega (arith, none))
onto_long c n (l ∷ ls) (inl none) = (c ∷ l, ls, refl, omega (arith, none))
onto_long c n ls (inr (long, more, is, within)) = (c ∷ long, more, ap (onto c) is, omega (arith, within))

-- it is at least as long as any prefix of the text that contains no line feed
first_long : (n : ℕ) (text : List ℕ) → suc n ≤ length text → HasNoLineFeed (take (suc n) text)
    → (long : List ℕ) × (more : List (List ℕ)) × (lines_of text ≡ long ∷ more) × (suc n ≤ length long)
first_long n [] within plain = absurd (omega (arith, within))
first_long zero (c ∷ cs) within plain =
    let h = onto_long c 0 (lines_of cs) (inl refl) in
    (h.0, h.1, ap (λ b. cond b ([] ∷ lines_of cs) (onto c (lines_of cs))) (no_feed_first c (take 0 cs) plain) ∙ h.2, h.3)
first_long (suc n) (c ∷ cs) within plain =
    let h = onto_long c (suc n) (lines_of cs) (inr (first_long n cs (omega (arith, within)) (no_feed_rest c (take (suc n) cs) plain))) in
    (h.0, h.1, ap (λ b. cond b ([] ∷ lines_of cs) (onto c (lines_of cs))) (no_feed_first c (take (suc n) cs) plain) ∙ h.2, h.3)

-- ---- what follows the lines that were read

pub stand_nothing : (c : Option (List ℕ)) → StandBefore c c [] []
stand_nothing None = tt
stand_nothing (Some all) = refl

-- a line with its line feed was read
pub stand_line : (c b d : Option (List ℕ)) (lines : List (List ℕ)) (line rest given after : List ℕ) → Consumes b d given
    → rest ++ given ≡ line ++ 10 ∷ after → HasNoLineFeed line → StandBefore c b lines rest → StandBefore c d (lines ++ line ∷ []) after
stand_line None b d lines line rest given after taken parts plain h = tt
stand_line (Some all) None d lines line rest given after taken parts plain h = absurd h
stand_line (Some all) (Some left) None lines line rest given after taken parts plain h = absurd taken
stand_line (Some all) (Some left) (Some more) lines line rest given after taken parts plain h =
    let text : rest ++ left ≡ line ++ 10 ∷ (after ++ more) =
    ap (λ (t : List ℕ). rest ++ t) taken ∙ sym (append_assoc rest given more) ∙ ap (λ (t : List ℕ). t ++ more) parts ∙ append_assoc line (10 ∷ after) more in
    h ∙ ap (λ (t : List ℕ). lines ++ lines_of t) text ∙ ap (λ (ls : List (List ℕ)). lines ++ ls) (lines_of-line line (after ++ more) plain)
    ∙ sym (append_assoc lines (line ∷ []) (lines_of (after ++ more)))

-- the last line was read, which has no line feed
pub stand_last : (c b d : Option (List ℕ)) (lines : List (List ℕ)) (line rest given after : List ℕ) → Consumes b d given → rest ++ given ≡ line
    → after ≡ [] → IsAtEnd d → HasNoLineFeed line → line ≢ [] → StandBefore c b lines rest → StandBefore c d (lines ++ line ∷ []) after
stand_last None b d lines line rest given after taken parts none ends plain some h = tt
stand_last (Some all) None d lines line rest given after taken parts none ends plain some h = absurd h
stand_last (Some all) (Some left) None lines line rest given after taken parts none ends plain some h = absurd taken
stand_last (Some all) (Some left) (Some more) lines line rest given after taken parts none ends plain some h =
    let text : rest ++ left ≡ line = ap (λ (t : List ℕ). rest ++ t) (taken ∙ ap (λ (t : List ℕ). given ++ t) ends ∙ append-nil given) ∙ parts in
    let behind : [] ≡ lines_of (after ++ more) = ap lines_of (ap (λ (t : List ℕ). t ++ []) (sym none) ∙ ap (λ (t : List ℕ). after ++ t) (sym ends)) in
    h ∙ ap (λ (t : List ℕ). lines ++ lines_of t) text ∙ ap (λ (ls : List (List ℕ)). lines ++ ls) (lines_of-last line plain some)
    ∙ sym (append-nil (lines ++ line ∷ [])) ∙ ap (λ (ls : List (List ℕ)). (lines ++ line ∷ []) ++ ls) behind

-- nothing is left, so the lines that were read are all the lines of a content
pub stand_end : (c b d : Option (List ℕ)) (lines : List (List ℕ)) (rest : List ℕ) → Consumes b d [] → rest ≡ [] → IsAtEnd d → All HasNoLineFeed lines
    → StandBefore c b lines rest → (bytes : List ℕ) × IsContent c bytes × (lines_of bytes ≡ lines)
stand_end None b d lines rest taken none ends plain h = (ended lines, tt, ended_lines lines plain)
stand_end (Some all) None d lines rest taken none ends plain h = absurd h
stand_end (Some all) (Some left) None lines rest taken none ends plain h = absurd taken
stand_end (Some all) (Some left) (Some more) lines rest taken none ends plain h =
    let text : rest ++ left ≡ [] = ap (λ (t : List ℕ). t ++ left) none ∙ (taken ∙ ends) in
    (all, refl, h ∙ ap (λ (t : List ℕ). lines ++ lines_of t) text ∙ append-nil lines)

-- lines that were read are the first ones
pub stand_first : (c b : Option (List ℕ)) (lines : List (List ℕ)) (rest : List ℕ) → StandBefore c b lines rest → AreFirst c lines
stand_first None b lines rest h = tt
stand_first (Some all) None lines rest h = absurd h
stand_first (Some all) (Some left) lines rest h = (lines_of (rest ++ left), h)

-- the next line is too long
pub stand_long : (c b d : Option (List ℕ)) (lines : List (List ℕ)) (rest given : List ℕ) → Consumes b d given → size_limit < length (rest ++ given)
    → HasNoLineFeed (take (size_limit + 1) (rest ++ given)) → StandBefore c b lines rest → IfSome c (IsLongBehind (length lines))
stand_long None b d lines rest given taken longer plain h = tt
stand_long (Some all) None d lines rest given taken longer plain h = absurd h
stand_long (Some all) (Some left) None lines rest given taken longer plain h = absurd taken
stand_long (Some all) (Some left) (Some more) lines rest given taken longer plain h =
    let text : rest ++ left ≡ (rest ++ given) ++ more = ap (λ (t : List ℕ). rest ++ t) taken ∙ sym (append_assoc rest given more) in
    let front : take (size_limit + 1) ((rest ++ given) ++ more) ≡ take (size_limit + 1) (rest ++ given) = take-append-le (size_limit + 1) (rest ++ given) more (omega (arith, longer)) in
    let next : size_limit + 1 ≡ suc size_limit = omega arith in
    let plain_front = subst (λ (n : ℕ). HasNoLineFeed (take n ((rest ++ given) ++ more))) next (subst HasNoLineFeed (sym front) plain) in
    let found = first_long size_limit ((rest ++ given) ++ more) (omega (arith, longer, length-append (rest ++ given) more)) plain_front in
    record {
      lines = lines;
      long = found.0;
      more = found.1;
      parts = h ∙ ap (λ (t : List ℕ). lines ++ lines_of t) text ∙ ap (λ (ls : List (List ℕ)). lines ++ ls) found.2;
      many = refl;
      longer = omega (arith, found.3);
    }
