-- The steps of a path, as text, are the parts of its word between slashes.
use Rattle.bcs_decode_parts.proofs.Prelude.{◌≡◌, ◌≢◌, ◌∙◌, ◌++◌, ◌==◌, ℕ, List, [], ◌∷◌, ap, arith, codes, get_or, length, refl, subst, sym, AllZip, join_with_byte, slice_split, join_with_byte-slice_split, length-slice_split, slice_split_at, slice_split_none, Step, item, inner, key, SpellsPath, SpellsStep, OnePath}
use Rattle.bcs_decode_parts.proofs.Steps.{HasNoSlash, begins_with_digit, has_no_slash, one_step}

-- the parts of a word between slashes
abbrev pub parts : List ℕ → List (List ℕ)
parts = slice_split (λ b. b == 47)

abbrev pub HaveNoSlash : List (List ℕ) → Type 0
HaveNoSlash [] = Unit {0}
HaveNoSlash (text ∷ texts) = HasNoSlash text × HaveNoSlash texts

have_no_slash : (texts : List (List ℕ)) (path : List Step) → AllZip SpellsStep texts path → HaveNoSlash texts
have_no_slash [] path h = tt
have_no_slash (text ∷ texts) [] h = absurd h
have_no_slash (text ∷ texts) (s ∷ path) h = (has_no_slash text s h.0, have_no_slash texts path h.1)

parts_of_joined : (text : List ℕ) (texts : List (List ℕ)) → HaveNoSlash (text ∷ texts) → parts (join_with_byte 47 (text ∷ texts)) ≡ text ∷ texts
parts_of_joined text [] h = slice_split_none _ text h.0
parts_of_joined text (next ∷ texts) h =
    slice_split_at _ text 47 (join_with_byte 47 (next ∷ texts)) h.0 refl ∙ ap (λ (ts : List (List ℕ)). text ∷ ts) (parts_of_joined next texts h.1)

-- ---- if a word spells steps, its parts are their texts

pub spelled_by_parts : (word : List ℕ) (s : Step) (path : List Step) → SpellsPath word (s ∷ path) → AllZip SpellsStep (parts word) (s ∷ path)
spelled_by_parts word s path ([], is, each) = absurd each
spelled_by_parts word s path (text ∷ texts, is, each) =
    let same : parts word ≡ text ∷ texts = ap parts is ∙ parts_of_joined text texts (have_no_slash (text ∷ texts) (s ∷ path) each) in
    subst (λ (ts : List (List ℕ)). AllZip SpellsStep ts (s ∷ path)) (sym same) each

-- a word spells the steps that its parts spell
pub parts_spell : (word : List ℕ) (path : List Step) → AllZip SpellsStep (parts word) path → SpellsPath word path
parts_spell word [] h = absurd (some (parts word) (omega (arith, length-slice_split (λ b. b == 47) word)) h)
  where
    some : (ts : List (List ℕ)) → length ts ≢ 0 → AllZip SpellsStep ts [] → ⊥
    some [] long each = long refl
    some (t ∷ ts) long each = each
parts_spell word (s ∷ path) h = (parts word, sym (join_with_byte-slice_split 47 word), h)

-- ---- one path

one_each : (texts : List (List ℕ)) (path other : List Step) → AllZip SpellsStep texts path → AllZip SpellsStep texts other → path ≡ other
one_each [] [] [] h k = refl
one_each (text ∷ texts) (s ∷ path) (t ∷ other) h k =
    let first : s ≡ t = one_step text s t h.0 k.0 in
    let rest : path ≡ other = one_each texts path other h.1 k.1 in cc
one_each [] (s ∷ path) other h k = absurd h
one_each [] [] (t ∷ other) h k = absurd k
one_each (text ∷ texts) [] other h k = absurd h
one_each (text ∷ texts) (s ∷ path) [] h k = absurd k

-- `.` isn't a step
no_point : (s : Step) → SpellsStep (codes ".") s → ⊥
no_point (item n) h = omega (arith, begins_with_digit n 46 [] h.1 h.0)
no_point inner h = let long : 1 ≡ 5 = ap length h in omega (arith, long)
no_point (key bytes) h = let first : 46 ≡ 107 = ap (λ (xs : List ℕ). get_or xs 0 0) h.1 in omega (arith, first)

not_both : (word : List ℕ) (s : Step) (path : List Step) → word ≡ codes "." → SpellsPath word (s ∷ path) → ⊥
not_both word s path is h = no_point s (subst (λ (w : List ℕ). AllZip SpellsStep (parts w) (s ∷ path)) is (spelled_by_parts word s path h)).0

pub one_path : OnePath
one_path word [] [] h k = refl
one_path word [] (t ∷ other) h k = absurd (not_both word t other h k)
one_path word (s ∷ path) [] h k = absurd (not_both word s path k h)
one_path word (s ∷ path) (t ∷ other) h k =
    one_each (parts word) (s ∷ path) (t ∷ other) (spelled_by_parts word s path h) (spelled_by_parts word t other k)

-- ---- reading a word part by part

pub one_more : (texts : List (List ℕ)) (path : List Step) (text : List ℕ) (s : Step) → AllZip SpellsStep texts path → SpellsStep text s
    → AllZip SpellsStep (texts ++ text ∷ []) (path ++ s ∷ [])
one_more [] [] text s h k = (k, tt)
one_more (t ∷ texts) (p ∷ path) text s h k = (h.0, one_more texts path text s h.1 k)
one_more [] (p ∷ path) text s h k = absurd h
one_more (t ∷ texts) [] text s h k = absurd h

-- each part of a word that spells a path spells a step
pub part_spells : (texts : List (List ℕ)) (text : List ℕ) (rest : List (List ℕ)) (path : List Step) → AllZip SpellsStep (texts ++ text ∷ rest) path → (s : Step) × SpellsStep text s
part_spells [] text rest (s ∷ path) h = (s, h.0)
part_spells [] text rest [] h = absurd h
part_spells (t ∷ texts) text rest (s ∷ path) h = part_spells texts text rest path h.1
part_spells (t ∷ texts) text rest [] h = absurd h
