-- The names of parts: which steps a name has, whatever the format is.
use Rattle.std.specs.Prelude.{◌+◌, ◌==◌, ◌||◌, ◌&&◌, ◌^◌, ◌++◌, nat_lt, ℕ, zero, suc, List, [], ◌∷◌, is_some, length, take, drop, Bool, true, false, Option, Some, None, Result, Ok, Err, codes, if◌then◌else◌}
use Rattle.std.specs.Fmt.{decimal}
use Rattle.std.specs.Str.{bytes_eq}
use Rattle.std.specs.Str.Parse.{digits_value}
use Rattle.hex.specs.Hex.{decode_of, encode_lower}
use Rattle.hex.specs.declared.error.FromHexError.{FromHexError}
use Rattle.bcs_part_labels.specs.Labels.{is_mark}

-- a step of a name. For a field or a variant, it has the label: the text that is printed for its name
pub data NameStep : Type 0 where
  field : List ℕ → NameStep
  variant : List ℕ → NameStep
  inside : NameStep
  item : ℕ → NameStep
  -- to the value of the entry whose encoded key is these bytes
  key : List ℕ → NameStep
  -- to the value of the entry with this number, from 0
  entry_value : ℕ → NameStep
  -- to the key of the entry with this number. No path leads there
  entry_key : ℕ → NameStep

-- ---- printing

-- `.LABEL`, `::LABEL`, `?`, `[NUMBER]`, `[key:DIGITS]`, `[value NUMBER]` and `[key NUMBER]`
abbrev pub step_text : NameStep → List ℕ
step_text (field label) = 46 ∷ label
step_text (variant label) = 58 ∷ 58 ∷ label
step_text inside = 63 ∷ []
step_text (item n) = 91 ∷ (decimal n ++ 93 ∷ [])
step_text (key bytes) = 91 ∷ ((codes "key:" ++ encode_lower bytes) ++ 93 ∷ [])
step_text (entry_value n) = 91 ∷ ((codes "value " ++ decimal n) ++ 93 ∷ [])
step_text (entry_key n) = 91 ∷ ((codes "key " ++ decimal n) ++ 93 ∷ [])

abbrev pub steps_text : List NameStep → List ℕ
steps_text [] = []
steps_text (s ∷ steps) = step_text s ++ steps_text steps

-- the whole value is `.`
abbrev pub name_text : List NameStep → List ℕ
name_text [] = codes "."
name_text (s ∷ steps) = steps_text (s ∷ steps)

-- ---- reading

-- how many bytes there are before the first mark
abbrev pub plain_len : List ℕ → ℕ
plain_len [] = 0
plain_len (c ∷ cs) = if is_mark c then 0 else plain_len cs + 1

-- the index of the first `"` that no `\` escapes, if `n` bytes come before the text, and an open `\` if `after`
abbrev pub closing : ℕ → Bool → List ℕ → Option ℕ
closing n after [] = None
closing n true (c ∷ cs) = closing (n + 1) false cs
closing n false (c ∷ cs) = if c == 34 then Some n else closing (n + 1) (c == 92) cs

abbrev pub quoted_len : Option ℕ → ℕ
quoted_len None = 0
quoted_len (Some n) = n + 2

-- how many bytes the label at the start of the text has: up to a mark, or in quotes; 0 if there is none
abbrev pub label_len : List ℕ → ℕ
label_len [] = 0
label_len (c ∷ cs) = if c == 34 then quoted_len (closing 0 false cs) else plain_len (c ∷ cs)

-- a step with the label at the start of the text, and the text after it
abbrev pub cut : (List ℕ → NameStep) → List ℕ → ℕ → Option (NameStep × List ℕ)
cut make text n = if n == 0 then None else Some (make (take n text), drop n text)

abbrev pub labelled : (List ℕ → NameStep) → List ℕ → Option (NameStep × List ℕ)
labelled make text = cut make text (label_len text)

-- a plain decimal number below 2^64
abbrev pub number_of : List ℕ → Option ℕ
number_of text = if bytes_eq text (decimal (digits_value 10 text)) && nat_lt (digits_value 10 text) (2 ^ 64)
    then Some (digits_value 10 text) else None

abbrev pub numbered : (ℕ → NameStep) → Option ℕ → Option NameStep
numbered make None = None
numbered make (Some n) = Some (make n)

-- the bytes of a key, if these are their hexadecimal digits in lower case
abbrev pub exact_key : List ℕ → Result (List ℕ) FromHexError → Option NameStep
exact_key text (Ok bytes) = if bytes_eq text (encode_lower bytes) then Some (key bytes) else None
exact_key text (Err fault) = None

abbrev pub key_of : List ℕ → Option NameStep
key_of text = exact_key text (decode_of text)

abbrev pub in_brackets : List ℕ → Option NameStep
in_brackets text =
    if bytes_eq (take 4 text) (codes "key:") then key_of (drop 4 text)
    else if bytes_eq (take 6 text) (codes "value ") then numbered entry_value (number_of (drop 6 text))
    else if bytes_eq (take 4 text) (codes "key ") then numbered entry_key (number_of (drop 4 text))
    else numbered item (number_of text)

abbrev pub followed_by : List ℕ → Option NameStep → Option (NameStep × List ℕ)
followed_by rest None = None
followed_by rest (Some s) = Some (s, rest)

-- how many bytes there are before the first `]`
abbrev pub closed_len : List ℕ → ℕ
closed_len [] = 0
closed_len (c ∷ cs) = if c == 93 then 0 else closed_len cs + 1

abbrev pub bracketed : List ℕ → Option (NameStep × List ℕ)
bracketed text =
    if nat_lt (closed_len text) (length text) then followed_by (drop (closed_len text + 1) text) (in_brackets (take (closed_len text) text)) else None

abbrev pub coloned : List ℕ → Option (NameStep × List ℕ)
coloned [] = None
coloned (c ∷ cs) = if c == 58 then labelled variant cs else None

-- the first step of the text, and the text after it
abbrev pub head_step : List ℕ → Option (NameStep × List ℕ)
head_step [] = None
head_step (c ∷ cs) =
    if c == 46 then labelled field cs
    else if c == 58 then coloned cs
    else if c == 63 then Some (inside, cs)
    else if c == 91 then bracketed cs
    else None

abbrev pub before_all : NameStep → Option (List NameStep) → Option (List NameStep)
before_all s None = None
before_all s (Some steps) = Some (s ∷ steps)

-- the first step, and the steps after it
abbrev pub then_steps : (List ℕ → Option (List NameStep)) → Option (NameStep × List ℕ) → Option (List NameStep)
then_steps next None = None
then_steps next (Some r) = before_all r.0 (next r.1)

abbrev pub steps_by : (List ℕ → Option (List NameStep)) → List ℕ → Option (List NameStep)
steps_by next [] = Some []
steps_by next (c ∷ cs) = then_steps next (head_step (c ∷ cs))

-- all steps of a text of at most `n` bytes
unfoldable pub steps_within : ℕ → List ℕ → Option (List NameStep)
steps_within zero text = steps_by (λ rest. None) text
steps_within (suc n) text = steps_by (steps_within n) text

abbrev pub steps_of : List ℕ → Option (List NameStep)
steps_of text = steps_within (length text) text

-- the steps of a name, if it is one
abbrev pub name_steps : List ℕ → Option (List NameStep)
name_steps [] = None
name_steps (c ∷ cs) = if bytes_eq (c ∷ cs) (codes ".") then Some [] else steps_of (c ∷ cs)

abbrev pub is_name : List ℕ → Bool
is_name text = is_some (name_steps text)
