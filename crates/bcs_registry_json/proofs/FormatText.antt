-- Formats read from JSON.
use Rattle.bcs_registry_json.proofs.Prelude.{◌≡◌, ◌∙◌, ℕ, List, [], ◌∷◌, Bool, true, false, ◌&&◌, Option, Some, None, Result, IfOk, Global, Vec, bytes_eq, if◌then◌else◌, map, ap, refl, string_bytes, String, sym, option_map, rules, bytes_eq-Decides, list_all, ok_or, view-Array, array, string, items_of, items_view, view, IsTupleText, Shape, format_named, format_words, word_among, word_of, shown_format, all_sizes_fit, sizes_fit, IsFormatText, formats_shapes, shape_of, RegistryFault, Format}
use Rattle.serde_json.specs.declared.value.Value as json
use Rattle.bcs_registry_json.proofs.ShownParts.{format_data, items_formats}

-- ---- names of formats

-- the format found for a name is written as that name
abbrev AreWritten : List (List ℕ × Shape) → Type 0
AreWritten words = (word : List ℕ) (s : Shape) → word_among words word ≡ Some s → IsFormatText (string word) s

written_at : (b : Bool) (word : List ℕ) (entry : List ℕ × Shape) (words : List (List ℕ × Shape)) (s : Shape)
    → bytes_eq word entry.0 ≡ b → IsFormatText (string entry.0) entry.1 → AreWritten words
    → (if b then Some entry.1 else word_among words word) ≡ Some s → IsFormatText (string word) s
written_at true word entry words s same here later h =
    let is : word ≡ entry.0 = (bytes_eq-Decides word entry.0).0 same in
    let shape_is : entry.1 ≡ s = cc in
    record { is = ap string is ∙ here.is ∙ ap shown_format shape_is; sizes = ap sizes_fit (sym shape_is) ∙ here.sizes }
written_at false word entry words s same here later h = later word s h

more_written : (entry : List ℕ × Shape) (words : List (List ℕ × Shape)) → IsFormatText (string entry.0) entry.1 → AreWritten words → AreWritten (entry ∷ words)
more_written entry words here later = λ word s h. written_at (bytes_eq word entry.0) word entry words s refl here later h

-- each name in the list is the JSON of its format
abbrev AllWritten : List (List ℕ × Shape) → Type 0
AllWritten [] = Unit {0}
AllWritten (entry ∷ words) = IsFormatText (string entry.0) entry.1 × AllWritten words

are_written : (words : List (List ℕ × Shape)) → AllWritten words → AreWritten words
are_written [] h = λ word s none. cc
are_written (entry ∷ words) h = more_written entry words h.0 (are_written words h.1)

all_written : AllWritten format_words
unfolding word_of
all_written = search rules

pub word_written : (word : List ℕ) (s : Shape) → format_named word ≡ Some s → IsFormatText (string word) s
word_written = are_written format_words all_written

-- the format that a string names, if any
pub value_word : (v : json.Value) (s : String Global) (word : List ℕ) (found : Option Format) (e : RegistryFault) (r : Result Format RegistryFault)
    → v ≡ json.String s → word ≡ string_bytes s → option_map shape_of found ≡ format_named word → r ≡ ok_or found e → IfOk r (λ f. IsFormatText (view v) (shape_of f))
value_word v s word None e r is same named found = rw found tt
value_word v s word (Some f) e r is same named found =
    let shown : view (json.String s) ≡ string (string_bytes s) = search (rules, json.the_lemmas) in
    let written = word_written word (shape_of f) (sym named) in
    rw found (record { is = ap view is ∙ shown ∙ ap string (sym same) ∙ written.is; sizes = written.sizes })

-- ---- lists

abbrev pub fits_format : Format → Bool
fits_format f = sizes_fit (shape_of f)

all_sizes_fit-row : (fs : List Format) → all_sizes_fit (formats_shapes fs) ≡ list_all fits_format fs
all_sizes_fit-row [] = refl
all_sizes_fit-row (f ∷ fs) = ap (λ b. fits_format f && b) (all_sizes_fit-row fs)

-- a JSON array whose elements were all read as formats
pub tuple_written : (v : json.Value) (row : Vec json.Value Global) (vs : List json.Value) (fs : List Format) → v ≡ json.Array row → vs ≡ row.items
    → items_view vs ≡ items_of (map format_data fs) → list_all fits_format fs ≡ true → IsTupleText (view v) (formats_shapes fs)
tuple_written v row vs fs is same shown fit = record {
  is = ap view is ∙ view-Array row ∙ ap (λ (ys : List json.Value). array (items_view ys)) (sym same) ∙ ap array (shown ∙ items_formats fs);
  sizes = all_sizes_fit-row fs ∙ fit;
}
