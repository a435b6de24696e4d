-- JSON strings as strings, and hexadecimal strings for a fixed number of bytes.
use Rattle.bcs_json_reader.proofs.Prelude.{◌≡◌, ◌∙◌, ℕ, List, length, String, Vec, Global, string_bytes, Bool, true, Result, Ok, Err, IfOk, IfErr, if◌then◌else◌, ◌==◌, ap, sym, rules, is_utf8, Decides-eqb, IsUtf8-string_bytes, is_utf8-from_IsUtf8, string, view, json_lemmas, Tree, Trees, text, items, count, tree_of, items_trees, Value, the_lemmas, JsonFault, BadShape, OutOfMemory, byte_trees, Read, Reports, follow, read_text, sized, go_on, when_true, when_false}
use Rattle.serde_json.specs.declared.value.Value as json
use Rattle.bcs_value_model.specs.declared.value.Value as value
use Rattle.bcs_json_reader.proofs.Rows.{count_bytes}

pub view_string : (s : String Global) → view (json.String s) ≡ string (string_bytes s)
view_string s = search (rules, json_lemmas)

tree_text : (s : String Global) → tree_of (value.Text s) ≡ text (string_bytes s)
tree_text s = search (rules, the_lemmas)

utf8 : (s : String Global) → is_utf8 (string_bytes s) ≡ true
utf8 s = is_utf8-from_IsUtf8 (string_bytes s) (IsUtf8-string_bytes s)

-- a JSON string is UTF-8, so it is read as a string
pub text_read : (s : String Global) → read_text (view (json.String s)) ≡ Ok (tree_of (value.Text s))
text_read s =
    ap read_text (view_string s) ∙ ap (λ (b : Bool). if b then Ok (text (string_bytes s)) else Err BadShape) (utf8 s)
    ∙ ap Ok (sym (tree_text s))

-- hexadecimal digits for another number of bytes
pub other_count : (x : Read Trees) (b : List ℕ) (n : ℕ) → x ≡ Ok (byte_trees b) → (length b ≡ n → ⊥) → follow x (sized n) ≡ Err BadShape
other_count x b n h other =
    go_on x (sized n) (byte_trees b) h
    ∙ when_false (count (byte_trees b) == n) (Ok (items (byte_trees b))) (Err BadShape) (Decides-eqb (count (byte_trees b)) n) (λ is. other (sym (count_bytes b) ∙ is))

-- hexadecimal digits for `n` bytes
pub right_count : (x : Read Trees) (b : List ℕ) (n : ℕ) → x ≡ Ok (byte_trees b) → length b ≡ n → follow x (sized n) ≡ Ok (items (byte_trees b))
right_count x b n h is =
    go_on x (sized n) (byte_trees b) h
    ∙ when_true (count (byte_trees b) == n) (Ok (items (byte_trees b))) (Err BadShape) (Decides-eqb (count (byte_trees b)) n) (count_bytes b ∙ is)

-- values that are made; this fails only if memory runs out
pub items_told : (made : Result (Vec Value Global) JsonFault) (y : Read Tree) (ts : Trees) → y ≡ Ok (items ts) → IfOk made (λ v. items_trees v.items ≡ ts)
    → IfErr made (λ e. e ≡ OutOfMemory) → Reports (λ v. items (items_trees v.items)) made y
items_told (Ok v) y ts h is memory = h ∙ ap (λ us. Ok (items us)) (sym is)
items_told (Err e) y ts h is memory = λ other. absurd (other memory)
