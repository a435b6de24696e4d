-- Arguments in full, one after another.
use Rattle.bcs_tool_command_line.proofs.Prelude.{◌≡◌, ◌∙◌, ◌++◌, ◌≤◌, [], ◌∷◌, List, Bool, Bor, ℕ, ap, sym, map, drop, length, Text, append_assoc, append-nil, drop_of_length-le, map-append, may_be_option, spelled_from, spelled_word, texts_of}
use Rattle.std.specs.Prelude.{String}
use Rattle.std.specs.declared.alloc.Global.{Global}

-- one argument more is spelled
pub one_more : (done : List (Bor (List ℕ))) (t : Bor (List ℕ)) (goes_on : Bool) (word : Text) (rest all : List Text)
    → map (λ t. t.now) done ++ spelled_from goes_on (word ∷ rest) ≡ all → t.now ≡ spelled_word (may_be_option goes_on word) word
    → map (λ t. t.now) (done ++ t ∷ []) ++ spelled_from (may_be_option goes_on word) rest ≡ all
unfolding spelled_from
one_more done t goes_on word rest all before is =
    ap (λ (xs : List Text). xs ++ spelled_from (may_be_option goes_on word) rest) (map-append (λ t. t.now) done (t ∷ []))
    ∙ (append_assoc (map (λ t. t.now) done) (t.now ∷ []) (spelled_from (may_be_option goes_on word) rest)
    ∙ (ap (λ (x : Text). map (λ t. t.now) done ++ x ∷ spelled_from (may_be_option goes_on word) rest) is ∙ before))

-- none is left
pub none_more : (done : List Text) (goes_on : Bool) (words : List (String Global)) (i : ℕ) (all : List Text)
    → done ++ spelled_from goes_on (texts_of (drop i words)) ≡ all → length words ≤ i → done ≡ all
unfolding spelled_from
none_more done goes_on words i all before end =
    sym (ap (λ (ws : List (String Global)). done ++ spelled_from goes_on (texts_of ws)) (drop_of_length-le words end) ∙ append-nil done) ∙ before
