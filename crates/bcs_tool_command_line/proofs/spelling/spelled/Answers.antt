use Rattle.bcs_tool_command_line.proofs.Prelude.{◌≡◌, ◌∙◌, ◌+◌, ◌++◌, ◌∷◌, ap, ap₂, sym, map, Bool, Bor, ℕ, drop, List, at_drop_more, string_bytes, may_be_option, spelled, spelled_from, spelled_word, texts_of}
use Rattle.std.specs.Prelude.{String}
use Rattle.std.specs.declared.alloc.Global.{Global}
use Rattle.bcs_tool_command_line.proofs.SpellingLemmas.{none_more, one_more}
use Rattle.bcs_tool_command_line.proofs.spelling.spelled.Goals as goal

pub loop-word-preserved : goal.loop-word-preserved
loop-word-preserved c =
    let words = c.args.words.now in
    let i = c.loop-word.word-index in
    let word = c.word-item.result in
    let goes_on = c.loop-word.goes_on in
    let all = spelled (texts_of words) in
    let rest = texts_of (drop (i + 1) words) in
    let done = map (λ t. t.now) c.loop-word.full.items in
    let before : done ++ spelled_from goes_on (string_bytes word ∷ rest) ≡ all =
    sym (at_drop_more (λ (ws : List (String Global)). done ++ spelled_from goes_on (texts_of ws)) words i word c.loop-word-test.true
    ∙ ap (λ (w : String Global). done ++ spelled_from goes_on (string_bytes w ∷ rest)) (sym c.word-item.is)) ∙ c.loop-word.invariant in
    let same : c.as_str-word.result.now ≡ string_bytes word = c.as_str-word.ensures.value in
    let goes : c.may_be_option-goes_on.result ≡ may_be_option goes_on (string_bytes word) = c.may_be_option-goes_on.ensures ∙ ap (may_be_option goes_on) same in
    let is : c.spelled_word.result.now ≡ spelled_word (may_be_option goes_on (string_bytes word)) (string_bytes word) = c.spelled_word.ensures ∙ ap₂ spelled_word goes same in
    ap₂ (λ (xs : List (Bor (List ℕ))) (b : Bool). map (λ t. t.now) xs ++ spelled_from b rest) c.in_ok-push.ensures.items goes
    ∙ one_more c.loop-word.full.items c.spelled_word.result goes_on (string_bytes word) rest all before is

pub returns : goal.returns
returns c =
    none_more (map (λ t. t.now) c.loop-word.full.items) c.loop-word.goes_on c.args.words.now c.loop-word.word-index (spelled (texts_of c.args.words.now))
    c.loop-word.invariant c.loop-word-test.false
