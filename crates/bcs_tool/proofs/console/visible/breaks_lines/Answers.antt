use Rattle.bcs_tool.proofs.Prelude.{◌≡◌, ◌==◌, ◌<◌, ◌∙◌, ℕ, Bool, List, ap, sym, subst, true, map, string_bytes, list_any, length-map, get_or-map, list_any_at}
use Rattle.bcs_tool.proofs.console.visible.breaks_lines.Goals as goal

pub returns-then-contains : goal.returns-then-contains
returns-then-contains c =
    let words = c.args.words.now in
    let word = c.word-item.result in
    let test : List ℕ → Bool = λ bytes. list_any (λ b. b == 10) bytes in
    let within = c.loop-word-test.true in
    let has : test (string_bytes word) ≡ true = ap test (sym c.as_bytes.ensures.value) ∙ sym c.contains.ensures.value ∙ c.if-contains.true in
    let there = get_or-map string_bytes words c.loop-word.word-index word (string_bytes word) within ∙ ap string_bytes (sym c.word-item.is) in
    sym
    (list_any_at test (map string_bytes words) c.loop-word.word-index (string_bytes word)
    (subst (λ (n : ℕ). c.loop-word.word-index < n) (sym (length-map words string_bytes)) within) (ap test there ∙ has))
