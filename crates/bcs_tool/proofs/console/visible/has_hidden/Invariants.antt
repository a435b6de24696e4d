use Rattle.bcs_tool.proofs.Prelude.{◌≡◌, ◌++◌, ℕ, List, IsUtf8, chars, flat_map, chars_rest, visible_char, visible}
use Rattle.bcs_tool.proofs.console.visible.has_hidden.Given as goal

-- the characters so far are shown unchanged
abbrev pub invariant-loop-character : goal.invariant-loop-character
invariant-loop-character l = IsUtf8 (chars_rest l.character-iterator)
    × ((done : List ℕ) × (done ++ chars_rest l.character-iterator ≡ l.text)
    × (done ++ flat_map (visible_char l.keeps_lines) (chars (chars_rest l.character-iterator)) ≡ visible l.keeps_lines l.text))
