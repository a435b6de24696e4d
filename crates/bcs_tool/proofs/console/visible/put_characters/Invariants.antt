use Rattle.bcs_tool.proofs.Prelude.{◌≡◌, ◌++◌, ℕ, List, IsUtf8, chars, flat_map, chars_rest, Took, visible_char, visible}
use Rattle.bcs_tool.proofs.console.visible.put_characters.Given as goal

-- what was written so far, before the characters that are left
abbrev pub invariant-loop-character : goal.invariant-loop-character
invariant-loop-character g l = IsUtf8 (chars_rest l.character-iterator)
    × ((done : List ℕ) × Took g.E.ByteSink.taken g.E.ByteSink.is_failed l.initial.errors l.errors done
    × (done ++ flat_map (visible_char l.keeps_lines) (chars (chars_rest l.character-iterator)) ≡ visible l.keeps_lines l.text))
