-- Laws of paths, for every word.
use Rattle.std.specs.Prelude.{◌≡◌, ℕ, List}
use Rattle.bcs_decode_parts.specs.Parts.{Step}
use Rattle.bcs_decode_parts.specs.Path.{SpellsPath}

-- a word spells at most one path
abbrev pub OnePath : Type 0
OnePath = (word : List ℕ) (path other : List Step) → SpellsPath word path → SpellsPath word other → path ≡ other
