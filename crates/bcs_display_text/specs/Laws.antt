-- Laws about escaped text.
use Rattle.std.specs.Prelude.{ℕ, ◌≤◌, List, All}
use Rattle.bcs_display_text.specs.Escaped.{escaped}

-- each byte of escaped text is printable ASCII
abbrev pub EscapedIsPrintable : Type 0
EscapedIsPrintable = (text : List ℕ) → All (λ (byte : ℕ). (32 ≤ byte) × (byte ≤ 126)) (escaped text)
