-- Parsers that skip.
use Rattle.std.specs.Prelude.{ℕ}
use Rattle.bcs_decode_spec.specs.Reading.{Parser, chain, give, bytes_here, text_here}

-- skips `n` bytes
unfoldable pub bytes_run : ℕ → Parser (Unit {0})
bytes_run n = chain (bytes_here n) (λ _. give tt)

-- validates and skips a string of `n` bytes
unfoldable pub text_run : ℕ → Parser (Unit {0})
text_run n = chain (text_here n) (λ _. give tt)
