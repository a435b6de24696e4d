-- How the parsers of `bcs_decode_spec` skip a value without parts.
use Rattle.std.specs.Prelude.{ℕ, List}
use Rattle.std.specs.Int.{byte_len}
use Rattle.bcs_registry_model.specs.Shape as shape
use Rattle.bcs_registry_model.specs.Shape.{Shape}
use Rattle.bcs_decode_spec.specs.declared.reason.Reason.TheVariants.{BadBool}
use Rattle.bcs_decode_spec.specs.Reading.{Parser, chain, give, bytes_here}
use Rattle.bcs_decode_spec.specs.Steps.{node_here, flag_past, text_past, bytes_past, unsupported_here}

-- a node, and then `n` bytes
unfoldable pub node_and_bytes : ℕ → Parser (List ℕ)
node_and_bytes n = chain node_here (λ _. bytes_here n)

-- drops the result of a parser
unfoldable pub discarding : {A : Type 0} → Parser A → Parser (Unit {0})
discarding f = chain f (λ _. give tt)

-- skips a value of this shape
abbrev pub scalar_past : Shape → Parser (Unit {0})
scalar_past shape.unit = node_here
scalar_past shape.truth = discarding (flag_past BadBool)
scalar_past (shape.unsigned w) = discarding (node_and_bytes (byte_len w))
scalar_past (shape.signed w) = discarding (node_and_bytes (byte_len w))
scalar_past shape.text = text_past
scalar_past shape.bytes = bytes_past
scalar_past _ = unsupported_here
