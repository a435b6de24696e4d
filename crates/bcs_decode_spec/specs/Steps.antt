-- The steps of skipping a value: a parser for each part that needs no memory.
use Rattle.std.specs.Prelude.{ℕ, zero, suc, Bool}
use Rattle.bcs_registry_model.specs.Shape.{Shape}
use Rattle.bcs_registry_model.specs.Container.{Entries, Content, of, one_of, nothing, choice_at}
use Rattle.bcs_decode_spec.specs.declared.reason.Reason.{Reason}
use Rattle.bcs_decode_spec.specs.declared.reason.Reason.TheVariants.{BadBool, TooDeep, UnknownVariant, Unsupported}
use Rattle.bcs_decode_spec.specs.Reading.{Parser, node, chain, give, fail, fail_here, flag_here, number_here, length_here, bytes_here, text_here, value_here, skipping}

-- counts a node, and reads nothing
abbrev pub node_here : Parser (Unit {0})
node_here = node (give tt)

-- validates and skips one value of the format
abbrev pub skip : Entries → ℕ → Shape → Parser (Unit {0})
skip registry d s = value_here skipping registry d s

-- ---- one parser for each step

unfoldable pub truth_here : Parser (Unit {0})
truth_here = chain node_here (λ _. chain (flag_here BadBool) (λ _. give tt))

unfoldable pub whole_here : ℕ → Parser (Unit {0})
whole_here n = chain node_here (λ _. chain (bytes_here n) (λ _. give tt))

unfoldable pub counted_here : Parser ℕ
counted_here = chain node_here (λ _. length_here)

unfoldable pub text_past : Parser (Unit {0})
text_past = chain counted_here (λ n. chain (text_here n) (λ _. give tt))

unfoldable pub bytes_past : Parser (Unit {0})
bytes_past = chain counted_here (λ n. chain (bytes_here n) (λ _. give tt))

unfoldable pub unsupported_here : Parser (Unit {0})
unsupported_here = chain node_here (λ _. fail_here Unsupported)

-- a byte that must be 00 or 01; any other byte stops with the reason `bad`
unfoldable pub flag_past : Reason → Parser Bool
flag_past bad = chain node_here (λ _. flag_here bad)

-- a variant's number, with the place where it begins
unfoldable pub variant_past : Parser (ℕ × ℕ)
variant_past = chain node_here (λ _ start. chain number_here (λ n. give (start, n)) start)

-- opens a container; with depth 0 this is `TooDeep`
unfoldable pub enter_here : ℕ → Parser (Unit {0})
enter_here zero = fail_here TooDeep
enter_here (suc d) = node_here

-- the layout of the variant with the number that was read at `start`, or `UnknownVariant`
unfoldable pub chosen_here : ℕ → Content → Parser Shape
chosen_here start (of s) = give s
chosen_here start _ = fail UnknownVariant start

-- the layout of a container's contents: a struct's own, or that of the variant whose number is read
unfoldable pub opened_here : Content → Parser Shape
opened_here (of s) = give s
opened_here (one_of cs) = chain variant_past (λ x. chosen_here x.0 (choice_at x.1 cs))
opened_here nothing = fail_here Unsupported
