-- Refusals of lines as JSON objects, for `--refusals json`.
use Rattle.std.specs.Prelude.{◌≡◌, ◌≢◌, ◌⊎◌, ◌==◌, ◌&&◌, ◌||◌, ◌++◌, ◌∷◌, [], ℕ, List, Bool, true, nat_le, not, codes, drop, length, take}
use Rattle.std.specs.List.{All, prefix_len}
use Rattle.bcs_tool_answers.specs.Places.{IsPrintable}

-- the byte belongs to the name of a refusal: it is neither a space nor a line feed
abbrev pub is_of_name : ℕ → Bool
is_of_name byte = not (byte == 32 || byte == 10)

-- the name in a line `refused: NAME`, or `refused: NAME at PLACE`
abbrev pub refusal_name : List ℕ → List ℕ
refusal_name line = take (prefix_len is_of_name (drop 9 line)) (drop 9 line)

abbrev pub is_digit : ℕ → Bool
is_digit byte = nat_le 48 byte && nat_le byte 57

-- the digits of PLACE, if the line has one
abbrev pub place_digits : List ℕ → List ℕ
place_digits line = let rest : List ℕ = drop 4 (drop (length (refusal_name line)) (drop 9 line)) in take (prefix_len is_digit rest) rest

-- the member for a place with these digits
abbrev pub place_member : List ℕ → List ℕ
place_member [] = []
place_member (d ∷ ds) = codes ",\"place\":" ++ d ∷ ds

-- the output is an object for the refusal in this line. Its first members are the name, and the place if the line has one. The
-- other members are for display: they are only known to be printable, so they don't end the line
abbrev pub IsJsonRefusal : List ℕ → List ℕ → Type 0
IsJsonRefusal line output = (members : List ℕ) × All IsPrintable members
    × (output ≡ codes "{\"refused\":\"" ++ (refusal_name line ++ (codes "\"" ++ (place_member (place_digits line) ++ (members ++ codes "}\n")))))

-- the output for an answer with this status and this text, with refusals as JSON or not
abbrev pub HasForm : Bool → ℕ → List ℕ → List ℕ → Type 0
HasForm json status text output = ((json ≡ true → status ≢ 2) × (output ≡ text))
    ⊎ ((json ≡ true) × (status ≡ 2) × IsJsonRefusal text output)

-- the status and output for an answer of this kind. Only the output of a JSON refusal differs from the answer
abbrev pub InForm : Bool → (ℕ → List ℕ → Type 0) → ℕ → List ℕ → Type 0
InForm json Answer status output = (text : List ℕ) × Answer status text × HasForm json status text output
