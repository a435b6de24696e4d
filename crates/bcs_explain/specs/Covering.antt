-- Whether the pieces that a listener received are all of the bytes up to some place.
use Rattle.std.specs.Prelude.{◌≡◌, ℕ, ◌≤◌, Bool, true, false, List, length, take, drop, Result, Ok, Err}
use Rattle.bcs_decode_slice.specs.declared.cursor.Cursor.{Cursor}

-- The type of a listener's ghost member `heard`: it has received pieces that are exactly these bytes, and whether it
-- has then received a stop.
abbrev pub Heard : Type 0 → Type 1
Heard K = K → List ℕ → Bool → Type 0

-- All bytes before `place` have been received, and `rest` is what follows in the input.
abbrev pub Covered : {K : Type 0} → Heard K → ℕ → List ℕ → K → List ℕ → Type 0
Covered heard place rest out input = (place ≤ length input) × (rest ≡ drop place input) × heard out (take place input) false

-- The listener has received a prefix of the input, and last the stop.
abbrev pub CoversPrefix : {K : Type 0} → Heard K → K → List ℕ → Type 0
CoversPrefix heard out input = (n : ℕ) × heard out (take n input) true

-- For every input: if all bytes before the cursor were received before the step, then all bytes before the new cursor
-- have been received after it.
abbrev pub StaysCovered : {K : Type 0} → Heard K → Cursor → K → Cursor → K → Type 0
StaysCovered heard at old on new = (input : List ℕ) → Covered heard at.place at.rest.now old input → Covered heard on.place on.rest.now new input

-- The same for a step that can stop. If it does, the listener has received a prefix of the input and the stop.
abbrev pub Covers : {K X E : Type 0} → Heard K → Result X E → Cursor → K → Cursor → K → Type 0
Covers heard (Ok x) at old on new = StaysCovered heard at old on new
Covers heard (Err e) at old on new = (input : List ℕ) → Covered heard at.place at.rest.now old input → CoversPrefix heard new input

-- The listener receives the stop, and no bytes.
abbrev pub ReportsStop : {K : Type 0} → Heard K → K → K → Type 0
ReportsStop heard old new = (before : List ℕ) → heard old before false → heard new before true

-- The listener receives the stop if there is one, and no bytes.
abbrev pub ReportsAnyStop : {K X E : Type 0} → Heard K → Result X E → K → K → Type 0
ReportsAnyStop heard (Ok x) old new = (before : List ℕ) → heard old before false → heard new before false
ReportsAnyStop heard (Err e) old new = ReportsStop heard old new
