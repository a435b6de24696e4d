-- What has been appended while a value is validated.
use Rattle.std.specs.Prelude.{◌≡◌, ℕ, ◌<◌, ◌≤◌, Bool, true, false, List, ◌++◌, length, Option, Some, None, Ok, Err, IfOk}
use Rattle.bcs_key_order.specs.Spans.{part}
use Rattle.bcs_key_order.specs.Order.{is_below}
use Rattle.bcs_encode_impl.specs.Writing.{Verdict, chain}
use Rattle.bcs_key_order.specs.declared.spans.Span.{Span}
use Rattle.bcs_encode_impl.specs.declared.output.Output.{Output}
use Rattle.bcs_encode_impl.specs.declared.output.Extent.{Extent}
use Rattle.bcs_encode_impl.specs.declared.output.Extent.TheVariants.{Rising, Sorting, Repeated, Incomplete}
use Rattle.bcs_encode_spec.specs.declared.fault.EncodeFault.TheVariants.{OutOfMemory, RepeatedKey}

-- everything has been appended
abbrev pub is_complete : Extent → Bool
is_complete Rising = true
is_complete Sorting = true
is_complete Repeated = false
is_complete Incomplete = false

-- everything has been appended, or a repeated key was found
abbrev pub is_told : Extent → Bool
is_told Rising = true
is_told Sorting = true
is_told Repeated = true
is_told Incomplete = false

abbrev pub verdict_at : Extent → List ℕ → Verdict
verdict_at Rising b = Ok b
verdict_at Sorting b = Ok b
verdict_at Repeated b = Err RepeatedKey
verdict_at Incomplete b = Err OutOfMemory

-- the bytes so far, or the first fault
abbrev pub told : Output → Verdict
told o = verdict_at o.extent o.bytes.items

-- if `now` is told, so was `first`; if `now` is complete, the same maps are open
abbrev pub Keeps : Output → Output → Type 0
Keeps first now = (is_told first.extent ≡ true)
    × (is_complete now.extent ≡ true → (now.extent ≡ first.extent) × (now.spans.items ≡ first.spans.items))

-- if `now` is told, appending `rest` to it gives the same as appending `all` to `first`
abbrev pub Continues : Output → Output → (List ℕ → Verdict) → (List ℕ → Verdict) → Type 0
Continues first now all rest = is_told now.extent ≡ true → (chain (told first) all ≡ chain (told now) rest) × Keeps first now

-- if `new` is told, it is `old` with everything appended
abbrev pub Appends : Output → Output → (List ℕ → Verdict) → Type 0
Appends old new written = is_told new.extent ≡ true → (chain (told old) written ≡ told new) × Keeps old new

-- if the keys of all maps in `new` ascend as given, then also in `old`, and `new` is `old` with these bytes appended
abbrev pub Gives : Output → Output → List ℕ → Type 0
Gives old new p = new.extent ≡ Rising → (old.extent ≡ Rising) × (new.bytes.items ≡ old.bytes.items ++ p)

-- the same where `now` is on the way: with `rest` appended, it is `first` with `all` appended
abbrev pub GivesOn : Output → Output → List ℕ → List ℕ → Type 0
GivesOn first now all rest = now.extent ≡ Rising → (first.extent ≡ Rising) × (now.bytes.items ++ rest ≡ first.bytes.items ++ all)

-- capacity doesn't shrink, and a complete output gives up only if the bytes exceed it
abbrev pub TakesWhatFits : Output → Output → (List ℕ → Verdict) → Type 0
TakesWhatFits old new written = (new.bytes.grows ≡ old.bytes.grows) × (old.bytes.capacity ≤ new.bytes.capacity)
    × (is_complete old.extent ≡ true → is_complete new.extent ≡ false → IfOk (written old.bytes.items) (λ b. old.bytes.capacity < length b))

-- the entry's key is above the key of the entry before it, if there is one
abbrev pub rises_after : List ℕ → Option Span → Span → Bool
rises_after bytes None z = true
rises_after bytes (Some y) z = is_below (part bytes y.start y.end) (part bytes z.start z.end)
