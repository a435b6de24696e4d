-- How the steps of a cursor relate to the parsers of `bcs_decode_spec`.
use Rattle.std.specs.Prelude.{◌≡◌, ◌+◌, ◌≤◌, length, Result, Ok, Err}
use Rattle.bcs_decode_slice.specs.declared.cursor.Cursor.{Cursor}
use Rattle.bcs_decode_spec.specs.declared.stop.Stop.{Stop}
use Rattle.bcs_decode_spec.specs.Reading.{Parser}

-- a result, mapped by `view`, is what `f` returns at the old cursor; on success the new cursor is where `f` ends
abbrev pub Passes : {X A : Type 0} → (X → A) → Result X Stop → Parser A → Cursor → Cursor → Type 0
Passes view (Ok x) f old new = f old.place old.nodes old.rest.now ≡ Ok (view x, new.place, new.nodes, new.rest.now)
Passes view (Err s) f old new = f old.place old.nodes old.rest.now ≡ Err (s.reason, s.place)

-- the cursor only moves forward, over bytes of its slice
abbrev pub Onward : Cursor → Cursor → Type 0
Onward old new = (new.place + length new.rest.now ≡ old.place + length old.rest.now) × (old.place ≤ new.place)
