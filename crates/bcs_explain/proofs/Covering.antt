-- Steps that cover the bytes, one after another.
use Rattle.bcs_explain.proofs.Prelude.{◌≡◌, ℕ, ◌+◌, ◌-◌, ◌≤◌, false, List, ◌++◌, length, take, drop, Result, Ok, Err, sym, ap, subst, ◌∙◌, arith, drop-drop, length-drop, length-take-le, take-add, Stop, Cursor, Passes, node_here, enter_here, unsupported_here, Heard, Covered, StaysCovered, Covers, ReportsStop, ReportsAnyStop}
use Rattle.bcs_explain.proofs.Advancing.{node_stays, enter_stays, never_read}

module _ {K : Type 0} (heard : Heard K) where
  pub covers_then : {X E : Type 0} (r : Result X E) (a b c : Cursor) (k l m : K) → StaysCovered heard a k b l → Covers heard r b l c m → Covers heard r a k c m
  covers_then (Ok y) a b c k l m f g = λ input h. g input (f input h)
  covers_then (Err e) a b c k l m f g = λ input h. g input (f input h)

  stays : (a c : Cursor) (k l : K) → (c.place ≡ a.place) × (c.rest.now ≡ a.rest.now) → ((before : List ℕ) → heard k before false → heard l before false) → StaysCovered heard a k c l
  stays a c k l same halts input h = rw (same.0, same.1) (h.0, h.1, halts (take a.place input) h.2)

  -- ---- steps that read no bytes and report none
  pub node_covers : (r : Result (Unit {0}) Stop) (a c : Cursor) (k l : K) → Passes (λ x. x) r node_here a c → ReportsAnyStop heard r k l → Covers heard r a k c l
  node_covers (Ok x) a c k l h halts = stays a c k l (node_stays a.place a.nodes a.rest.now x c.place c.nodes c.rest.now h) halts
  node_covers (Err e) a c k l h halts = λ input g. (a.place, halts (take a.place input) g.2)

  pub enter_covers : (d : ℕ) (r : Result (Unit {0}) Stop) (a c : Cursor) (k l : K) → Passes (λ x. x) r (enter_here d) a c → ReportsAnyStop heard r k l → Covers heard r a k c l
  enter_covers d (Ok x) a c k l h halts = stays a c k l (enter_stays d a.place a.nodes a.rest.now x c.place c.nodes c.rest.now h) halts
  enter_covers d (Err e) a c k l h halts = λ input g. (a.place, halts (take a.place input) g.2)

  -- a format without values
  pub none_covers : (r : Result (Unit {0}) Stop) (a c : Cursor) (k l : K) → Passes (λ x. x) r unsupported_here a c → ReportsStop heard k l → Covers heard r a k c l
  none_covers (Ok x) a c k l h halts = absurd (never_read a.place a.nodes a.rest.now x c.place c.nodes c.rest.now h)
  none_covers (Err e) a c k l h halts = λ input g. (a.place, halts (take a.place input) g.2)

  -- one more piece, from start to place
  pub one_more : (start place : ℕ) (from rest : List ℕ) (k l : K) (input : List ℕ) → start ≤ place → place ≤ start + length from → rest ≡ drop (place - start) from
      → ((before : List ℕ) → length before ≡ start → heard k before false → heard l (before ++ take (place - start) from) false)
      → Covered heard start from k input → Covered heard place rest l input
  one_more start place from rest k l input behind within left hears h =
      let size : start + (place - start) ≡ place = omega (arith, behind) in
      let long = ap (λ (b : List ℕ). length b) h.1 ∙ length-drop start input in
      let whole : take start input ++ take (place - start) from ≡ take place input =
      ap (λ (b : List ℕ). take start input ++ take (place - start) b) h.1 ∙ sym (take-add start (place - start) input) ∙ ap (λ (i : ℕ). take i input) size in (
        omega (arith, long, within, h.0),
        left ∙ ap (λ (b : List ℕ). drop (place - start) b) h.1 ∙ drop-drop (place - start) start input ∙ ap (λ (i : ℕ). drop i input) size,
        subst (λ (b : List ℕ). heard l b false) whole (hears (take start input) (length-take-le start input h.0) h.2),
      )
