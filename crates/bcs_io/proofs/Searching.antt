-- Finding the first line feed when a prefix is known to have none.
use Rattle.bcs_io.proofs.Prelude.{◌≡◌, ℕ, zero, suc, ◌+◌, ◌-◌, ◌<◌, ◌≤◌, ◌==◌, Bool, ◌||◌, List, [], ◌∷◌, ◌++◌, length, take, drop, get_or, refl, sym, ap, ◌∙◌, arith, ⊎_elim, length-take-le, length-drop, get_or-take, get_or-drop, take-append-drop, cases_Bool, eqb-true, drop_more, drop-drop, take_rest, list_any-append, take-add, list_any, Nowhere, NoneBefore, Passes, is_byte, HasNoLineFeed, IsFirstLineFeed}
use Rattle.bcs_io.proofs.LineLemmas.{no_feed_first, no_feed_rest}

abbrev is_line_feed : ℕ → Bool
is_line_feed c = c == 10

pub plain-append : (xs ys : List ℕ) → HasNoLineFeed xs → HasNoLineFeed ys → HasNoLineFeed (xs ++ ys)
plain-append xs ys front back = list_any-append is_line_feed xs ys ∙ ap (λ b. b || list_any is_line_feed ys) front ∙ back

pub plain-take : (n : ℕ) (bytes : List ℕ) → HasNoLineFeed bytes → HasNoLineFeed (take n bytes)
plain-take zero bytes plain = refl
plain-take (suc n) [] plain = refl
plain-take (suc n) (c ∷ cs) plain =
    ap (λ b. b || list_any is_line_feed (take n cs)) (no_feed_first c cs plain) ∙ plain-take n cs (no_feed_rest c cs plain)

-- the searched slice, in terms of the rest
pub searched_part : (all bytes : List ℕ) (next searched : ℕ) → drop next all ≡ bytes
    → take (length all - (next + searched)) (drop (next + searched) all) ≡ drop searched bytes
searched_part all bytes next searched is =
    take_rest all (next + searched) ∙ sym (drop-drop searched next all) ∙ ap (drop searched) is

-- no index has a line feed
plain-nowhere : (bytes : List ℕ) → ((k : ℕ) → k < length bytes → ¬ Passes (is_byte 10) bytes k) → HasNoLineFeed bytes
plain-nowhere [] none = refl
plain-nowhere (c ∷ cs) none =
    ap (λ b. b || list_any is_line_feed cs) (⊎_elim (λ is. absurd (none 0 (omega arith) is)) (λ is. is) (cases_Bool (c == 10)))
    ∙ plain-nowhere cs (λ k below. none (suc k) (omega arith))

module _ (bytes : List ℕ) (searched : ℕ) (within : searched ≤ length bytes) (plain : HasNoLineFeed (take searched bytes)) where
  -- nothing was found after the prefix
  pub searched_none : Nowhere (Passes (is_byte 10) (drop searched bytes)) 0 (length (drop searched bytes)) → HasNoLineFeed bytes
  searched_none none =
      let whole = plain-append (take searched bytes) (drop searched bytes) plain (plain-nowhere (drop searched bytes) (λ k below. none k (omega arith) below)) in
      rw take-append-drop at whole

  -- the first one found after the prefix is the first of all
  pub searched_found : (place : ℕ) → NoneBefore (Passes (is_byte 10) (drop searched bytes)) 0 (length (drop searched bytes)) place
      → Passes (is_byte 10) (drop searched bytes) place → IsFirstLineFeed bytes (searched + place)
  searched_found place first is =
      let inside : searched + place < length bytes = omega (arith, first.high, length-drop searched bytes) in
      let feed : get_or bytes (searched + place) 0 ≡ 10 = sym (get_or-drop searched bytes place 0) ∙ eqb-true (get_or (drop searched bytes) place 0) 10 is in
      let behind = drop_more bytes (searched + place) 0 inside ∙ ap (λ c. c ∷ drop (searched + place + 1) bytes) feed in
      let long : length (take place (drop searched bytes)) ≡ place = length-take-le place (drop searched bytes) (omega (arith, first.high)) in
      let between = plain-nowhere (take place (drop searched bytes)) (λ k below passes.
      let low : k < place = omega (arith, long) in
      first.before k (omega arith) low (ap is_line_feed (sym (get_or-take place (drop searched bytes) k 0 low)) ∙ passes)) in
      record {
        inside = inside;
        parts = sym (take-append-drop (searched + place) bytes) ∙ ap (λ l. take (searched + place) bytes ++ l) behind;
        before = ap (list_any is_line_feed) (take-add searched place bytes)
            ∙ plain-append (take searched bytes) (take place (drop searched bytes)) plain between;
      }
