-- From results about known bytes to the contracts.
use Rattle.bcs_decode.proofs.Prelude.{◌≡◌, ◌<◌, ℕ, suc, List, [], ◌∷◌, inr, subst, sym, length-drop, length, drop, Option, Some, None, Ok, Err, refl, ap, ap₂, ◌∙◌, arith, Consumes, IsAtEnd, Shape, Entries, Bounds, TrailingBytes, DecodeFault, Stop, Read, OutOfMemory, Accepts, skip_value, StopsAll, is_decoded, no_encoding_stops, skips_accepts, skips_stops, skip, Progress, rest_of, FindsFault, Along, Halts, Found, ScansFrom, ScansAll}
use Rattle.bcs_decode_spec.specs.Reading as Reading
use Rattle.bcs_decode.proofs.Wholes as whole
use Rattle.bcs_decode.proofs.Wholes.{some_same, drop-suc, told_rest, from_all, gave}

module _ (registry : Entries) (limits : Bounds) (s : Shape) where
  from_start : (p : Progress) → p.place ≡ 0 → p.nodes ≡ limits.nodes → (b : List ℕ) (x : Reading.Read (Unit {0})) → skip registry limits.depth s p.place p.nodes b ≡ x → skip_value registry limits s b ≡ x
  from_start p place nodes b x h = ap₂ (λ (o m : ℕ). skip registry limits.depth s o m b) (sym place) (sym nodes) ∙ h

  pub scanned : (c d : Option (List ℕ)) (p q : Progress) → p.place ≡ 0 → p.nodes ≡ limits.nodes → Found tt (skip registry limits.depth s) c d p q → Along c p d q → ScansFrom registry limits s c d (Ok q.place)
  scanned None d p q place nodes h along = tt
  scanned (Some b) d p q place nodes h along =
      let l = along.gone b (from_all b p place) in
      (told_rest q.place b d l, l.within, λ bytes. skips_accepts registry limits s b q.place q.nodes (rest_of d) bytes (from_start p place nodes b _ (h refl).0))

  pub stopped : (c d : Option (List ℕ)) (x : DecodeFault) (p q : Progress) → p.place ≡ 0 → p.nodes ≡ limits.nodes → FindsFault x c p (skip registry limits.depth s) → Halts x c p d q → ScansFrom registry limits s c d (Err x)
  stopped None d x p q place nodes h k = tt
  stopped (Some b) d (Stop stop) p q place nodes h k = λ bytes.
      (let l = k.0 b (from_all b p place) in (
        skips_stops registry limits s b stop.reason stop.place bytes (from_start p place nodes b _ (h refl)),
        (q.place, k.1, l.within, told_rest q.place b d l),
      ))
  stopped (Some b) d Read p q place nodes h k = gave b d p place k
  stopped (Some b) d OutOfMemory p q place nodes h k = gave b d p place k

  -- the source had already failed
  pub lost_at_once : (c : Option (List ℕ)) → ScansFrom registry limits s c c (Err Read)
  lost_at_once None = tt
  lost_at_once (Some b) = (0, omega arith, refl)

  pub all_stop : (c d : Option (List ℕ)) (x : DecodeFault) → ScansFrom registry limits s c d (Err x) → ScansAll registry limits s c d (Err x)
  all_stop None d x h = tt
  all_stop (Some b) d (Stop stop) h = whole.all_stop registry limits s (Some b) d (Stop stop) h
  all_stop (Some b) d Read h = h
  all_stop (Some b) d OutOfMemory h = h

  -- the content ends with the value
  all_value : (c d e : Option (List ℕ)) (n : ℕ) → ScansFrom registry limits s c d (Ok n) → Consumes d e [] → IsAtEnd e → ScansAll registry limits s c e (Ok n)
  all_value None d e n h k at = tt
  all_value (Some b) None e n h k at = absurd (let w = h.0 in cc)
  all_value (Some b) (Some x) None n h k at = absurd k
  all_value (Some b) (Some x) (Some y) n h k at =
      let left : drop n b ≡ [] = some_same (sym h.0) ∙ k ∙ at in
      let all : n ≡ length b = omega (arith, h.1, length-drop n b, ap length left) in
      (ap Some at, all, λ bytes. (let found = h.2 bytes in (found.0, is_decoded registry limits s b found.0 (subst (λ i. Accepts registry limits s b i found.0) all found.1))))

  pub all_by : (c d e : Option (List ℕ)) (n : ℕ) (bs : List ℕ) → length bs ≡ 0 → ScansFrom registry limits s c d (Ok n) → Consumes d e bs → IsAtEnd e → ScansAll registry limits s c e (Ok n)
  all_by c d e n [] len h k at = all_value c d e n h k at
  all_by c d e n (x ∷ bs) len h k at = absurd (omega (arith, len))

  -- the source fails after the value
  pub all_lost : (c d e : Option (List ℕ)) (n : ℕ) → ScansFrom registry limits s c d (Ok n) → Consumes d e [] → ScansAll registry limits s c e (Err Read)
  all_lost None d e n h k = tt
  all_lost (Some b) None e n h k = absurd (let none = h.0 in cc)
  all_lost (Some b) (Some x) None n h k = absurd k
  all_lost (Some b) (Some x) (Some y) n h k = (n, h.1, ap Some (sym k) ∙ h.0)

  -- a byte follows the value
  all_trails : (c d e : Option (List ℕ)) (n x : ℕ) → ScansFrom registry limits s c d (Ok n) → Consumes d e (x ∷ []) → ScansAll registry limits s c e (Err (Stop (record { reason = TrailingBytes; place = n })))
  all_trails None d e n x h k = tt
  all_trails (Some b) None e n x h k = λ bytes. absurd (let w = h.0 in cc)
  all_trails (Some b) (Some z) None n x h k = absurd k
  all_trails (Some b) (Some z) (Some y) n x h k = λ bytes.
      (let found = h.2 bytes in
      let left : drop n b ≡ x ∷ y = some_same (sym h.0) ∙ k in
      let more : n < length b = omega (arith, h.1, length-drop n b, ap length left) in
      let next : drop (suc n) b ≡ y = drop-suc n b ∙ ap (drop 1) left in
      let trailing : StopsAll registry limits s b TrailingBytes n = inr (n, found.0, found.1, more, refl, refl) in
      (trailing, no_encoding_stops registry limits s b TrailingBytes n trailing, inr (record { reason = refl; value = found.0; accepted = found.1; after = more; gone = ap Some (sym next) })))

  pub trails_by : (c d e : Option (List ℕ)) (n : ℕ) (bs : List ℕ) → length bs ≡ 1 → ScansFrom registry limits s c d (Ok n) → Consumes d e bs → ScansAll registry limits s c e (Err (Stop (record { reason = TrailingBytes; place = n })))
  trails_by c d e n [] len h k = absurd (omega (arith, len))
  trails_by c d e n (x ∷ []) len h k = all_trails c d e n x h k
  trails_by c d e n (x ∷ (y ∷ zs)) len h k = absurd (omega (arith, len))
