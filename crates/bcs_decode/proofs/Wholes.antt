-- From results about known bytes to the contracts.
use Rattle.bcs_decode.proofs.Prelude.{◌≡◌, ◌<◌, ℕ, zero, suc, List, [], ◌∷◌, inl, inr, subst, length-drop, length, drop, Option, Some, None, Ok, Err, refl, sym, ap, ap₂, ◌∙◌, arith, drop_at, Consumes, IsAtEnd, Accepts, TrailingBytes, Shape, Entries, Bounds, Tree, tree_of, Value, Progress, DecodeFault, Stop, Read, OutOfMemory, FindsFault, Left, Along, GaveFront, Halts, read, FrontGone, DecodesAll, DecodesFrom, DecodesFront, read_value, Along-gave, Found, exact_value, reads_accepts, is_decoded, no_encoding_stops, StopsAll}
use Rattle.bcs_decode_spec.specs.Reading as Reading

pub some_same : {x y : List ℕ} → Some x ≡ Some y → x ≡ y
some_same h = cc

pub drop-suc : (n : ℕ) (b : List ℕ) → drop (suc n) b ≡ drop 1 (drop n b)
drop-suc zero b = refl
drop-suc (suc n) [] = refl
drop-suc (suc n) (x ∷ b) = drop-suc n b

pub told_rest : (n : ℕ) (b : List ℕ) (d : Option (List ℕ)) → Left b n d → d ≡ Some (drop n b)
told_rest n b None l = absurd (let e = l.told in cc)
told_rest n b (Some c) l = ap Some l.is

pub from_all : (b : List ℕ) (p : Progress) → p.place ≡ 0 → Left b p.place (Some b)
from_all b p place = record { told = refl; within = omega arith; is = ap (λ i. drop i b) (sym place) }

pub gave : (b : List ℕ) (d : Option (List ℕ)) (p : Progress) → p.place ≡ 0 → GaveFront (Some b) p d → FrontGone b d
gave b d p place k =
    let front = k b (from_all b p place) in
    (front.0, front.2.within, told_rest front.0 b d front.2)

module _ (registry : Entries) (limits : Bounds) (s : Shape) where
  from_start : (p : Progress) → p.place ≡ 0 → p.nodes ≡ limits.nodes → (b : List ℕ) (x : Reading.Read Tree) → read registry limits.depth s p.place p.nodes b ≡ x → read_value registry limits s b ≡ x
  from_start p place nodes b x h = ap₂ (λ (o m : ℕ). read registry limits.depth s o m b) (sym place) (sym nodes) ∙ h

  pub decoded : (c d : Option (List ℕ)) (v : Value) (p q : Progress) → p.place ≡ 0 → p.nodes ≡ limits.nodes → Found (tree_of v) (read registry limits.depth s) c d p q → Along c p d q → DecodesFront registry limits s c d (Ok (v, q.place))
  decoded None d v p q place nodes h along = tt
  decoded (Some b) None v p q place nodes h along = let w = (h refl).1 in absurd cc
  decoded (Some b) (Some c) v p q place nodes h along = (
    gave b (Some c) p place (Along-gave along),
    λ bytes.
        (let e = from_start p place nodes b _ (h refl).0 in
        let t = (exact_value registry limits.depth s).ok 0 limits.nodes b (tree_of v) q.place q.nodes c bytes e in
        let l : length t.1 ≡ q.place = omega (arith, t.4) in
        (reads_accepts registry limits s b (tree_of v) q.place q.nodes c bytes e, ap Some (sym (ap (drop q.place) t.3 ∙ drop_at t.1 c q.place l)))),
  )

  pub stopped : (c d : Option (List ℕ)) (x : DecodeFault) (p q : Progress) → p.place ≡ 0 → p.nodes ≡ limits.nodes → FindsFault x c p (read registry limits.depth s) → Halts x c p d q → DecodesFront registry limits s c d (Err x)
  stopped None d x p q place nodes h k = tt
  stopped (Some b) d (Stop stop) p q place nodes h k = λ bytes.
      (let l = k.0 b (from_all b p place) in (
        (exact_value registry limits.depth s).stop 0 limits.nodes b stop.reason stop.place bytes (from_start p place nodes b _ (h refl)),
        (q.place, k.1, l.within, told_rest q.place b d l),
      ))
  stopped (Some b) d Read p q place nodes h k = gave b d p place k
  stopped (Some b) d OutOfMemory p q place nodes h k = gave b d p place k

  -- the source had already failed
  pub lost_at_once : (c : Option (List ℕ)) → DecodesFront registry limits s c c (Err Read)
  lost_at_once None = tt
  lost_at_once (Some b) = (0, omega arith, refl)

  pub front_value : (c d : Option (List ℕ)) (r : Value × ℕ) → DecodesFront registry limits s c d (Ok r) → DecodesFrom registry limits s c d (Ok r.0)
  front_value None d r h = tt
  front_value (Some b) d r h = λ bytes. (r.1, (h.1 bytes).0, (h.1 bytes).1)

  pub all_stop : (c d : Option (List ℕ)) (x : DecodeFault) → DecodesFront registry limits s c d (Err x) → DecodesAll registry limits s c d (Err x)
  all_stop None d x h = tt
  all_stop (Some b) d (Stop stop) h = λ bytes. (inl (h bytes).0, no_encoding_stops registry limits s b stop.reason stop.place (inl (h bytes).0), inl (h bytes))
  all_stop (Some b) d Read h = h
  all_stop (Some b) d OutOfMemory h = h

  -- the content ends with the value
  all_value : (c d e : Option (List ℕ)) (r : Value × ℕ) → DecodesFront registry limits s c d (Ok r) → Consumes d e [] → IsAtEnd e → DecodesAll registry limits s c e (Ok r.0)
  all_value None d e r h k at = tt
  all_value (Some b) None e r h k at = λ bytes. absurd (let w = (h.1 bytes).1 in cc)
  all_value (Some b) (Some x) None r h k at = absurd k
  all_value (Some b) (Some x) (Some y) r h k at = λ bytes.
      (let left : drop r.1 b ≡ [] = some_same (sym (h.1 bytes).1) ∙ k ∙ at in
      let whole : length b ≡ r.1 = omega (arith, (h.1 bytes).0.within, length-drop r.1 b, ap length left) in
      (is_decoded registry limits s b (tree_of r.0) (subst (λ n. Accepts registry limits s b n (tree_of r.0)) (sym whole) (h.1 bytes).0), ap Some at))

  pub all_by : (c d e : Option (List ℕ)) (r : Value × ℕ) (bs : List ℕ) → length bs ≡ 0 → DecodesFront registry limits s c d (Ok r) → Consumes d e bs → IsAtEnd e → DecodesAll registry limits s c e (Ok r.0)
  all_by c d e r [] len h k at = all_value c d e r h k at
  all_by c d e r (x ∷ bs) len h k at = absurd (omega (arith, len))

  -- the source fails after the value
  pub all_lost : (c d e : Option (List ℕ)) (r : Value × ℕ) → DecodesFront registry limits s c d (Ok r) → Consumes d e [] → DecodesAll registry limits s c e (Err Read)
  all_lost None d e r h k = tt
  all_lost (Some b) None e r h k = absurd (let none = h.0.2 in cc)
  all_lost (Some b) (Some x) None r h k = absurd k
  all_lost (Some b) (Some x) (Some y) r h k = (h.0.0, h.0.1, ap Some (sym k) ∙ h.0.2)

  -- a byte follows the value
  pub all_trails : (c d e : Option (List ℕ)) (r : Value × ℕ) (x : ℕ) → DecodesFront registry limits s c d (Ok r) → Consumes d e (x ∷ []) → DecodesAll registry limits s c e (Err (Stop (record { reason = TrailingBytes; place = r.1 })))
  all_trails None d e r x h k = tt
  all_trails (Some b) None e r x h k = λ bytes. absurd (let w = (h.1 bytes).1 in cc)
  all_trails (Some b) (Some z) None r x h k = absurd k
  all_trails (Some b) (Some z) (Some y) r x h k = λ bytes.
      (let left : drop r.1 b ≡ x ∷ y = some_same (sym (h.1 bytes).1) ∙ k in
      let more : r.1 < length b = omega (arith, (h.1 bytes).0.within, length-drop r.1 b, ap length left) in
      let next : drop (suc r.1) b ≡ y = drop-suc r.1 b ∙ ap (drop 1) left in
      let trailing : StopsAll registry limits s b TrailingBytes r.1 = inr (r.1, tree_of r.0, (h.1 bytes).0, more, refl, refl) in
      (trailing, no_encoding_stops registry limits s b TrailingBytes r.1 trailing, inr (record { reason = refl; value = tree_of r.0; accepted = (h.1 bytes).0; after = more; gone = ap Some (sym next) })))

  pub trails_by : (c d e : Option (List ℕ)) (r : Value × ℕ) (bs : List ℕ) → length bs ≡ 1 → DecodesFront registry limits s c d (Ok r) → Consumes d e bs → DecodesAll registry limits s c e (Err (Stop (record { reason = TrailingBytes; place = r.1 })))
  trails_by c d e r [] len h k = absurd (omega (arith, len))
  trails_by c d e r (x ∷ []) len h k = all_trails c d e r x h k
  trails_by c d e r (x ∷ (y ∷ zs)) len h k = absurd (omega (arith, len))
