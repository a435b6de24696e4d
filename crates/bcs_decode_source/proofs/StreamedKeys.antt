-- A key that was read or skipped, and recorded.
use Rattle.bcs_decode_source.proofs.Prelude.{◌≡◌, ◌-◌, ℕ, true, List, length, take, drop, Option, Ok, Err, refl, sym, ap, ◌∙◌, Reason, Progress, Span, Parser, give, key_here, key_after, Stands, last_bytes, is_told, rest_of, Along}
use Rattle.bcs_decode_source.proofs.SourceSteps.{recorded_key}
use Rattle.bcs_decode_source.proofs.KeptKeys.{last_kept}

pub key_stop : {A : Type 0} (f : Parser A) (last : Option (List ℕ)) (p m : ℕ) (b : List ℕ) (e : Reason) (o : ℕ) → f p m b ≡ Err (e, o) → key_here f last p m b ≡ Err (e, o)
unfolding key_here
key_stop f last p m b e o h = rw h refl

key_wrong : {A : Type 0} (f : Parser A) (last : Option (List ℕ)) (p m : ℕ) (b : List ℕ) (t : A) (q l : ℕ) (c bytes : List ℕ) (e : Reason) (o : ℕ) → f p m b ≡ Ok (t, q, l, c) → bytes ≡ take (q - p) b
    → ((i j : ℕ) (r : List ℕ) → key_after last bytes p i j r ≡ Err (e, o)) → key_here f last p m b ≡ Err (e, o)
unfolding key_here
key_wrong f last p m b t q l c bytes e o h is wrong = rw (h, ← is, wrong q l c) refl

key_right : {A : Type 0} (f : Parser A) (last : Option (List ℕ)) (p m : ℕ) (b : List ℕ) (t : A) (q l : ℕ) (c bytes : List ℕ) → f p m b ≡ Ok (t, q, l, c) → bytes ≡ take (q - p) b
    → ((i j : ℕ) (r : List ℕ) → key_after last bytes p i j r ≡ Ok (tt, i, j, r)) → key_here f last p m b ≡ Ok ((t, bytes), q, l, c)
unfolding key_here give
key_right f last p m b t q l c bytes h is right = rw (h, ← is, right q l c) refl

module _ {A : Type 0} (f : Parser A) (last : Option Span) (begun from : ℕ) (c d : Option (List ℕ)) (p v : Progress) (t : A) (told : is_told c ≡ true) (size : from ≡ length p.kept.items) (stands : Stands last begun (length p.kept.items)) (h : Along c (record p { is_in_key = true }) d v) (read : f p.place p.nodes (rest_of c) ≡ Ok (t, v.place, v.nodes, rest_of d)) where
  bytes_of : drop from v.kept.items ≡ take (v.place - p.place) (rest_of c)
  bytes_of = ap (λ n. drop n v.kept.items) size ∙ recorded_key c d (record p { is_in_key = true }) v told refl h

  before : last_bytes last p.kept.items ≡ last_bytes last v.kept.items
  before = sym (last_kept last begun p.kept.items v.kept.items stands h.front)

  pub kept_wrong : (e : Reason) (o : ℕ) → ((i j : ℕ) (r : List ℕ) → key_after (last_bytes last v.kept.items) (drop from v.kept.items) p.place i j r ≡ Err (e, o))
      → key_here f (last_bytes last p.kept.items) p.place p.nodes (rest_of c) ≡ Err (e, o)
  kept_wrong e o wrong =
      key_wrong f (last_bytes last p.kept.items) p.place p.nodes (rest_of c) t v.place v.nodes (rest_of d) (drop from v.kept.items) e o read bytes_of
      (λ i j r. ap (λ k. key_after k (drop from v.kept.items) p.place i j r) before ∙ wrong i j r)

  pub kept_right : ((i j : ℕ) (r : List ℕ) → key_after (last_bytes last v.kept.items) (drop from v.kept.items) p.place i j r ≡ Ok (tt, i, j, r))
      → key_here f (last_bytes last p.kept.items) p.place p.nodes (rest_of c) ≡ Ok ((t, drop from v.kept.items), v.place, v.nodes, rest_of d)
  kept_right right =
      key_right f (last_bytes last p.kept.items) p.place p.nodes (rest_of c) t v.place v.nodes (rest_of d) (drop from v.kept.items) read bytes_of
      (λ i j r. ap (λ k. key_after k (drop from v.kept.items) p.place i j r) before ∙ right i j r)
