-- What a step of a reader does.
use Rattle.std.specs.Prelude.{◌≡◌, ℕ, ◌+◌, ◌-◌, ◌<◌, ◌^◌, min, Bool, false, List, Option, Result}
use Rattle.bcs_decode_spec.specs.declared.decode_fault.DecodeFault.{DecodeFault}
use Rattle.bcs_decode_spec.specs.Reading.{Parser}
use Rattle.bcs_decode_source.specs.Sees.{Sees, FailedIfRead, Goes, GoesInMap}
use Rattle.bcs_decode_source.specs.declared.reader.Reader.{Reader}

-- a reader can continue: its source hasn't failed, and the place plus what the source may still give is below 2^64
pub record Ready {S : Type 0} (is_failed : S → Bool) (allowance : S → ℕ) (p : Reader S) : Type 0 where
  pub good : is_failed p.source.now ≡ false
  pub room : p.at.now.place + allowance p.source.now < 2 ^ 64

-- the registry and the source are the same
pub record IsSame {S : Type 0} (p q : Reader S) : Type 0 where
  pub registry : q.registry.now ≡ p.registry.now
  pub source : q.source.ghost_name ≡ p.source.ghost_name
  pub at : q.at.ghost_name ≡ p.at.ghost_name

-- nothing was read from the source
pub record IsStill {S : Type 0} (p q : Reader S) : Type 0 where
  pub source : q.source.now ≡ p.source.now
  pub place : q.at.now.place ≡ p.at.now.place

module _ {S : Type 0} (content : S → Option (List ℕ)) (is_failed : S → Bool) (allowance : S → ℕ) where
  -- the reader went from p to q; if the content is known, the result, mapped by `view`, is what the parser finds in it
  pub record Reads {X A : Type 0} (view : X → A) (r : Result X DecodeFault) (p : Reader S) (f : Parser A) (q : Reader S) : Type 0 where
    pub sees : Sees view r (content p.source.now) p.at.now f q.at.now (content q.source.now)
    pub failed : FailedIfRead r (is_failed q.source.now)
    pub room : q.at.now.place + allowance q.source.now < 2 ^ 64
    pub goes : Goes r (content p.source.now) p.at.now (content q.source.now) q.at.now
    pub same : IsSame p q

  -- the same within a map: the first `n` bytes of `kept` are unchanged
  pub record ReadsInMap {X A : Type 0} (n : ℕ) (view : X → A) (r : Result X DecodeFault) (p : Reader S) (f : Parser A) (q : Reader S) : Type 0 where
    pub sees : Sees view r (content p.source.now) p.at.now f q.at.now (content q.source.now)
    pub failed : FailedIfRead r (is_failed q.source.now)
    pub room : q.at.now.place + allowance q.source.now < 2 ^ 64
    pub goes : GoesInMap n r (content p.source.now) p.at.now (content q.source.now) q.at.now
    pub same : IsSame p q

-- `n`, or the number of bytes known to follow, if that is less
abbrev pub room_for : {S : Type 0} → Reader S → ℕ → ℕ
room_for p n = min n (p.at.now.known - p.at.now.place)
