-- `Opens` for equal contents.
use Rattle.bcs_decode_parts.proofs.Prelude.{◌≡◌, subst, Content, Inside, Opens}

pub opens_as : (f : Content) (i j : Inside) → Opens f i → i ≡ j → Opens f j
opens_as f i j h e = subst (λ (x : Inside). Opens f x) e h
