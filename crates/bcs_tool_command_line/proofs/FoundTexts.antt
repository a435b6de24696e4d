-- The text of one argument or of another.
use Rattle.bcs_tool_command_line.proofs.Prelude.{◌≡◌, ◌∙◌, ap, ap₂, refl, Option, Some, None, option_map, Bor, List, ℕ, option_or}

option_map-option_or : {X Y : Type 0} (f : X → Y) (o p : Option X)
    → option_map f (option_or o p) ≡ option_or (option_map f o) (option_map f p)
option_map-option_or f None p = refl
option_map-option_or f (Some x) p = refl

-- the texts of one argument or of the other
pub either : (o p q : Option (Bor (List ℕ))) (s t : Option (List ℕ)) → q ≡ option_or o p → option_map (λ t. t.now) o ≡ s → option_map (λ t. t.now) p ≡ t
    → option_map (λ t. t.now) q ≡ option_or s t
either o p q s t is one other = ap (option_map (λ t. t.now)) is ∙ (option_map-option_or _ o p ∙ ap₂ option_or one other)
