-- Steps of a cursor, one after another.
use Rattle.bcs_decode_slice.proofs.Prelude.{◌≡◌, ℕ, List, Result, Ok, Err, ◌∙◌, Parser, Cursor, Stop, Passes}

-- what a parser reads from one cursor, another reads from a later one
pub passes_from : {X A : Type 0} (view : X → A) (r : Result X Stop) (f g : Parser A) (old mid new : Cursor)
    → f old.place old.nodes old.rest.now ≡ g mid.place mid.nodes mid.rest.now → Passes view r g mid new → Passes view r f old new
passes_from view (Ok x) f g old mid new e h = e ∙ h
passes_from view (Err s) f g old mid new e h = e ∙ h

pub passes_here : (r : Result (Unit {0}) Stop) (f g : Parser (Unit {0})) (old new : Cursor) → ((p m : ℕ) (b : List ℕ) → f p m b ≡ g p m b) → Passes (λ x. x) r g old new → Passes (λ x. x) r f old new
passes_here r f g old new e h = passes_from (λ x. x) r f g old old new (e old.place old.nodes old.rest.now) h
