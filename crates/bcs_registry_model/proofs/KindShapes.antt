-- The shape of a format whose kind has been matched.
use Rattle.bcs_registry_model.proofs.Prelude.{◌≡◌, ap, sym, ◌∙◌, kind_shape, shape_of, Format, Kind}

pub shape_seen : (f : Format) (seen kind : Kind) → kind_shape seen ≡ shape_of f → seen ≡ kind → shape_of f ≡ kind_shape kind
shape_seen f seen kind is was = sym is ∙ ap kind_shape was
