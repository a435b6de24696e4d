use Rattle.bcs_encode_impl.proofs.Prelude.{◌∙◌, refl, shape_of, tree_of}
use Rattle.bcs_encode_impl.proofs.ValidatingLaws.{validated_exactly}
use Rattle.bcs_encode_impl.proofs.soundness.write_if_sound.Goals as goal

pub returns-clause-sound : goal.returns-clause-sound
returns-clause-sound c =
    rw c.is_some.ensures (validated_exactly c.args.registry.now c.args.limits.now (shape_of c.args.format.now) (tree_of c.args.value.now) c.write_value.result
    (c.write_value.ensures.validated ∙ rw (c.from-depth.ensures, c.depth.ensures.is, c.from-nodes.ensures, c.nodes.ensures.is) refl))
