use Rattle.std.proofs.Common.{◌∙◌, sym}
use Rattle.bcs_registry_model.specs.View.{shape_of}
use Rattle.bcs_value_model.specs.View.{tree_of}
use Rattle.bcs_encode.proofs.AsGiven.{rising_form, rising_sound}
use Rattle.bcs_encode.proofs.WithoutMaps.{mapless_form, mapless_sound}
use Rattle.bcs_encode.proofs.canonicalising.into_canonical.Goals as goal

pub returns-then-is_complete-clause-sound : goal.returns-then-is_complete-clause-sound
returns-then-is_complete-clause-sound c =
    rising_sound c.args.registry.now c.args.limits.now (shape_of c.args.format.now) (tree_of c.args.value) c.fixed-small.result c.write_sound.new.out c.in_ok-write_sound.ensures.sound c.fixed-small.ensures.bytes c.fixed-small.ensures.extent
    c.in_ok-write_sound.ensures.appended c.in_ok-write_sound.ensures.given (sym c.is_complete.ensures ∙ c.if-is_complete.true)

pub returns-then-is_complete-clause-form : goal.returns-then-is_complete-clause-form
returns-then-is_complete-clause-form c =
    rising_form c.args.registry.now c.args.limits.now (shape_of c.args.format.now) (tree_of c.args.value) c.fixed-small.result c.write_sound.new.out c.in_ok-write_sound.ensures.sound c.fixed-small.ensures.bytes c.fixed-small.ensures.extent
    c.in_ok-write_sound.ensures.appended c.in_ok-write_sound.ensures.given (sym c.is_complete.ensures ∙ c.if-is_complete.true)

pub returns-then-not-holds_map-clause-sound : goal.returns-then-not-holds_map-clause-sound
returns-then-not-holds_map-clause-sound c =
    mapless_sound c.args.registry.now c.args.limits.now (shape_of c.args.format.now) (tree_of c.args.value) (sym c.holds_map.ensures ∙ c.if-not-holds_map.true) c.in_ok-write_sound.ensures.sound

pub returns-then-not-holds_map-clause-form : goal.returns-then-not-holds_map-clause-form
returns-then-not-holds_map-clause-form c =
    mapless_form c.args.registry.now c.args.limits.now (shape_of c.args.format.now) (tree_of c.args.value) (sym c.holds_map.ensures ∙ c.if-not-holds_map.true) c.in_ok-write_sound.ensures.sound
