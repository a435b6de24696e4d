use Rattle.bcs_tool_command_line.proofs.Prelude.{◌≡◌, ◌∙◌, ap, refl, Option, Some, None, is_some, option_map, found_of, first_value-rows}
use Rattle.bcs_tool_command_line.proofs.arguments.has_value.Goals as goal

is_some-option_map : {X Y : Type 0} (f : X → Y) (o : Option X) → is_some o ≡ is_some (option_map f o)
is_some-option_map f None = refl
is_some-option_map f (Some x) = refl

pub returns : goal.returns
returns c =
    c.is_some.ensures ∙ (is_some-option_map (λ t. t.now) c.get_str.result
    ∙ ap is_some (c.get_str.ensures ∙ first_value-rows (found_of c.args.given.now) c.args.argument.now))
