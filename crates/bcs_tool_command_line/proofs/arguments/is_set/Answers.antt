use Rattle.bcs_tool_command_line.proofs.Prelude.{◌≡◌, ◌∙◌, ap, refl, codes, Option, Some, None, option_map, unwrap_or, Bor, List, ℕ, bytes_eq, found_of, first_value-rows, text_or_empty}
use Rattle.bcs_tool_command_line.proofs.arguments.is_set.Goals as goal

unwrap_or-option_map : {X Y : Type 0} (f : X → Y) (o : Option X) (d : X)
    → f (unwrap_or o d) ≡ unwrap_or (option_map f o) (f d)
unwrap_or-option_map f None d = refl
unwrap_or-option_map f (Some x) d = refl

pub returns : goal.returns
returns c =
    c.eq.ensures ∙ ap (λ t. bytes_eq t (codes "true"))
    (ap (λ (t : Bor (List ℕ)). t.now) c.unwrap_or.ensures
    ∙ (unwrap_or-option_map (λ t. t.now) c.get_str.result _
    ∙ ap text_or_empty (c.get_str.ensures ∙ first_value-rows (found_of c.args.given.now) c.args.option.now)))
