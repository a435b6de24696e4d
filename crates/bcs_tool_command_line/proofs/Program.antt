-- A command with another name.
use Rattle.bcs_tool_command_line.proofs.Prelude.{◌≡◌, ◌∙◌, ◌++◌, [], ◌∷◌, ap, ap₂, map, map-append, Bool, Bor, List, ℕ, fold, App, Rule, Text, app_of, app_of_fields, out-Command, with_rule}
use Rattle.clap.specs.Simple.{on_top}
use Rattle.clap.specs.Words.{AddsCommandAliases}
use Rattle.clap.specs.declared.builder.command.Command.{Command}

-- rules add no alias
pub no_alias : (a : App) (rules : List Rule) → a.top.aliases ≡ [] → (fold with_rule a rules).top.aliases ≡ []
no_alias a [] none = none
no_alias a (r ∷ rules) none = no_alias (with_rule a r) rules none

-- a command without aliases, with one
pub aliased : (old new : Command) (alias : Bor (List ℕ)) (is_shown : Bool) (a : App) → app_of old ≡ a → a.top.aliases ≡ []
    → AddsCommandAliases old new ((alias, is_shown) ∷ []) → app_of new ≡ on_top (λ s. record s { aliases = alias.now ∷ [] }) a
aliased old new alias is_shown a same none adds =
    let name : (Bor (List ℕ) × Bool) → Text = λ x. x.0.now in
    let names : map name (out-Command new).aliases.items ≡ alias.now ∷ [] = ap (map name) adds.1 ∙ (map-append name (out-Command old).aliases.items ((alias, is_shown) ∷ [])
    ∙ ap (λ (xs : List Text). xs ++ alias.now ∷ []) (ap (λ (b : App). b.top.aliases) same ∙ none)) in
    ap app_of_fields adds.0 ∙ ap₂ (λ (xs : List Text) (b : App). on_top (λ s. record s { aliases = xs }) b) names same
