-- Words in which clap finds no fault name one of the commands of `bcs`.
use Rattle.bcs_tool_command_line.proofs.Prelude.{◌≡◌, ap, ap₂, subst, sym, refl, inl, inr, codes, true, false, not, ◌&&◌, ◌||◌, ◌∷◌, both, list_all, Bool, List, [], Names, Option, Some, None, is_some, option_map, ◌∙◌, IsSomeAnd, option_and_then, Box, box_value, bytes_eq, list_any, explicit_source, is_given, check_kinds, or_else, built_fault, check_fault, defaults_fault, entered_fault, fault_of, level_fault, settle_fault, walk_fault, HasMatchesOf, Shape, argument_words, built, entered, is_simple, names_of, subcommand_of, subcommand_rows, subcommand_rows_of, subcommand_name_of, ArgMatches, out-ArgMatches, out-SubCommand, SubCommand, Row, Text, finished, nothing_held, settled, stop_after, walk, walk_from, bcs_app, IsJob, IsJobOf, command_named, misuse_in, misuse_of, spelled, Command, Job}
use Rattle.clap.specs.Simple.{App}
use Rattle.bcs_tool_command_line.proofs.Subcommands.{IsAmong, IsEntered, enters, none_left}

wants_one : (s : Shape) (rows : List Row) → s.subcommand_required ≡ true → check_fault s rows false ≡ [] → ⊥
wants_one s rows needs none =
    go (s.arg_required_else_help && not (list_any (λ r. explicit_source r.source) rows)) s.subcommand_required needs none
  where
    unmet : Bool
    unmet = not (s.subcommand_negates_reqs && false) && list_any (λ a. a.required && not (is_given a.id rows)) s.rules

    go : (x y : Bool) → y ≡ true → check_kinds x y unmet ≡ [] → ⊥
    go true y is same = cc
    go false true is same = cc
    go false false is same = cc

-- a program that wants a subcommand finds a fault where there is none
none_is_fault : (a : App) (words : List Text) → a.top.subcommand_required ≡ true → (stop : Option (Text × List Text)) → stop ≡ None
    → level_fault a.top (names_of a) nothing_held words (is_some (entered a stop)) (entered_fault a stop) ≡ [] → ⊥
none_is_fault a words needs (Some p) is none = cc
none_is_fault a words needs None is none =
    let s = a.top in
    let end = (walk s.rules (names_of a) nothing_held words).held in
    let settle = settle_fault s.rules s.args_override_self end in
    let fill = defaults_fault (settled s.rules end).rows s.rules in
    let check = check_fault s (finished s.rules end) false in
    let after_walk = (none_left (walk_fault s (names_of a) (walk_from nothing_held) words) (or_else settle (or_else fill check)) none).1 in
    wants_one s (finished s.rules end) needs (none_left fill check (none_left settle (or_else fill check) after_walk).1).1

-- the command that a subcommand's name and words lead to
abbrev pub command_at : Option (Text × List Text) → Bool
command_at stop = is_some (option_and_then (λ q. command_named q.0) (entered (built bcs_app) stop))

-- a name that passes a test, if all names pass it
among_passes : (p : Text → Bool) (names : Names) (name : Text) → list_all (λ x. p x.0) names ≡ true → IsAmong names name → p name ≡ true
among_passes p [] name all is = absurd is
among_passes p (x ∷ xs) name all (inl e) = subst (λ (t : Text). p t ≡ true) e (both _ _ all).0
among_passes p (x ∷ xs) name all (inr is) = among_passes p xs name (both _ _ all).1 is

entered_is_command : (name : Text) (rest : List Text) → IsEntered (names_of (built bcs_app)) name → command_at (Some (name, rest)) ≡ true
entered_is_command name rest h =
    other (bytes_eq name (codes "help")) h.not_help (among_passes passes (names_of (built bcs_app)) name refl h.among)
  where
    passes : Text → Bool
    passes t = bytes_eq t (codes "help") || command_at (Some (t, rest))

    other : (b : Bool) → b ≡ false → b || command_at (Some (name, rest)) ≡ true → command_at (Some (name, rest)) ≡ true
    other false is e = e
    other true is e = cc

stop_is_command : (words : List Text) → built_fault (built bcs_app) nothing_held words ≡ []
    → (stop : Option (Text × List Text)) → stop_after (built bcs_app).top.rules (names_of (built bcs_app)) words ≡ stop → command_at stop ≡ true
stop_is_command words passes None at = absurd (none_is_fault (built bcs_app) words refl _ at passes)
stop_is_command words passes (Some p) at =
    entered_is_command p.0 p.1 (enters (built bcs_app).top (names_of (built bcs_app)) refl words (walk_from nothing_held) p refl (none_left _ _ passes).0 at)

pub names_command : (words : List Text) → fault_of bcs_app words ≡ []
    → is_some (option_and_then (λ q. command_named q.0) (subcommand_of bcs_app words)) ≡ true
names_command words passes = stop_is_command (argument_words bcs_app words) passes _ refl

-- ---- the same of a parse

name_of_rows : {Z : Type 0} (sub : Option (Box SubCommand Z))
    → option_map (λ b. (out-SubCommand (box_value b)).name.now) sub ≡ option_map (λ p. p.0) (subcommand_rows sub)
name_of_rows None = refl
name_of_rows (Some b) = refl

is_named : (found : Option (Text × List Row)) (name : Text) → Some name ≡ option_map (λ p. p.0) found
    → is_some (option_and_then (λ q. command_named q.0) found) ≡ true → command_named name ≡ None → ⊥
is_named None name e some none = cc
is_named (Some q) name e some none =
    let same : name ≡ q.0 = cc in
    let bad : is_some (command_named name) ≡ true = rw (same) some in
    let is : false ≡ true = ap is_some (sym none) ∙ bad in cc

-- a parse by the definition that succeeds meets a command's name
pub met_is_named : (a : App) (words : List Text) (m : ArgMatches) (name : Text) → a ≡ bcs_app → HasMatchesOf a words m
    → fault_of bcs_app words ≡ [] → Some name ≡ subcommand_name_of m → command_named name ≡ None → ⊥
met_is_named a words m name same matches passes met none =
    let found : subcommand_rows_of m ≡ subcommand_of bcs_app words = (subst (λ (b : App). HasMatchesOf b words m) same matches is_simple_bcs).1 in
    is_named (subcommand_of bcs_app words) name
    (met ∙ (name_of_rows (out-ArgMatches m).subcommand ∙ ap (option_map (λ p. p.0)) found))
    (names_command words passes) none
  where
    is_simple_bcs : is_simple bcs_app ≡ true
    is_simple_bcs = refl

-- what clap found is the subcommand that is met
found_is : (found : Option (Text × List Row)) (name : Text) (rows : List Row)
    → Some name ≡ option_map (λ p. p.0) found → Some rows ≡ option_map (λ p. p.1) found → found ≡ Some (name, rows)
found_is None name rows of_name of_rows = cc
found_is (Some p) name rows of_name of_rows =
    let same_name : name ≡ p.0 = cc in
    let same_rows : rows ≡ p.1 = cc in
    ap Some (sym (ap₂ (λ (t : Text) (r : List Row). (t, r)) same_name same_rows))

pub met_found : (a : App) (given words : List Text) (m : ArgMatches) (name : Text) (rows : List Row) → a ≡ bcs_app → HasMatchesOf a given m → given ≡ words
    → Some name ≡ subcommand_name_of m → Some rows ≡ option_map (λ p. p.1) (subcommand_rows_of m) → subcommand_of bcs_app words ≡ Some (name, rows)
met_found a given words m name rows same matches is of_name of_rows =
    let found : subcommand_rows_of m ≡ subcommand_of bcs_app given = (subst (λ (b : App). HasMatchesOf b given m) same matches is_simple_bcs).1 in
    ap (subcommand_of bcs_app) (sym is) ∙ found_is (subcommand_of bcs_app given) name rows
    (of_name ∙ (name_of_rows (out-ArgMatches m).subcommand ∙ ap (option_map (λ p. p.0)) found)) (of_rows ∙ ap (option_map (λ p. p.1)) found)
  where
    is_simple_bcs : is_simple bcs_app ≡ true
    is_simple_bcs = refl

-- the job of the subcommand that is met is the one that the arguments ask for
pub found_job : (words : List Text) (name : Text) (rows : List Row) (command : Command) (job : Job) → subcommand_of bcs_app (spelled words) ≡ Some (name, rows)
    → Some command ≡ command_named name → IsJob command rows job → IsJobOf words job
found_job words name rows command job found named h =
    subst (λ (o : Option (Text × List Row)). IsSomeAnd o (λ p. IsSomeAnd (command_named p.0) (λ k. IsJob k p.1 job))) (sym found)
    (subst (λ (o : Option Command). IsSomeAnd o (λ k. IsJob k rows job)) named h)

-- and so is its misuse
pub found_misuse : (words : List Text) (name : Text) (rows : List Row) (command : Command) → subcommand_of bcs_app (spelled words) ≡ Some (name, rows)
    → Some command ≡ command_named name → misuse_in command rows ≡ misuse_of words
found_misuse words name rows command found named =
    sym (ap (λ (o : Option (Text × List Row)). option_and_then (λ p. option_and_then (λ k. misuse_in k p.1) (command_named p.0)) o) found
    ∙ ap (λ (o : Option Command). option_and_then (λ k. misuse_in k rows) o) (sym named))
