-- Where clap finds no fault in the words, the options of the command that they name write limits.
use Rattle.bcs_tool_command_line.proofs.Prelude.{◌≡◌, ◌∙◌, ap, subst, sym, refl, true, false, true≢false, cond, not, Bool, ℕ, List, [], ◌∷◌, Option, Some, None, IfSome, codes, drop, pos, slice_get, find, option_map, list_all, option_map_or, bytes_eq, entered_fault, fault_of, level_fault, walk_fault, HasMatchesOf, Shape, argument_words, built, entered, is_simple, label_of, names_of, rows_at, subcommand_of, subcommand_rows_of, Row, Rule, Text, answers_to, nothing_held, stop_after, walk_from, ValueParser, Signed, ArgMatches, both, Bounds, bcs_app, WritesLimits}
use Rattle.clap.specs.Simple.{App}
use Rattle.bcs_tool_command_line.proofs.Subcommands.{none_left}
use Rattle.bcs_tool_command_line.proofs.Values.{AreRows, AreRules, IsRule, level_keeps}
use Rattle.bcs_tool_command_line.proofs.LimitLemmas.{row_limit}

module _ (id : Text) (most : ℕ) where
  abbrev AreShapes : List Shape → Type 0
  AreShapes [] = Unit {0}
  AreShapes (s ∷ ss) = AreRules id (Signed (pos 0) (pos most)) s.rules × AreShapes ss

  found_shape : (f : Shape → Bool) (ss : List Shape) → AreShapes ss → IfSome (find f ss) (λ s. AreRules id (Signed (pos 0) (pos most)) s.rules)
  found_shape f [] h = tt
  found_shape f (s ∷ ss) h = go (f s) (found_shape f ss h.1)
    where
      go : (b : Bool) → IfSome (find f ss) (λ s. AreRules id (Signed (pos 0) (pos most)) s.rules)
          → IfSome (cond b (Some s) (find f ss)) (λ s. AreRules id (Signed (pos 0) (pos most)) s.rules)
      go true rest = h.0
      go false rest = rest

  sub_keeps : (o : Option Shape) → IfSome o (λ s. AreRules id (Signed (pos 0) (pos most)) s.rules) → (words : List Text)
      → option_map_or (λ s. level_fault s [] nothing_held words false []) o [] ≡ []
      → IfSome (option_map (λ s. rows_at s words) o) (λ p. AreRows id (Signed (pos 0) (pos most)) p.1)
  sub_keeps None is words e = tt
  sub_keeps (Some s) is words e = level_keeps id (Signed (pos 0) (pos most)) s is [] words false [] e

  entered_keeps : (a : App) → AreShapes a.subs → (stop : Option (Text × List Text)) → entered_fault a stop ≡ []
      → IfSome (entered a stop) (λ p. AreRows id (Signed (pos 0) (pos most)) p.1)
  entered_keeps a are None e = tt
  entered_keeps a are (Some p) e =
      sub_keeps (find (λ s. answers_to p.0 (label_of s)) a.subs) (found_shape (λ s. answers_to p.0 (label_of s)) a.subs are) p.1 e

  rows_pass : AreShapes (built bcs_app).subs → (words : List Text) → fault_of bcs_app words ≡ []
      → IfSome (subcommand_of bcs_app words) (λ p. AreRows id (Signed (pos 0) (pos most)) p.1)
  rows_pass are words passes =
      let a = built bcs_app in
      let given = argument_words bcs_app words in
      let stop = stop_after a.top.rules (names_of a) given in
      let after = none_left (walk_fault a.top (names_of a) (walk_from nothing_held) given) _ passes in
      let below = none_left (entered_fault a stop) _ after.1 in
      entered_keeps a are stop below.0

-- ---- the options of each command

module _ (id : Text) (q : ValueParser) where
  no : (a : Rule) → bytes_eq a.id id ≡ false → IsRule id q a
  no a other same = absurd (true≢false (sym same ∙ other))

  differs : (b : Bool) → not b ≡ true → b ≡ false
  differs false e = refl
  differs true e = cc

  none : (rules : List Rule) → list_all (λ a. not (bytes_eq a.id id)) rules ≡ true → AreRules id q rules
  none [] e = tt
  none (a ∷ rules) e =
      let p = both _ _ e in (no a (differs (bytes_eq a.id id) p.0), none rules p.1)

-- the arguments of a command by its place
abbrev rules_at : ℕ → List Rule
rules_at place = option_map_or (λ s. s.rules) (slice_get (built bcs_app).subs place) []

depths : AreShapes (codes "depth") 500 (built bcs_app).subs
depths =
    let id = codes "depth" in
    let q = Signed (pos 0) (pos 500) in
    let others : (place : ℕ) → list_all (λ a. not (bytes_eq a.id id)) (rules_at place) ≡ true → AreRules id q (rules_at place) =
    λ place e. none id q (rules_at place) e in
    let example : AreRules id q (rules_at 3) = (no id q _ refl, (no id q _ refl, (λ is. record { action = refl; parser = refl; exact = refl; defaults = refl }, none id q (drop 3 (rules_at 3)) refl))) in
    let encode : AreRules id q (rules_at 6) = (no id q _ refl, (no id q _ refl, (λ is. record { action = refl; parser = refl; exact = refl; defaults = refl }, none id q (drop 3 (rules_at 6)) refl))) in
    let decode : AreRules id q (rules_at 7) = (no id q _ refl, (no id q _ refl, (λ is. record { action = refl; parser = refl; exact = refl; defaults = refl }, none id q (drop 3 (rules_at 7)) refl))) in
    let explain : AreRules id q (rules_at 8) = (no id q _ refl, (no id q _ refl, (λ is. record { action = refl; parser = refl; exact = refl; defaults = refl }, none id q (drop 3 (rules_at 8)) refl))) in
    let normalise : AreRules id q (rules_at 9) = (no id q _ refl, (no id q _ refl, (λ is. record { action = refl; parser = refl; exact = refl; defaults = refl }, none id q (drop 3 (rules_at 9)) refl))) in
    let same : AreRules id q (rules_at 10) = (no id q _ refl, (no id q _ refl, (λ is. record { action = refl; parser = refl; exact = refl; defaults = refl }, none id q (drop 3 (rules_at 10)) refl))) in
    let diff : AreRules id q (rules_at 11) = (no id q _ refl, (no id q _ refl, (λ is. record { action = refl; parser = refl; exact = refl; defaults = refl }, none id q (drop 3 (rules_at 11)) refl))) in
    let part : AreRules id q (rules_at 12) = (no id q _ refl, (no id q _ refl, (λ is. record { action = refl; parser = refl; exact = refl; defaults = refl }, none id q (drop 3 (rules_at 12)) refl))) in
    let scan : AreRules id q (rules_at 13) = (no id q _ refl, (no id q _ refl, (λ is. record { action = refl; parser = refl; exact = refl; defaults = refl }, none id q (drop 3 (rules_at 13)) refl))) in
    (others 0 refl, (others 1 refl, (others 2 refl, (example, (others 4 refl, (others 5 refl, (encode, (decode, (explain, (normalise, (same, (diff, (part, (scan, (others 14 refl, (others 15 refl, tt))))))))))))))))

nodes : AreShapes (codes "nodes") 4294967295 (built bcs_app).subs
nodes =
    let id = codes "nodes" in
    let q = Signed (pos 0) (pos 4294967295) in
    let others : (place : ℕ) → list_all (λ a. not (bytes_eq a.id id)) (rules_at place) ≡ true → AreRules id q (rules_at place) =
    λ place e. none id q (rules_at place) e in
    let example : AreRules id q (rules_at 3) = (no id q _ refl, (no id q _ refl, (no id q _ refl, (λ is. record { action = refl; parser = refl; exact = refl; defaults = refl }, none id q (drop 4 (rules_at 3)) refl)))) in
    let encode : AreRules id q (rules_at 6) = (no id q _ refl, (no id q _ refl, (no id q _ refl, (λ is. record { action = refl; parser = refl; exact = refl; defaults = refl }, none id q (drop 4 (rules_at 6)) refl)))) in
    let decode : AreRules id q (rules_at 7) = (no id q _ refl, (no id q _ refl, (no id q _ refl, (λ is. record { action = refl; parser = refl; exact = refl; defaults = refl }, none id q (drop 4 (rules_at 7)) refl)))) in
    let explain : AreRules id q (rules_at 8) = (no id q _ refl, (no id q _ refl, (no id q _ refl, (λ is. record { action = refl; parser = refl; exact = refl; defaults = refl }, none id q (drop 4 (rules_at 8)) refl)))) in
    let normalise : AreRules id q (rules_at 9) = (no id q _ refl, (no id q _ refl, (no id q _ refl, (λ is. record { action = refl; parser = refl; exact = refl; defaults = refl }, none id q (drop 4 (rules_at 9)) refl)))) in
    let same : AreRules id q (rules_at 10) = (no id q _ refl, (no id q _ refl, (no id q _ refl, (λ is. record { action = refl; parser = refl; exact = refl; defaults = refl }, none id q (drop 4 (rules_at 10)) refl)))) in
    let diff : AreRules id q (rules_at 11) = (no id q _ refl, (no id q _ refl, (no id q _ refl, (λ is. record { action = refl; parser = refl; exact = refl; defaults = refl }, none id q (drop 4 (rules_at 11)) refl)))) in
    let part : AreRules id q (rules_at 12) = (no id q _ refl, (no id q _ refl, (no id q _ refl, (λ is. record { action = refl; parser = refl; exact = refl; defaults = refl }, none id q (drop 4 (rules_at 12)) refl)))) in
    let scan : AreRules id q (rules_at 13) = (no id q _ refl, (no id q _ refl, (no id q _ refl, (λ is. record { action = refl; parser = refl; exact = refl; defaults = refl }, none id q (drop 4 (rules_at 13)) refl)))) in
    (others 0 refl, (others 1 refl, (others 2 refl, (example, (others 4 refl, (others 5 refl, (encode, (decode, (explain, (normalise, (same, (diff, (part, (scan, (others 14 refl, (others 15 refl, tt))))))))))))))))

-- ---- of a parse

limits_of_rows : (found : Option (Text × List Row)) (rows : List Row) → Some rows ≡ option_map (λ p. p.1) found
    → IfSome found (λ p. AreRows (codes "depth") (Signed (pos 0) (pos 500)) p.1)
    → IfSome found (λ p. AreRows (codes "nodes") (Signed (pos 0) (pos 4294967295)) p.1)
    → (limits : Bounds) × WritesLimits rows limits
limits_of_rows None rows is deep many = cc
limits_of_rows (Some p) rows is deep many =
    let same : p.1 ≡ rows = cc in
    let depth = row_limit (codes "depth") 500 p.1 deep in
    let nodes = row_limit (codes "nodes") 4294967295 p.1 many in
    subst (λ (found : List Row). (limits : Bounds) × WritesLimits found limits) same
    (record { depth = depth.0; nodes = nodes.0 }, (depth.1, nodes.1))

-- a parse by the definition that succeeds meets options that write limits
pub met_limits : (a : App) (words : List Text) (m : ArgMatches) (rows : List Row) → a ≡ bcs_app → HasMatchesOf a words m
    → fault_of bcs_app words ≡ [] → Some rows ≡ option_map (λ p. p.1) (subcommand_rows_of m) → (limits : Bounds) × WritesLimits rows limits
met_limits a words m rows same matches passes met =
    let found : subcommand_rows_of m ≡ subcommand_of bcs_app words = (subst (λ (b : App). HasMatchesOf b words m) same matches is_simple_bcs).1 in
    limits_of_rows (subcommand_of bcs_app words) rows (met ∙ ap (option_map (λ p. p.1)) found)
    (rows_pass (codes "depth") 500 depths words passes) (rows_pass (codes "nodes") 4294967295 nodes words passes)
  where
    is_simple_bcs : is_simple bcs_app ≡ true
    is_simple_bcs = refl
