-- Where clap finds no fault in the words, they name one of the commands.
use Rattle.bcs_tool_command_line.proofs.Prelude.{◌≡◌, ◌∙◌, ◌⊎◌, ap, subst, sym, refl, inl, inr, codes, true, false, cond, ◌&&◌, Bool, ℕ, List, [], ◌∷◌, ◌++◌, fold, Option, Some, None, is_some, option_map, bytes_eq, DisplayHelp, InvalidSubcommand, long_of, short_of, Kinds, or_else, other_fault, step_fault, turn_fault, walk_fault, word_fault, Shape, Held, Names, Outcome, Rule, Step, Text, Waiting, Walk, after_flag, after_step, answers_to, arg_by_index, arg_by_long, bundle, done, idle, long_met, long_or_other, next, option, plain, plain_word, positional, refused, short_or_plain, subcommand, subcommand_met, subcommand_or_other, to_positional, trailing, value, waits, walked, walked_from, word_met}
use Rattle.std.specs.Prelude.{find}

module _ (c : List Rule) (word name : Text) where
  -- a flag, or a value, isn't taken for a subcommand
  plain_is_none : (waiting : Waiting) (h : Held) → (plain_word c waiting word h).1 ≡ subcommand name → ⊥
  plain_is_none idle h e = cc
  plain_is_none (option id) h e = cc
  plain_is_none positional h e = cc

  flag_is_none : (waiting : Waiting) (h : Held) (o : Outcome) → (after_flag c waiting word h o).1 ≡ subcommand name → ⊥
  flag_is_none waiting h done e = cc
  flag_is_none waiting h (waits id) e = cc
  flag_is_none waiting h plain e = plain_is_none waiting h e
  flag_is_none waiting h refused e = plain_is_none waiting h e

  short_is_none : (waiting : Waiting) (o : Option Text) (h : Held) → (short_or_plain c waiting word o h).1 ≡ subcommand name → ⊥
  short_is_none waiting (Some flags) h e = flag_is_none waiting (bundle c flags h).0 (bundle c flags h).1 e
  short_is_none waiting None h e = plain_is_none waiting h e

  long_is_none : (waiting : Waiting) (o : Option (Text × Option Text)) (h : Held) → (long_or_other c waiting word o h).1 ≡ subcommand name → ⊥
  long_is_none waiting (Some p) h e =
      flag_is_none waiting (long_met c (arg_by_long c p.0) p.1 h).0 (long_met c (arg_by_long c p.0) p.1 h).1 e
  long_is_none waiting None h e = short_is_none waiting (short_of word) h e

  -- a word is taken for a subcommand where it names one
  named : (waiting : Waiting) (position : ℕ) (h : Held) (met : Option Text) → (subcommand_or_other c met waiting position word h).1 ≡ subcommand name → met ≡ Some name
  named waiting position h (Some n) e = cc
  named waiting position h None e = absurd (go (bytes_eq word (45 ∷ 45 ∷ [])) e)
    where
      go : (b : Bool) → (cond b (h, trailing position) (long_or_other c waiting word (long_of word) h)).1 ≡ subcommand name → ⊥
      go true same = cc
      go false same = long_is_none waiting (long_of word) h same

  named_word : (names : Names) (is_trailing : Bool) (waiting : Waiting) (position : ℕ) (h : Held)
      → (word_met c names is_trailing waiting position word h).1 ≡ subcommand name
      → (is_trailing ≡ false) × (subcommand_met names waiting word ≡ Some name)
  named_word names true waiting position h e = cc
  named_word names false waiting position h e = (refl, named waiting position h (subcommand_met names waiting word) e)

abbrev pub IsAmong : Names → Text → Type 0
IsAmong [] name = ⊥
IsAmong (x ∷ xs) name = (x.0 ≡ name) ⊎ IsAmong xs name

-- a name that a word was found by is among the names
among_or : (x : Text × List Text) (xs : Names) (name : Text) (b : Bool) (found : Option (Text × List Text))
    → (option_map (λ s. s.0) found ≡ Some name → IsAmong xs name)
    → option_map (λ s. s.0) (cond b (Some x) found) ≡ Some name → (x.0 ≡ name) ⊎ IsAmong xs name
among_or x xs name true found rest e = inl cc
among_or x xs name false found rest e = inr (rest e)

among : (names : Names) (word name : Text) → option_map (λ s. s.0) (find (answers_to word) names) ≡ Some name → IsAmong names name
among [] word name e = cc
among (x ∷ xs) word name e =
    among_or x xs name (answers_to word x) (find (answers_to word) xs) (λ rest. among xs word name rest) e

met_among : (names : Names) (waiting : Waiting) (word name : Text) → subcommand_met names waiting word ≡ Some name → IsAmong names name
met_among names idle word name e = among names word name e
met_among names (option id) word name e = cc
met_among names positional word name e = cc

-- ---- one word

pub none_left : (a b : Kinds) → or_else a b ≡ [] → (a ≡ []) × (b ≡ [])
none_left [] b e = (refl, e)
none_left (k ∷ ks) b e = cc

not_help : (s : Shape) (name word : Text) (h : Held) → s.disable_help_subcommand ≡ false → other_fault s (Some name) word h ≡ [] → bytes_eq name (codes "help") ≡ false
not_help s name word h enabled none = go (bytes_eq name (codes "help")) (rw (enabled) at none)
  where
    go : (b : Bool) → cond (b && true) (DisplayHelp ∷ InvalidSubcommand ∷ []) [] ≡ [] → b ≡ false
    go true same = cc
    go false same = refl

-- the walk stops at a word that names a subcommand
stops_by : (c : List Rule) (word : Text) (w : Walk) (h : Held) (step : Step) (q : Text × List Text)
    → w.stopped ≡ None → (after_step c word w h step).stopped ≡ Some q → step ≡ subcommand q.0
stops_by c word w h (next waiting) q none e = cc
stops_by c word w h (trailing position) q none e = cc
stops_by c word w h (subcommand name) q none e = cc
stops_by c word w h value q none e = absurd (go (arg_by_index c w.position) e)
  where
    go : (a : Option Rule) → (to_positional c a word w h).stopped ≡ Some q → ⊥
    go None same = cc
    go (Some a) same = cc

-- the subcommand is one of the names, and isn't `help`
pub record IsEntered (names : Names) (name : Text) : Type 0 where
  pub among : IsAmong names name
  pub not_help : bytes_eq name (codes "help") ≡ false

module _ (s : Shape) (names : Names) (enabled : s.disable_help_subcommand ≡ false) where
  turn_enters : (w : Walk) (word : Text) (q : Text × List Text) → w.stopped ≡ None
      → turn_fault s names w word ≡ [] → (walked_from s.rules names w.stopped w word).stopped ≡ Some q → IsEntered names q.0
  turn_enters w word q none passes e =
      let met = word_met s.rules names w.is_trailing w.waiting w.position word w.held in
      let step = stops_by s.rules word w met.0 met.1 q none (ap (λ o. (walked_from s.rules names o w word).stopped) (sym none) ∙ e) in
      let is = named_word s.rules word q.0 names w.is_trailing w.waiting w.position w.held step in
      let passed : or_else (word_fault s names w.is_trailing w.waiting word w.held) (step_fault s w.position met.0 met.1) ≡ [] =
      ap (λ (o : Option (Text × List Text)). cond (is_some o) [] (or_else (word_fault s names w.is_trailing w.waiting word w.held) (step_fault s w.position met.0 met.1))) (sym none) ∙ passes in
      let first = (none_left _ _ passed).0 in
      record {
        among = met_among names w.waiting word q.0 is.1;
        not_help = not_help s q.0 word w.held enabled
            (ap (λ o. other_fault s o word w.held) (sym is.1)
            ∙ (ap (λ (t : Bool). cond t [] (other_fault s (subcommand_met names w.waiting word) word w.held)) (sym is.0) ∙ first));
      }

  -- ---- the whole walk

  stays_one : (c : List Rule) (w : Walk) (word : Text) (o : Option (Text × List Text)) (q : Text × List Text) → o ≡ Some q
      → (walked_from c names o w word).stopped ≡ Some (q.0, q.1 ++ word ∷ [])
  stays_one c w word o q e = ap (λ (x : Option (Text × List Text)). (walked_from c names x w word).stopped) e

  -- after the subcommand its words follow
  stays : (words : List Text) (w : Walk) (p q : Text × List Text) → w.stopped ≡ Some q
      → (fold (walked s.rules names) w words).stopped ≡ Some p → q.0 ≡ p.0
  unfolding walked
  stays [] w p q at e = cc
  stays (x ∷ xs) w p q at e =
      stays xs (walked s.rules names w x) p (q.0, q.1 ++ x ∷ []) (stays_one s.rules w x w.stopped q at) e

  -- one word more, by whether the walk stopped at it
  enters_next : (words : List Text) (w : Walk) (p : Text × List Text) (o : Option (Text × List Text)) → w.stopped ≡ o
      → ((q : Text × List Text) → o ≡ Some q → IsEntered names q.0)
      → (w.stopped ≡ None → IsEntered names p.0)
      → (fold (walked s.rules names) w words).stopped ≡ Some p → IsEntered names p.0
  enters_next words w p None at here rest e = rest at
  enters_next words w p (Some q) at here rest e =
      let P : Text → Type 0 = λ t. IsEntered names t in subst P (stays words w p q at e) (here q refl)

  pub enters : (words : List Text) (w : Walk) (p : Text × List Text) → w.stopped ≡ None → walk_fault s names w words ≡ []
      → (fold (walked s.rules names) w words).stopped ≡ Some p → IsEntered names p.0
  unfolding walk_fault walked
  enters [] w p none passes e = cc
  enters (x ∷ xs) w p none passes e =
      let both = none_left _ _ passes in
      let after = walked s.rules names w x in
      enters_next xs after p after.stopped refl
      (λ q at. turn_enters w x q none both.0 at)
      (λ still. enters xs after p still both.1 e) e
