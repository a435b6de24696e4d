-- Where clap finds no fault in the words, each value that they give an option passed the option's parser.
use Rattle.bcs_tool_command_line.proofs.Prelude.{◌≡◌, ◌∙◌, ◌+◌, ap, ap₂, subst, min, unwrap_or, sym, refl, true, false, true≢false, cond, ◌&&◌, Bool, ℕ, zero, suc, List, [], ◌∷◌, ◌++◌, drop, fold, length, encode_utf8, slice_get, Option, Some, None, is_some, IfSome, find, list_all, option_map_or, bytes_eq, chars, list_all-append, bytes_eq-Decides, ArgAction, Set, SetTrue, SetFalse, Append, Count, HelpShort, HelpLong, Version, Reading, ValueParser, ErrorKind, TooManyValues, ValueSource, CommandLine, DefaultValue, long_of, short_of, reading_of, accepts, parser_of_value, unwrap_or_range, Kinds, or_else, range_kinds, values_kinds, action_fault, bundle_fault, bundle_step_fault, flag_word_fault, flags_fault, level_fault, long_fault, option_fault, other_fault, react_fault, repeat_fault, set_fault, settle_fault, short_fault, step_fault, stray_fault, turn_fault, use_fault, values_fault, walk_fault, word_fault, Shape, Held, Names, Outcome, Row, Rule, Step, Text, Waiting, Walk, action_of, after_flag, after_step, arg_by_id, arg_by_index, arg_by_long, arg_by_short, at_row, attached_value, bundle, bundle_met, bundle_step, count_of, counted, default_rows, done, flag_met, has_row, idle, is_pending, long_met, long_or_other, more_values, most_values, new_count, next, nothing_held, option, option_met, option_word, plain, plain_word, positional, reacted, reading_by, refused, rows_after, settled, short_met, short_or_plain, subcommand, subcommand_met, subcommand_or_other, takes_several, takes_values, to_positional, trailing, used, used_as, used_by_id, value, values_or_missing, waits, walk, walk_from, walked, walked_from, with_count, with_default, with_values, without, word_met}
use Rattle.clap.specs.declared.builder.action.ArgAction.TheVariants.{Help}
use Rattle.bcs_tool_command_line.proofs.Subcommands.{none_left}

module _ (id : Text) (q : ValueParser) where
  -- an argument of this id is an option whose values pass the parser, and has no default
  pub record IsOption (a : Rule) : Type 0 where
    pub action : a.action ≡ Some Set
    pub parser : a.parser ≡ Some q
    pub exact : a.ignore_case ≡ false
    pub defaults : a.defaults ≡ []

  abbrev pub IsRule : Rule → Type 0
  IsRule a = bytes_eq a.id id ≡ true → IsOption a

  abbrev pub AreRules : List Rule → Type 0
  AreRules [] = Unit {0}
  AreRules (a ∷ c) = IsRule a × AreRules c

  -- a row of this id has values that pass it, and are read as it says
  pub record Passed (r : Row) : Type 0 where
    pub values : list_all (accepts false q) r.values ≡ true
    pub reading : r.reading ≡ reading_of q

  abbrev pub IsRow : Row → Type 0
  IsRow r = bytes_eq r.id id ≡ true → Passed r

  abbrev pub AreRows : List Row → Type 0
  AreRows [] = Unit {0}
  AreRows (r ∷ rs) = IsRow r × AreRows rs

  -- ---- values

  passes : (b : Bool) (k : ErrorKind) → cond b [] (k ∷ []) ≡ [] → b ≡ true
  passes true k e = refl
  passes false k e = cc

  accepted : (values : List Text) → values_kinds false q values ≡ [] → list_all (accepts false q) values ≡ true
  accepted [] e = refl
  accepted (v ∷ vs) e =
      let p = none_left _ _ e in rw (passes (accepts false q v) _ p.0) (accepted vs p.1)

  all_of_both : (xs ys : List Text) → list_all (accepts false q) xs ≡ true → list_all (accepts false q) ys ≡ true
      → list_all (accepts false q) (xs ++ ys) ≡ true
  all_of_both xs ys a b = list_all-append (accepts false q) xs ys ∙ rw (a) b

  -- ---- rows

  joined : (xs ys : List Row) → AreRows xs → AreRows ys → AreRows (xs ++ ys)
  joined [] ys a b = b
  joined (x ∷ xs) ys a b = (a.0, joined xs ys a.1 b)

  module _ (key : Text) (change : Row → List Row) (missing : List Row)
      (step : (r : Row) → bytes_eq r.id key ≡ true → IsRow r → AreRows (change r)) (last : AreRows missing) where
    at_row_keeps : (rows : List Row) → AreRows rows → AreRows (at_row key change missing rows)
    at_row_keeps [] h = last
    at_row_keeps (r ∷ rs) h = go (bytes_eq r.id key) refl (at_row_keeps rs h.1)
      where
        go : (b : Bool) → bytes_eq r.id key ≡ b → AreRows (at_row key change missing rs) → AreRows (cond b (change r ++ rs) (r ∷ at_row key change missing rs))
        go true e rest = joined (change r) rs (step r e h.0) h.1
        go false e rest = (h.0, rest)

  without_keeps : (key : Text) (rows : List Row) → AreRows rows → AreRows (without key rows)
  without_keeps key rows h = at_row_keeps key (λ _. []) [] (λ r e is. tt) tt rows h

  -- two rows of one key, of which that is not the id
  other_row : (key : Text) (t : Text) → bytes_eq key id ≡ false → bytes_eq t key ≡ true → bytes_eq t id ≡ true → ⊥
  other_row key t other same e =
      let is : t ≡ key = (bytes_eq-Decides t key).0 same in
      true≢false (sym e ∙ (ap (λ (x : Text). bytes_eq x id) is ∙ other))

  module _ (key : Text) (other : bytes_eq key id ≡ false) where
    values_keep : (how : Reading) (s : ValueSource) (values : List Text) (rows : List Row) → AreRows rows → AreRows (with_values key how s values rows)
    values_keep how s values rows h =
        at_row_keeps key (more_values s values) _ (λ r e is. (λ same. absurd (other_row key r.id other e same), tt))
        (λ same. absurd (true≢false (sym same ∙ other)), tt) rows h

    count_keeps : (how : Reading) (s : ValueSource) (n : ℕ) (rows : List Row) → AreRows rows → AreRows (with_count key how s n rows)
    count_keeps how s n rows h =
        at_row_keeps key (new_count s n) _ (λ r e is. (λ same. absurd (other_row key r.id other e same), tt))
        (λ same. absurd (true≢false (sym same ∙ other)), tt) rows h

    counted_keeps : (how : Reading) (values : List Text) (rows : List Row) → AreRows rows → AreRows (counted key how values rows)
    counted_keeps how [] rows h = count_keeps how CommandLine (min (count_of key rows + 1) 255) (without key rows) (without_keeps key rows h)
    counted_keeps how (v ∷ vs) rows h = values_keep how CommandLine (v ∷ vs) (without key rows) (without_keeps key rows h)

    other_use_keeps : (action : ArgAction) (how : Reading) (values : List Text) (rows : List Row) → AreRows rows → AreRows (used_as action key how values rows)
    other_use_keeps Set how values rows h = values_keep how CommandLine values _ (without_keeps key rows h)
    other_use_keeps SetTrue how values rows h = values_keep how CommandLine values _ (without_keeps key rows h)
    other_use_keeps SetFalse how values rows h = values_keep how CommandLine values _ (without_keeps key rows h)
    other_use_keeps Append how values rows h = values_keep how CommandLine values rows h
    other_use_keeps Count how values rows h = counted_keeps how values rows h
    other_use_keeps Help how values rows h = h
    other_use_keeps HelpShort how values rows h = h
    other_use_keeps HelpLong how values rows h = h
    other_use_keeps Version how values rows h = h

  -- values of the option itself
  own_values_keep : (a : Rule) → IsOption a → (s : ValueSource) (values : List Text) (rows : List Row) → list_all (accepts false q) values ≡ true
      → AreRows rows → AreRows (with_values a.id (reading_by a) s values rows)
  own_values_keep a is s values rows good h =
      at_row_keeps a.id (more_values s values) _
      (λ r e was. (λ same. let before = was same in record { values = all_of_both r.values values before.values good; reading = before.reading }, tt))
      (λ same. record { values = good; reading = rw (is.parser) refl }, tt) rows h

  own_use_keeps : (a : Rule) → IsOption a → (again : Bool) (values : List Text) (rows : List Row) → use_fault again a values rows ≡ []
      → AreRows rows → AreRows (used a values rows)
  own_use_keeps a is again values rows e h =
      let given = values_or_missing a values in
      let late = (none_left (range_kinds (unwrap_or_range a.range).start_inclusive (most_values a) (length values))
      (action_fault (action_of a) again a given rows) e).1 in
      let set : set_fault again a given rows ≡ [] = ap (λ (o : Option ArgAction). action_fault (unwrap_or o Set) again a given rows) (sym is.action) ∙ late in
      let passed = (none_left (repeat_fault again a.id rows) (values_fault a given) set).1 in
      let good = accepted given (ap₂ (λ (b : Bool) (o : Option ValueParser). values_kinds b (parser_of_value o) given) (sym is.exact) (sym is.parser) ∙ passed) in
      let by_set = own_values_keep a is CommandLine given (without a.id rows) good (without_keeps a.id rows h) in
      subst (λ (o : Option ArgAction). AreRows (used_as (unwrap_or o Set) a.id (reading_by a) given rows)) (sym is.action) by_set

  use_keeps : (a : Rule) → IsRule a → (again : Bool) (values : List Text) (rows : List Row) → use_fault again a values rows ≡ []
      → AreRows rows → AreRows (used a values rows)
  use_keeps a is again values rows e h = go (bytes_eq a.id id) refl
    where
      go : (b : Bool) → bytes_eq a.id id ≡ b → AreRows (used a values rows)
      go true same = own_use_keeps a (is same) again values rows e h
      go false other = other_use_keeps a.id other (action_of a) (reading_by a) (values_or_missing a values) rows h

  -- ---- what is held, by the rules of a command

  found_rule : (f : Rule → Bool) (c : List Rule) → AreRules c → IfSome (find f c) IsRule
  found_rule f [] h = tt
  found_rule f (a ∷ c) h = go (f a) (found_rule f c h.1)
    where
      go : (b : Bool) → IfSome (find f c) IsRule → IfSome (cond b (Some a) (find f c)) IsRule
      go true rest = h.0
      go false rest = rest

  module _ (c : List Rule) (again : Bool) (rules : AreRules c) where
    by_id_keeps : (o : Option Rule) → IfSome o IsRule → (values : List Text) (rows : List Row)
        → option_map_or (λ a. use_fault again a values rows) o [] ≡ [] → AreRows rows → AreRows (used_by_id o values rows)
    by_id_keeps None is values rows e h = h
    by_id_keeps (Some a) is values rows e h = use_keeps a is again values rows e h

    settled_keeps : (h : Held) → settle_fault c again h ≡ [] → AreRows h.rows → AreRows (settled c h).rows
    settled_keeps h e rows = go h.pending e
      where
        go : (o : Option (Text × List Text))
            → option_map_or (λ p. option_map_or (λ a. use_fault again a p.1 h.rows) (arg_by_id c p.0) []) o [] ≡ []
            → AreRows (settled c (record h { pending = o })).rows
        go None none = rows
        go (Some p) none = by_id_keeps (arg_by_id c p.0) (found_rule _ c rules) p.1 h.rows none rows

    reacted_keeps : (a : Rule) → IsRule a → (values : List Text) (h : Held) → react_fault c again a values h ≡ [] → AreRows h.rows
        → AreRows (reacted c a values h).rows
    reacted_keeps a is values h e rows =
        let p = none_left _ _ e in use_keeps a is again values (settled c h).rows p.1 (settled_keeps h p.0 rows)

    option_keeps : (a : Rule) → IsRule a → (o : Option Text) (h : Held) → option_fault c again a o h ≡ [] → AreRows h.rows
        → AreRows (option_met c a o h).0.rows
    option_keeps a is (Some v) h e rows = reacted_keeps a is (v ∷ []) h e rows
    option_keeps a is None h e rows = settled_keeps h e rows

    long_keeps : (o : Option Rule) → IfSome o IsRule → (v : Option Text) (h : Held) → long_fault c again o v h ≡ [] → AreRows h.rows
        → AreRows (long_met c o v h).0.rows
    long_keeps None is v h e rows = rows
    long_keeps (Some a) is v h e rows = go (takes_values a) v e
      where
        go : (b : Bool) (o : Option Text)
            → cond b (option_fault c again a o h) (cond (is_some o) (TooManyValues ∷ []) (react_fault c again a [] h)) ≡ []
            → AreRows (cond b (option_met c a o h) (flag_met c a o h)).0.rows
        go true o none = option_keeps a is o h none rows
        go false (Some w) none = cc
        go false None none = reacted_keeps a is [] h none rows

    short_keeps : (o : Option Rule) → IfSome o IsRule → (rest : Text) (h : Held) (later : Held → Held × Outcome) (fault : Held → Kinds)
        → ((g : Held) → fault g ≡ [] → AreRows g.rows → AreRows (later g).0.rows)
        → short_fault c again o rest h fault ≡ [] → AreRows h.rows → AreRows (short_met c o rest h later).0.rows
    short_keeps None is rest h later fault more e rows = rows
    short_keeps (Some a) is rest h later fault more e rows = go (takes_values a) e
      where
        go : (b : Bool) → cond b (option_fault c again a (attached_value rest) h) (or_else (react_fault c again a [] h) (fault (reacted c a [] h))) ≡ []
            → AreRows (cond b (option_met c a (attached_value rest) h) (later (reacted c a [] h))).0.rows
        go true none = option_keeps a is (attached_value rest) h none rows
        go false none =
            let p = none_left _ _ none in more (reacted c a [] h) p.1 (reacted_keeps a is [] h p.0 rows)

    flags_step : (k : ℕ) (flags : Text) (o : Option ℕ) (skip : ℕ) (so_far : Outcome) (h : Held)
        → ((rest : Text) (over : ℕ) (before : Outcome) (g : Held) → flags_fault c again k rest over g ≡ [] → AreRows g.rows
        → AreRows (bundle_met c k rest over before g).0.rows)
        → bundle_step_fault c again o flags skip h (flags_fault c again k) ≡ [] → AreRows h.rows
        → AreRows (bundle_step c o flags skip so_far h (bundle_met c k)).0.rows
    flags_step k flags None skip so_far h more e rows = rows
    flags_step k flags (Some x) zero so_far h more e rows =
        let rest = drop (length (encode_utf8 x)) flags in
        short_keeps (arg_by_short c x) (found_rule _ c rules) rest h (bundle_met c k rest 0 done) (flags_fault c again k rest 0)
        (λ g none before. more rest 0 done g none before) e rows
    flags_step k flags (Some x) (suc skip) so_far h more e rows =
        more (drop (length (encode_utf8 x)) flags) skip so_far h e rows

    flags_keep : (k : ℕ) (flags : Text) (skip : ℕ) (so_far : Outcome) (h : Held) → flags_fault c again k flags skip h ≡ [] → AreRows h.rows
        → AreRows (bundle_met c k flags skip so_far h).0.rows
    unfolding flags_fault bundle_met
    flags_keep zero flags skip so_far h e rows = rows
    flags_keep (suc k) flags skip so_far h e rows =
        flags_step k flags (slice_get (chars flags) 0) skip so_far h
        (λ rest over before g none was. flags_keep k rest over before g none was) e rows

    -- a word that is no flag changes no rows, nor does what comes of a flag
    plain_keeps : (waiting : Waiting) (word : Text) (h : Held) → AreRows h.rows → AreRows (plain_word c waiting word h).0.rows
    plain_keeps idle word h rows = rows
    plain_keeps positional word h rows = rows
    plain_keeps (option name) word h rows = go (arg_by_id c name)
      where
        go : (o : Option Rule) → AreRows (option_word o name word h).0.rows
        go None = rows
        go (Some a) = rows

    after_keeps : (waiting : Waiting) (word : Text) (h : Held) (o : Outcome) → AreRows h.rows → AreRows (after_flag c waiting word h o).0.rows
    after_keeps waiting word h done rows = rows
    after_keeps waiting word h (waits name) rows = rows
    after_keeps waiting word h plain rows = plain_keeps waiting word h rows
    after_keeps waiting word h refused rows = plain_keeps waiting word h rows

    bundle_keeps : (waiting : Waiting) (word : Text) (o : Option Text) (h : Held)
        → option_map_or (λ flags. bundle_fault c again flags h) o [] ≡ [] → AreRows h.rows
        → AreRows (short_or_plain c waiting word o h).0.rows
    bundle_keeps waiting word None h e rows = plain_keeps waiting word h rows
    bundle_keeps waiting word (Some flags) h e rows =
        let met = bundle c flags h in
        after_keeps waiting word met.0 met.1 (flags_keep (length flags) flags h.skip plain (record h { skip = 0 }) e rows)

    flag_word_keeps : (waiting : Waiting) (word : Text) (o : Option (Text × Option Text)) (h : Held)
        → flag_word_fault c again o word h ≡ [] → AreRows h.rows → AreRows (long_or_other c waiting word o h).0.rows
    flag_word_keeps waiting word None h e rows = bundle_keeps waiting word (short_of word) h e rows
    flag_word_keeps waiting word (Some p) h e rows =
        let met = long_met c (arg_by_long c p.0) p.1 h in
        after_keeps waiting word met.0 met.1 (long_keeps (arg_by_long c p.0) (found_rule _ c rules) p.1 h e rows)

  -- ---- the walk

  module _ (s : Shape) (rules : AreRules s.rules) where
    other_word_keeps : (o : Option Text) (waiting : Waiting) (position : ℕ) (word : Text) (h : Held) → other_fault s o word h ≡ []
        → AreRows h.rows → AreRows (subcommand_or_other s.rules o waiting position word h).0.rows
    other_word_keeps (Some name) waiting position word h e rows = rows
    other_word_keeps None waiting position word h e rows = go (bytes_eq word (45 ∷ 45 ∷ [])) e
      where
        go : (b : Bool) → cond b [] (flag_word_fault s.rules s.args_override_self (long_of word) word h) ≡ []
            → AreRows (cond b (h, trailing position) (long_or_other s.rules waiting word (long_of word) h)).0.rows
        go true none = rows
        go false none = flag_word_keeps s.rules s.args_override_self rules waiting word (long_of word) h none rows

    word_keeps : (names : Names) (is_trailing : Bool) (waiting : Waiting) (position : ℕ) (word : Text) (h : Held)
        → word_fault s names is_trailing waiting word h ≡ [] → AreRows h.rows
        → AreRows (word_met s.rules names is_trailing waiting position word h).0.rows
    word_keeps names true waiting position word h e rows = rows
    word_keeps names false waiting position word h e rows =
        other_word_keeps (subcommand_met names waiting word) waiting position word h e rows

    to_positional_keeps : (o : Option Rule) (word : Text) (w : Walk) (h : Held)
        → option_map_or (λ a. cond (is_pending a h.pending && takes_several a) [] (settle_fault s.rules s.args_override_self h)) o (stray_fault s) ≡ []
        → AreRows h.rows → AreRows (to_positional s.rules o word w h).held.rows
    to_positional_keeps None word w h e rows = rows
    to_positional_keeps (Some a) word w h e rows = go (is_pending a h.pending && takes_several a) e
      where
        go : (b : Bool) → cond b [] (settle_fault s.rules s.args_override_self h) ≡ [] → AreRows (cond b h (settled s.rules h)).rows
        go true none = rows
        go false none = settled_keeps s.rules s.args_override_self rules h none rows

    step_keeps : (word : Text) (w : Walk) (h : Held) (step : Step) → step_fault s w.position h step ≡ [] → AreRows h.rows
        → AreRows (after_step s.rules word w h step).held.rows
    step_keeps word w h (next waiting) e rows = rows
    step_keeps word w h (trailing position) e rows = rows
    step_keeps word w h (subcommand name) e rows = rows
    step_keeps word w h value e rows = to_positional_keeps (arg_by_index s.rules w.position) word w h e rows

    turn_keeps : (names : Names) (w : Walk) (word : Text) (o : Option (Text × List Text)) → w.stopped ≡ o → turn_fault s names w word ≡ []
        → AreRows w.held.rows → AreRows (walked_from s.rules names o w word).held.rows
    turn_keeps names w word (Some p) at e rows = rows
    turn_keeps names w word None at e rows =
        let met = word_met s.rules names w.is_trailing w.waiting w.position word w.held in
        let running : or_else (word_fault s names w.is_trailing w.waiting word w.held) (step_fault s w.position met.0 met.1) ≡ [] =
        ap (λ (o : Option (Text × List Text)). cond (is_some o) [] (or_else (word_fault s names w.is_trailing w.waiting word w.held) (step_fault s w.position met.0 met.1))) (sym at) ∙ e in
        let p = none_left _ _ running in
        step_keeps word w met.0 met.1 p.1 (word_keeps names w.is_trailing w.waiting w.position word w.held p.0 rows)

    walk_keeps : (names : Names) (words : List Text) (w : Walk) → walk_fault s names w words ≡ [] → AreRows w.held.rows
        → AreRows (fold (walked s.rules names) w words).held.rows
    unfolding walk_fault walked
    walk_keeps names [] w e rows = rows
    walk_keeps names (word ∷ rest) w e rows =
        let p = none_left _ _ e in
        walk_keeps names rest (walked s.rules names w word) p.1 (turn_keeps names w word w.stopped refl p.0 rows)

    -- ---- defaults

    default_keeps : (a : Rule) → IsRule a → (rows : List Row) → AreRows rows → AreRows (with_default rows a)
    default_keeps a is rows h = go (has_row a.id rows)
      where
        own : (b : Bool) → bytes_eq a.id id ≡ b → (values : List Text) → a.defaults ≡ values → AreRows (default_rows a.id (reading_by a) values rows)
        own b same [] at = h
        own true same (v ∷ vs) at =
            let bad : v ∷ vs ≡ [] = sym at ∙ (is same).defaults in cc
        own false other (v ∷ vs) at = values_keep a.id other (reading_by a) DefaultValue (v ∷ vs) rows h

        go : (b : Bool) → AreRows (cond b rows (default_rows a.id (reading_by a) a.defaults rows))
        go true = h
        go false = own (bytes_eq a.id id) refl a.defaults refl

    defaults_keep : (c : List Rule) → AreRules c → (rows : List Row) → AreRows rows → AreRows (fold with_default rows c)
    defaults_keep [] are rows h = h
    defaults_keep (a ∷ c) are rows h = defaults_keep c are.1 (with_default rows a) (default_keeps a are.0 rows h)

    -- a level of the parse that has no fault
    pub level_keeps : (names : Names) (words : List Text) (has_subcommand : Bool) (below : Kinds)
        → level_fault s names nothing_held words has_subcommand below ≡ [] → AreRows (rows_after s.rules names words)
    level_keeps names words has_subcommand below e =
        let end = (walk s.rules names nothing_held words).held in
        let first = none_left _ _ e in
        let second = none_left below _ first.1 in
        let third = none_left (settle_fault s.rules s.args_override_self end) _ second.1 in
        defaults_keep s.rules rules (settled s.rules end).rows
        (settled_keeps s.rules s.args_override_self rules end third.0 (walk_keeps names words (walk_from nothing_held) first.0 tt))
