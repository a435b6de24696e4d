-- Each job has an answer to each input within the size limit, with a lemma for each command.
use Rattle.bcs_tool_answers.proofs.Prelude.{◌≡◌, arith, inl, inr, ℕ, List, true, refl, string_bytes, subst, sym, [], Option, Some, None, cases_lt, depth, Entries, Shape, UnknownName, Tree, some_verdict_is, some_verdict_of_all_is, Accepts, AreBytes, Part, Step, part_at, of, nesting_limit, some_bytes, some_normal_text, some_shown_text, SomeAnswer, Answers, IsAsked, IsWithin, checked, compared, damaged, decoded, described, differed, unmade, encoded, exampled, explained, found, front_stopped, grown, no_bytes, no_content, normalised, nowhere, printed_bytes, refused, refused_early, scan_stopped, scanned, sifted, stop_line, stopped, too_nested, GivesBytes, IsFormatWord, IsPathOf, IsRegistry, RefusesJobOf, name_of, works_on_values, JobFault, BadPath, Growth, Registry, coding_of, Work, SpellsSteps, Command}
use Rattle.bcs_registry_model.specs.Container as container
use Rattle.bcs_move_types.specs.declared.refusal.MoveRefusalName.TheVariants.{NotModules}
use Rattle.bcs_json_spec.specs.Shown as value
use Rattle.bcs_tool_answers.specs.Answers.{shown}
use Rattle.bcs_tool_answers.proofs.AnswerLemmas.{refuses_formatted}
use Rattle.bcs_tool_answers.proofs.NotationLemmas.{some_steps}
use Rattle.bcs_tool_answers.proofs.ScanAnswers.{some_scan}
use Rattle.bcs_tool_answers.proofs.SomeInput.{some_given}
use Rattle.bcs_tool_answers.proofs.SomePair.{validated, some_pair}
use Rattle.bcs_tool_answers.proofs.SomeRefusal.{named_or_none, some_formatted, some_growth, some_registry}
use Rattle.bcs_tool_command_line.specs.declared.command.Command.TheVariants as command

module _ (work : Work) (input : List ℕ) where
  abbrev Answered : Type 0
  Answered = (status : ℕ) × (output : List ℕ) × Answers work input status output

  -- ---- the arguments

  refused_words : (c : Command) → work.command ≡ c → (fault : JobFault) → RefusesJobOf c work fault → Answered
  refused_words c is fault h = (_, _, refused_early fault [] (subst (λ (d : Command). RefusesJobOf d work fault) (sym is) h) (λ _. refl))

  some_check : work.command ≡ command.Check → Answered
  some_check is = elim (some_registry work.registry.items) [
    | inl r ↦ (_, _, checked r.0 is r.1)
    | inr h ↦ refused_words command.Check is (Registry h.0) h.1
  ]

  some_grows : work.command ≡ command.Grows → Answered
  some_grows is = elim (some_registry work.registry.items) [
    | inr h ↦ refused_words command.Grows is (Registry h.0) (inl h.1)
    | inl older ↦ elim (some_registry work.second.items) [
      | inr h ↦ refused_words command.Grows is (Registry h.0) (inr (older.0, older.1, h.1))
      | inl newer ↦ elim (some_growth older.0 newer.0) [
        | inl grows ↦ (_, _, grown older.0 newer.0 [] is older.1 newer.1 grows (λ _. refl))
        | inr h ↦ refused_words command.Grows is (Growth h.0) (older.0, newer.0, older.1, newer.1, h.1)
      ]
    ]
  ]

  some_show : work.command ≡ command.Show → Answered
  some_show is = elim (some_registry work.registry.items) [
    | inr h ↦ refused_words command.Show is (Registry h.0) (inl h.1)
    | inl r ↦ elim (named_or_none (name_of work) r.0) [
      | inr known ↦ (_, _, shown r.0 [] is r.1 known)
      | inl none ↦ refused_words command.Show is (Registry UnknownName) (inr (r.0, r.1, none, refl))
    ]
  ]

  some_example : work.command ≡ command.Example → Answered
  some_example is = elim (some_formatted work) [
    | inr h ↦ refused_words command.Example is h.0 h.1
    | inl h ↦ (_, _, exampled h.0 h.1 0 [] (record { is_command = is; is_registry = h.2; is_format = h.3 }) (inl refl))
  ]

  some_schema : work.command ≡ command.Schema → Answered
  some_schema is = elim (some_formatted work) [
    | inr h ↦ refused_words command.Schema is h.0 h.1
    | inl h ↦ (_, _, described h.0 h.1 [] (record { is_command = is; is_registry = h.2; is_format = h.3 }))
  ]

  some_from_move : work.command ≡ command.FromMove → Answered
  some_from_move is = (_, _, unmade NotModules is)

  -- ---- an input, for a format of a registry

  module _ (r : Entries) (s : Shape) (registry : IsRegistry work.registry.items r) where
    some_encode : IsAsked work input command.Encode r s → Answered
    some_encode asked = elim (validated r work.limits s registry.0.2.orderly input) [
      | inl h ↦ let bytes = some_bytes r work.limits s input h.0 h.1 in (_, _, encoded r s bytes.0 asked bytes.1)
      | inr h ↦ (_, _, refused command.Encode r s h.0 (inl refl) asked h.1)
    ]

    some_normalise : IsAsked work input command.Normalise r s → Answered
    some_normalise asked = elim (validated r work.limits s registry.0.2.orderly input) [
      | inl h ↦
          let normal = some_normal_text work.registry.items r work.limits s registry.0 registry.1 input h.0 h.1 in
          (_, _, normalised r s normal.0 asked normal.1)
      | inr h ↦ (_, _, refused command.Normalise r s h.0 (inr refl) asked h.1)
    ]

    some_same : IsAsked work input command.Same r s → Answered
    some_same asked =
        let pair = some_pair r work.limits s work.second.items input registry.0.2.orderly in
        (_, _, compared r s pair.0 pair.1 asked pair.2)

    some_diff : IsAsked work input command.Diff r s → Answered
    some_diff asked = (_, _, differed r s 2 [] asked (omega arith))

    -- the bytes are a value's, whose text is within the nesting limit or not; or they stop
    bytes_answered : IsAsked work input command.Decode r s → (bytes : List ℕ) → AreBytes bytes → GivesBytes (coding_of work) input bytes → Answered
    bytes_answered asked bytes are given = elim (some_verdict_of_all_is r work.limits s bytes are) [
      | inr h ↦ (_, _, stopped r s bytes h.0 h.1 asked given h.2)
      | inl h ↦ elim (cases_lt nesting_limit (depth (value.shown r h.0 (of s)))) [
        | inl deep ↦ (_, _, too_nested r s bytes h.0 asked given h.1 deep)
        | inr low ↦
            let text = some_shown_text work.registry.items r work.limits s registry.0 registry.1 bytes h.0 h.1 low in
            (_, _, decoded r s bytes text.0 asked given text.1)
      ]
    ]

    some_decode : AreBytes input → IsAsked work input command.Decode r s → Answered
    some_decode are asked = elim (some_given input (coding_of work) are) [
      | inl h ↦ bytes_answered asked h.0 h.1 h.2
      | inr none ↦ (_, _, no_bytes command.Decode r s (inl refl) asked none)
    ]

    -- the bytes are a value's or stop being one, and either way they are explained
    explain_answered : IsAsked work input command.Explain r s → (bytes : List ℕ) → AreBytes bytes → GivesBytes (coding_of work) input bytes → Answered
    explain_answered asked bytes are given = elim (some_verdict_of_all_is r work.limits s bytes are) [
      | inl h ↦ (_, _, explained r s bytes [] h.0 asked given h.1)
      | inr h ↦ (_, _, damaged r s bytes (stop_line h.0 h.1) h.0 h.1 asked given h.2 (λ _. refl))
    ]

    some_explain : AreBytes input → IsAsked work input command.Explain r s → Answered
    some_explain are asked = elim (some_given input (coding_of work) are) [
      | inl h ↦ explain_answered asked h.0 h.1 h.2
      | inr none ↦ (_, _, no_bytes command.Explain r s (inr (inr (inl refl))) asked none)
    ]

    -- a value is at the front of the bytes, and the steps lead to a part of it or nowhere; or the bytes stop
    front_answered : IsAsked work input command.Part r s → (path : List Step) → SpellsSteps work.options.notation (string_bytes work.path) path → (bytes : List ℕ) → AreBytes bytes → GivesBytes (coding_of work) input bytes → Answered
    front_answered asked path spells bytes are given = elim (some_verdict_is r work.limits s bytes are) [
      | inr h ↦ (_, _, front_stopped r s bytes h.0 h.1 asked given h.2)
      | inl h ↦ at h.0 h.1 h.2 (part_at r path (container.of s) h.1) refl
    ]
      where
        of_part : (n : ℕ) (c : Tree) → Accepts r work.limits s bytes n c → (x : Part) → part_at r path (container.of s) c ≡ Some x
            → (o : Option (List ℕ)) → printed_bytes work.options.content r x ≡ o → Answered
        of_part n c accepted x is (Some wanted) has = (_, _, found r s path bytes n c x wanted asked spells given accepted is has)
        of_part n c accepted x is None has = (_, _, no_content r s path bytes n c x asked spells given accepted is has)

        at : (n : ℕ) (c : Tree) → Accepts r work.limits s bytes n c → (o : Option Part) → part_at r path (container.of s) c ≡ o → Answered
        at n c accepted None is = (_, _, nowhere r s path bytes n c asked spells given accepted is)
        at n c accepted (Some x) is = of_part n c accepted x is (printed_bytes work.options.content r x) refl

    some_part : AreBytes input → (path : List Step) → SpellsSteps work.options.notation (string_bytes work.path) path → IsAsked work input command.Part r s → Answered
    some_part are path spells asked = elim (some_given input (coding_of work) are) [
      | inl h ↦ front_answered asked path spells h.0 h.1 h.2
      | inr none ↦ (_, _, no_bytes command.Part r s (inr (inl refl)) asked none)
    ]

    -- a value is at the front of the bytes, and is all of them unless only the front is requested; or the bytes stop
    scan_answered : IsAsked work input command.Scan r s → (bytes : List ℕ) → AreBytes bytes → GivesBytes (coding_of work) input bytes → Answered
    scan_answered asked bytes are given = elim (some_scan r work.limits s bytes work.options.front are) [
      | inl h ↦ (_, _, scanned r s bytes h.0 h.1 asked given h.2.0 h.2.1)
      | inr h ↦ (_, _, scan_stopped r s bytes h.0 h.1 asked given h.2)
    ]

    some_scanned : AreBytes input → IsAsked work input command.Scan r s → Answered
    some_scanned are asked = elim (some_given input (coding_of work) are) [
      | inl h ↦ scan_answered asked h.0 h.1 h.2
      | inr none ↦ (_, _, no_bytes command.Scan r s (inr (inr (inr (inl refl)))) asked none)
    ]

    some_sifted : AreBytes input → IsAsked work input command.Which r s → Answered
    some_sifted are asked = elim (some_given input (coding_of work) are) [
      | inl h ↦ (_, _, sifted r s h.0 0 [] asked h.2 (inl refl))
      | inr none ↦ (_, _, no_bytes command.Which r s (inr (inr (inr (inr refl)))) asked none)
    ]

  -- ---- each command

  -- a command on values reads its input if its arguments are valid
  asks_for : (c : Command) → works_on_values c ≡ true → IsWithin work input → work.command ≡ c → (r : Entries) (s : Shape) → IsRegistry work.registry.items r → IsFormatWord r (string_bytes work.format) s
      → (path : List Step) → IsPathOf c work.options.notation (string_bytes work.path) path → IsAsked work input c r s
  asks_for c values within is r s registry format path spells =
      let works : works_on_values work.command ≡ true = subst (λ (d : Command). works_on_values d ≡ true) (sym is) values in
      let has : IsPathOf work.command work.options.notation (string_bytes work.path) path = subst (λ (d : Command). IsPathOf d work.options.notation (string_bytes work.path) path) (sym is) spells in
      record { is_command = is; asks = record { command = works; is_registry = registry; is_format = format; has_path = (path, has) }; within = within }

  -- a command on values without a PATH, given its answer for valid arguments
  valued : (c : Command) → works_on_values c ≡ true → IsPathOf c work.options.notation (string_bytes work.path) [] → IsWithin work input
      → ((r : Entries) (s : Shape) → IsRegistry work.registry.items r → IsAsked work input c r s → Answered) → work.command ≡ c → Answered
  valued c values none within answer is = elim (some_formatted work) [
    | inr h ↦ refused_words c is h.0 (refuses_formatted c work h.0 values h.1)
    | inl h ↦ answer h.0 h.1 h.2 (asks_for c values within is h.0 h.1 h.2 h.3 [] none)
  ]

  -- the command with a PATH
  of_part : AreBytes input → IsWithin work input → work.command ≡ command.Part → Answered
  of_part are within is = elim (some_formatted work) [
    | inr h ↦ refused_words command.Part is h.0 (refuses_formatted command.Part work h.0 refl h.1)
    | inl h ↦ elim (some_steps work.options.notation (string_bytes work.path)) [
      | inr none ↦ refused_words command.Part is BadPath (h.0, h.1, h.2, h.3, none)
      | inl path ↦ some_part h.0 h.1 h.2 are path.0 path.1 (asks_for command.Part refl within is h.0 h.1 h.2 h.3 path.0 path.1)
    ]
  ]

  of_command : AreBytes input → IsWithin work input → (c : Command) → work.command ≡ c → Answered
  of_command are within command.Check is = some_check is
  of_command are within command.Grows is = some_grows is
  of_command are within command.Show is = some_show is
  of_command are within command.Example is = some_example is
  of_command are within command.Schema is = some_schema is
  of_command are within command.FromMove is = some_from_move is
  of_command are within command.Encode is = valued command.Encode refl refl within some_encode is
  of_command are within command.Decode is = valued command.Decode refl refl within (λ r s registry asked. some_decode r s registry are asked) is
  of_command are within command.Explain is = valued command.Explain refl refl within (λ r s registry asked. some_explain r s registry are asked) is
  of_command are within command.Normalise is = valued command.Normalise refl refl within some_normalise is
  of_command are within command.Same is = valued command.Same refl refl within some_same is
  of_command are within command.Diff is = valued command.Diff refl refl within some_diff is
  of_command are within command.Part is = of_part are within is
  of_command are within command.Scan is = valued command.Scan refl refl within (λ r s registry asked. some_scanned r s registry are asked) is
  of_command are within command.Which is = valued command.Which refl refl within (λ r s registry asked. some_sifted r s registry are asked) is

pub some_answer : SomeAnswer
some_answer work input are within = of_command work input are within work.command refl
