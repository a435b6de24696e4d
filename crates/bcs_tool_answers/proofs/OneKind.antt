-- For a registry and a format there is at most one answer of each kind.
use Rattle.bcs_tool_answers.proofs.Prelude.{◌≡◌, ◌<◌, ◌∙◌, ◌⊎◌, inl, inr, ℕ, List, Some, None, Ok, codes, length, ap, ap₂, arith, sym, subst, depth, compact_text, Entries, IsOrderly, Shape, same-refl, Tree, bytes_decide_same, forms_same, Encodes, IsForm, Accepts, Stops, StopsAll, accepts_once_is, no_two_verdicts_are, no_two_verdicts_of_all_are, stops_all_once_is, stops_once_is, Step, Part, part_at, Reason, HasBytes, Normalises, ShowsBytes, of, shown, nesting_limit, shown_is_lowest, denotes_once, coding_of, Coding, Hexadecimal, Base64, Raw, Work, ScanStops, count_line, line_of, printed, printed_bytes, printed_none, printed_part, printed_place, refusal_line, stop_line}
use Rattle.bcs_registry_model.specs.Container as container
use Rattle.bcs_tool_answers.proofs.Base64Lemmas.{one_base64}
use Rattle.bcs_tool_answers.proofs.OnePair.{Agrees, Refused, not_both, one_refused}
use Rattle.bcs_tool_answers.proofs.ScanAnswers.{Scans, not_scanned, one_count, one_scan_stop}
use Rattle.bcs_tool_answers.specs.Input as given

-- an input gives at most one byte string
one_given : (coding : Coding) (input b c : List ℕ) → given.GivesBytes coding input b → given.GivesBytes coding input c → b ≡ c
one_given Hexadecimal input b c h k = let same : Ok b ≡ Ok c = sym h ∙ k in cc
one_given Base64 input b c h k = one_base64 (given.without_blanks input) b c h k
one_given Raw input b c h k = h ∙ sym k

module _ (work : Work) (input : List ℕ) where
  -- ---- the answers for a registry and a format

  module _ (r : Entries) (f : Shape) where
    abbrev pub Encoded : ℕ → List ℕ → Type 0
    Encoded s p = ((b : List ℕ) × HasBytes r work.limits f input b × (s ≡ 0) × (p ≡ printed (coding_of work) b)) ⊎ Refused r work.limits f input s p

    abbrev pub Normalised : ℕ → List ℕ → Type 0
    Normalised s p = ((t : List ℕ) × Normalises r work.limits f input t × (s ≡ 0) × (p ≡ line_of t)) ⊎ Refused r work.limits f input s p

    abbrev pub Shown : List ℕ → ℕ → List ℕ → Type 0
    Shown bytes s p = ((t : List ℕ) × ShowsBytes r work.limits f bytes t × (s ≡ 0) × (p ≡ line_of t))
        ⊎ (((e : Reason) × (o : ℕ) × StopsAll r work.limits f bytes e o × (s ≡ 2) × (p ≡ stop_line e o))
        ⊎ ((c : Tree) × Accepts r work.limits f bytes (length bytes) c × (nesting_limit < depth (shown r c (of f))) × (s ≡ 2) × (p ≡ refusal_line (codes "TooNested"))))

    -- the answer if the input gives bytes, and if it gives none
    abbrev pub Given : (List ℕ → ℕ → List ℕ → Type 0) → ℕ → List ℕ → Type 0
    Given P s p = ((bytes : List ℕ) × given.GivesBytes (coding_of work) input bytes × P bytes s p)
        ⊎ (((bytes : List ℕ) → given.GivesBytes (coding_of work) input bytes → ⊥) × (s ≡ 2) × (p ≡ refusal_line (given.input_fault_name (coding_of work))))

    abbrev pub Decoded : ℕ → List ℕ → Type 0
    Decoded s p = Given Shown s p

    -- what is printed of a part
    abbrev pub OfPart : Part → ℕ → List ℕ → Type 0
    OfPart x s p = ((b : List ℕ) × (printed_bytes work.options.content r x ≡ Some b) × (s ≡ 0) × (p ≡ printed_part work.options.range (coding_of work) (printed_place work.options.content x) b))
        ⊎ ((printed_bytes work.options.content r x ≡ None) × (s ≡ 2) × (p ≡ refusal_line (codes "NoContent")))

    -- what is printed of the value at the front of the bytes
    abbrev pub Led : List Step → Tree → ℕ → List ℕ → Type 0
    Led path c s p = ((x : Part) × (part_at r path (container.of f) c ≡ Some x) × OfPart x s p)
        ⊎ ((part_at r path (container.of f) c ≡ None) × (s ≡ 1) × (p ≡ printed_none (coding_of work)))

    abbrev pub Fronted : List Step → List ℕ → ℕ → List ℕ → Type 0
    Fronted path bytes s p = ((n : ℕ) × (c : Tree) × Accepts r work.limits f bytes n c × Led path c s p)
        ⊎ ((e : Reason) × (o : ℕ) × Stops r work.limits f bytes e o × (s ≡ 2) × (p ≡ stop_line e o))

    abbrev pub Parted : List Step → ℕ → List ℕ → Type 0
    Parted path s p = Given (Fronted path) s p

    -- the length in bytes of the scanned value, or where the bytes stop
    abbrev pub Counted : List ℕ → ℕ → List ℕ → Type 0
    Counted bytes s p = ((n : ℕ) × (c : Tree) × Scans r work.limits f bytes work.options.front n c × (s ≡ 0) × (p ≡ count_line n))
        ⊎ ((e : Reason) × (o : ℕ) × ScanStops work.options.front r work.limits f bytes e o × (s ≡ 2) × (p ≡ stop_line e o))

    abbrev pub Scanned : ℕ → List ℕ → Type 0
    Scanned s p = Given Counted s p

  -- ---- one of each

  module _ (r : Entries) (f : Shape) (orderly : IsOrderly r) where
    one_encoding : (b c : List ℕ) → HasBytes r work.limits f input b → HasBytes r work.limits f input c → b ≡ c
    one_encoding b c h k =
        let own : Encodes r work.limits f h.value c = subst (λ (t : Tree). Encodes r work.limits f t c) (denotes_once r work.limits f input k.value h.value k.denoted h.denoted) k.encoded in
        (bytes_decide_same r work.limits f h.value h.value b c h.encoded own).0 (same-refl h.value)

    one_normal : (t u : List ℕ) → Normalises r work.limits f input t → Normalises r work.limits f input u → t ≡ u
    one_normal t u h k =
        let own : IsForm r (container.of f) h.value k.form = subst (λ (v : Tree). IsForm r (container.of f) v k.form) (denotes_once r work.limits f input k.value h.value k.denoted h.denoted) k.is_form in
        let same : h.form ≡ k.form = forms_same r (container.of f) h.value h.value h.form k.form h.is_form own (same-refl h.value) in
        h.is ∙ ap (λ (c : Tree). compact_text (shown r c (of f))) same ∙ sym k.is

    pub one_encoded : (s z : ℕ) (p q : List ℕ) → Encoded r f s p → Encoded r f z q → Agrees s p z q
    one_encoded s z p q (inl (b, h, hs, hp)) (inl (c, k, ks, kq)) = (hs ∙ sym ks, hp ∙ ap (printed (coding_of work)) (one_encoding b c h k) ∙ sym kq)
    one_encoded s z p q (inl (b, h, hs, hp)) (inr k) = absurd (not_both r work.limits f input h.value z q h.denoted k)
    one_encoded s z p q (inr h) (inl (c, k, ks, kq)) = absurd (not_both r work.limits f input k.value s p k.denoted h)
    one_encoded s z p q (inr h) (inr k) = one_refused r work.limits f orderly input s z p q h k

    pub one_normalised : (s z : ℕ) (p q : List ℕ) → Normalised r f s p → Normalised r f z q → Agrees s p z q
    one_normalised s z p q (inl (t, h, hs, hp)) (inl (u, k, ks, kq)) = (hs ∙ sym ks, hp ∙ ap line_of (one_normal t u h k) ∙ sym kq)
    one_normalised s z p q (inl (t, h, hs, hp)) (inr k) = absurd (not_both r work.limits f input h.value z q h.denoted k)
    one_normalised s z p q (inr h) (inl (u, k, ks, kq)) = absurd (not_both r work.limits f input k.value s p k.denoted h)
    one_normalised s z p q (inr h) (inr k) = one_refused r work.limits f orderly input s z p q h k

    -- ---- of bytes

    one_tree : (bytes : List ℕ) (c d : Tree) → Accepts r work.limits f bytes (length bytes) c → Accepts r work.limits f bytes (length bytes) d → c ≡ d
    one_tree bytes c d h k = (accepts_once_is r work.limits f bytes (length bytes) (length bytes) c d h k).1

    never_both : (bytes : List ℕ) (c : Tree) (e : Reason) (o : ℕ) → Accepts r work.limits f bytes (length bytes) c → StopsAll r work.limits f bytes e o → ⊥
    never_both bytes c e o h k = no_two_verdicts_of_all_are r work.limits f bytes c e o h k

    -- the text shown for accepted bytes is within the nesting limit
    not_nested : (bytes t : List ℕ) (c : Tree) → ShowsBytes r work.limits f bytes t → Accepts r work.limits f bytes (length bytes) c → nesting_limit < depth (shown r c (of f)) → ⊥
    not_nested bytes t c h k deep =
        let same : h.value ≡ c = one_tree bytes h.value c h.accepted k in
        let lowest = (shown_is_lowest r f h.denoted.read h.value orderly h.denoted.spells) in
        let within = h.denoted.is.1 in
        let own : nesting_limit < depth (shown r h.value (of f)) = subst (λ (t : Tree). nesting_limit < depth (shown r t (of f))) (sym same) deep in
        omega (arith, lowest, within, own)

    one_shown : (bytes : List ℕ) (s z : ℕ) (p q : List ℕ) → Shown r f bytes s p → Shown r f bytes z q → Agrees s p z q
    one_shown bytes s z p q (inl (t, h, hs, hp)) (inl (u, k, ks, kq)) =
        let same : h.value ≡ k.value = one_tree bytes h.value k.value h.accepted k.accepted in
        let text : t ≡ u = h.is ∙ ap (λ (c : Tree). compact_text (shown r c (of f))) same ∙ sym k.is in
        (hs ∙ sym ks, hp ∙ ap line_of text ∙ sym kq)
    one_shown bytes s z p q (inl (t, h, hs, hp)) (inr (inl (e, o, k, ks, kq))) = absurd (never_both bytes h.value e o h.accepted k)
    one_shown bytes s z p q (inl (t, h, hs, hp)) (inr (inr (c, k, n, ks, kq))) = absurd (not_nested bytes t c h k n)
    one_shown bytes s z p q (inr (inl (e, o, h, hs, hp))) (inl (u, k, ks, kq)) = absurd (never_both bytes k.value e o k.accepted h)
    one_shown bytes s z p q (inr (inl (e, o, h, hs, hp))) (inr (inl (g, i, k, ks, kq))) =
        let same = stops_all_once_is r work.limits f bytes e g o i h k in
        (hs ∙ sym ks, hp ∙ ap₂ stop_line same.0 same.1 ∙ sym kq)
    one_shown bytes s z p q (inr (inl (e, o, h, hs, hp))) (inr (inr (c, k, n, ks, kq))) = absurd (never_both bytes c e o k h)
    one_shown bytes s z p q (inr (inr (c, h, n, hs, hp))) (inl (u, k, ks, kq)) = absurd (not_nested bytes u c k h n)
    one_shown bytes s z p q (inr (inr (c, h, n, hs, hp))) (inr (inl (e, o, k, ks, kq))) = absurd (never_both bytes c e o h k)
    one_shown bytes s z p q (inr (inr (c, h, n, hs, hp))) (inr (inr (d, k, m, ks, kq))) = (hs ∙ sym ks, hp ∙ sym kq)

    one_given_answer : (P : List ℕ → ℕ → List ℕ → Type 0) → ((bytes : List ℕ) (s z : ℕ) (p q : List ℕ) → P bytes s p → P bytes z q → Agrees s p z q)
        → (s z : ℕ) (p q : List ℕ) → Given r f P s p → Given r f P z q → Agrees s p z q
    one_given_answer P one s z p q (inl (b, g, h)) (inl (c, e, k)) =
        one b s z p q h (subst (λ (bytes : List ℕ). P bytes z q) (one_given (coding_of work) input c b e g) k)
    one_given_answer P one s z p q (inl (b, g, h)) (inr (none, ks, kq)) = absurd (none b g)
    one_given_answer P one s z p q (inr (none, hs, hp)) (inl (c, e, k)) = absurd (none c e)
    one_given_answer P one s z p q (inr (none, hs, hp)) (inr (none2, ks, kq)) = (hs ∙ sym ks, hp ∙ sym kq)

    pub one_decoded : (s z : ℕ) (p q : List ℕ) → Decoded r f s p → Decoded r f z q → Agrees s p z q
    one_decoded s z p q h k = one_given_answer (Shown r f) one_shown s z p q h k

    -- ---- of a part

    one_of_part : (x : Part) (s z : ℕ) (p q : List ℕ) → OfPart r f x s p → OfPart r f x z q → Agrees s p z q
    one_of_part x s z p q (inl (b, h, hs, hp)) (inl (c, k, ks, kq)) =
        let both : Some b ≡ Some c = sym h ∙ k in
        let same : b ≡ c = cc in
        (hs ∙ sym ks, hp ∙ ap (printed_part work.options.range (coding_of work) (printed_place work.options.content x)) same ∙ sym kq)
    one_of_part x s z p q (inl (b, h, hs, hp)) (inr (k, ks, kq)) = let both : Some b ≡ None = sym h ∙ k in absurd cc
    one_of_part x s z p q (inr (h, hs, hp)) (inl (c, k, ks, kq)) = let both : None ≡ Some c = sym h ∙ k in absurd cc
    one_of_part x s z p q (inr (h, hs, hp)) (inr (k, ks, kq)) = (hs ∙ sym ks, hp ∙ sym kq)

    one_led : (path : List Step) (c : Tree) (s z : ℕ) (p q : List ℕ) → Led r f path c s p → Led r f path c z q → Agrees s p z q
    one_led path c s z p q (inl (x, h, w)) (inl (y, k, v)) =
        let both : Some y ≡ Some x = sym k ∙ h in
        let same : y ≡ x = cc in
        one_of_part x s z p q w (subst (λ (t : Part). OfPart r f t z q) same v)
    one_led path c s z p q (inl (x, h, w)) (inr (k, ks, kq)) = let both : Some x ≡ None = sym h ∙ k in absurd cc
    one_led path c s z p q (inr (h, hs, hp)) (inl (y, k, v)) = let both : None ≡ Some y = sym h ∙ k in absurd cc
    one_led path c s z p q (inr (h, hs, hp)) (inr (k, ks, kq)) = (hs ∙ sym ks, hp ∙ sym kq)

    one_fronted : (path : List Step) (bytes : List ℕ) (s z : ℕ) (p q : List ℕ) → Fronted r f path bytes s p → Fronted r f path bytes z q → Agrees s p z q
    one_fronted path bytes s z p q (inl (n, c, h, w)) (inl (m, d, k, x)) =
        let same : d ≡ c = (accepts_once_is r work.limits f bytes m n d c k h).1 in
        one_led path c s z p q w (subst (λ (t : Tree). Led r f path t z q) same x)
    one_fronted path bytes s z p q (inl (n, c, h, w)) (inr (e, o, k, ks, kq)) = absurd (no_two_verdicts_are r work.limits f bytes n c e o h k)
    one_fronted path bytes s z p q (inr (e, o, h, hs, hp)) (inl (m, d, k, x)) = absurd (no_two_verdicts_are r work.limits f bytes m d e o k h)
    one_fronted path bytes s z p q (inr (e, o, h, hs, hp)) (inr (g, i, k, ks, kq)) =
        let same = stops_once_is r work.limits f bytes e g o i h k in
        (hs ∙ sym ks, hp ∙ ap₂ stop_line same.0 same.1 ∙ sym kq)

    pub one_parted : (path : List Step) (s z : ℕ) (p q : List ℕ) → Parted r f path s p → Parted r f path z q → Agrees s p z q
    one_parted path s z p q h k = one_given_answer (Fronted r f path) (one_fronted path) s z p q h k

    -- ---- of what is scanned

    one_counted : (bytes : List ℕ) (s z : ℕ) (p q : List ℕ) → Counted r f bytes s p → Counted r f bytes z q → Agrees s p z q
    one_counted bytes s z p q (inl (n, c, h, hs, hp)) (inl (m, d, k, ks, kq)) =
        (hs ∙ sym ks, hp ∙ ap count_line (one_count r work.limits f bytes work.options.front n m c d h k) ∙ sym kq)
    one_counted bytes s z p q (inl (n, c, h, hs, hp)) (inr (e, o, k, ks, kq)) = absurd (not_scanned r work.limits f bytes work.options.front n c e o h k)
    one_counted bytes s z p q (inr (e, o, h, hs, hp)) (inl (m, d, k, ks, kq)) = absurd (not_scanned r work.limits f bytes work.options.front m d e o k h)
    one_counted bytes s z p q (inr (e, o, h, hs, hp)) (inr (g, i, k, ks, kq)) =
        let same = one_scan_stop r work.limits f bytes work.options.front e g o i h k in
        (hs ∙ sym ks, hp ∙ ap₂ stop_line same.0 same.1 ∙ sym kq)

    pub one_scanned : (s z : ℕ) (p q : List ℕ) → Scanned r f s p → Scanned r f z q → Agrees s p z q
    one_scanned s z p q h k = one_given_answer (Counted r f) one_counted s z p q h k
