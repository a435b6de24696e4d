-- JSON objects whose members are read one after another.
use Rattle.bcs_registry_json.proofs.Prelude.{◌≡◌, ◌∙◌, ◌&&◌, ◌++◌, List, ℕ, [], ◌∷◌, Bool, false, ap, append_assoc, append-nil, string_bytes, string_cmp, subst, sym, IsStrictlySortedBy, keys_of, Entry, put_last, Data, Members, member, object, put, members_view, view}
use Rattle.bcs_registry_json.proofs.TwoTests.{and-false_left, and-false_right}

-- the members before rest were read as those in shown
pub record IsRead (d : Data) (rest : List Entry) (shown : Members) : Type 0 where
  pub done : List Entry
  pub whole : d ≡ object (members_view (done ++ rest))
  pub ordered : IsStrictlySortedBy string_cmp (keys_of (done ++ rest))
  pub same : shown ≡ members_view done

module _ (d : Data) (rest left : List Entry) (shown : Members) (e : Entry) (read : IsRead d rest shown) (next : rest ≡ e ∷ left) where
  all : d ≡ object (members_view (read.done ++ e ∷ left))
  all = read.whole ∙ ap (λ (es : List Entry). object (members_view (read.done ++ es))) next

  in_order : IsStrictlySortedBy string_cmp (keys_of (read.done ++ e ∷ left))
  in_order = subst (λ (es : List Entry). IsStrictlySortedBy string_cmp (keys_of (read.done ++ es))) next read.ordered

  -- reading one more member, which is put where it sorts
  pub one_read : (more : Members) → more ≡ put (string_bytes e.0) (view e.1) shown → IsRead d left more
  one_read more is =
      let apart : (read.done ++ e ∷ []) ++ left ≡ read.done ++ e ∷ left = append_assoc read.done (e ∷ []) left in
      record {
        done = read.done ++ e ∷ [];
        whole = all ∙ ap (λ (es : List Entry). object (members_view es)) (sym apart);
        ordered = subst (λ (es : List Entry). IsStrictlySortedBy string_cmp (keys_of es)) (sym apart) in_order;
        same = is ∙ ap (put (string_bytes e.0) (view e.1)) read.same ∙ put_last read.done e left in_order;
      }

  -- if the test fails for this member, the test of all members fails
  pub member_false : (test : List ℕ → Data → Bool) (every : Members → Bool) (whole : Data → Bool)
      → ((k : List ℕ) (m : Data) (ms : Members) → every (member k m ms) ≡ (test k m && every ms)) → ((ms : Members) → whole (object ms) ≡ every ms)
      → test (string_bytes e.0) (view e.1) ≡ false → whole d ≡ false
  member_false test every whole step start h = ap whole all ∙ start (members_view (read.done ++ e ∷ left)) ∙ within read.done
    where
      within : (done : List Entry) → every (members_view (done ++ e ∷ left)) ≡ false
      within [] = step (string_bytes e.0) (view e.1) (members_view left) ∙ and-false_left (test (string_bytes e.0) (view e.1)) (every (members_view left)) h
      within (f ∷ fs) = step (string_bytes f.0) (view f.1) (members_view (fs ++ e ∷ left)) ∙ and-false_right (test (string_bytes f.0) (view f.1)) (every (members_view (fs ++ e ∷ left))) (within fs)

pub all_read : (d : Data) (rest : List Entry) (shown : Members) → IsRead d rest shown → rest ≡ [] → d ≡ object shown
all_read d rest shown read none =
    read.whole ∙ ap (λ (es : List Entry). object (members_view (read.done ++ es))) none
    ∙ ap (λ (es : List Entry). object (members_view es)) (append-nil read.done) ∙ ap object (sym read.same)
