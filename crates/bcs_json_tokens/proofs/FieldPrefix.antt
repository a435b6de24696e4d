-- The refusal of a struct in the loop over its members, from the slots of its fields.
use Rattle.bcs_json_tokens.proofs.Prelude.{◌≡◌, ◌∙◌, ◌++◌, ◌-◌, ◌≤◌, ℕ, zero, suc, List, [], ◌∷◌, append-nil, length, map, slice_get, Option, Some, None, Err, true, false, refl, ap, sym, subst, arith, none-some, list_any, bytes_eq, Token, read_key, members, value, read_key-shorter, Data, Members, no_members, put, get_member, get_member-put, get_member-put_other, converted, of_json, of_members, member_read, members_over, Entries, Field, field_of, shape_of, Format, Named, are_distinct, Tree, tree_of, Value, of, Read, read_fields, read_named, field_parts, Refusal, MissingField, UnknownField, IfRefused, IsHere, IsPassed, IsNamePassed, AreKept, GivenUp, IsWay, IsRefusedAs, MembersRefused, IsFieldRefused, IsNameRefused, first_empty, first_names}
use Rattle.bcs_json_passing.proofs.Turns.{passed_shorter}
use Rattle.bcs_json_tokens.proofs.Starts.{refused_is}
use Rattle.bcs_json_tokens.proofs.AnyOrder.{Part, fields_in, names_in, names_of, AllTold, AllFound, differ}
use Rattle.bcs_json_tokens.proofs.FieldRefusals.{any_last, distinct_front, field_placed, field_told, found_put, kept_found, kept_last, missing_placed, missing_told, unknown_placed, unknown_told}
use Rattle.bcs_json_tokens.proofs.InSlots.{AllHold, name_of, names, SlotsBefore}

some_is : {A : Type 0} (x y : A) → Some x ≡ Some y → x ≡ y
some_is x y h = cc

module _ (named : List ℕ → Data → Read Tree) (ms : Members) where
  -- the fields before the first one without a value, and this one
  pub record Prefix (fs : List (Named Format)) (i : ℕ) (f : Named Format) : Type 0 where
    pub parts : List Part
    pub later : List Field
    pub fields : map field_of fs ≡ fields_in parts ++ field_of f ∷ later
    pub told : AllTold named parts
    pub found : AllFound ms parts
    pub first : first_names (suc i) fs ≡ names_in parts ++ name_of f ∷ []

  pub prefix : (fs : List (Named Format)) (os : List (Option Value)) (i : ℕ) (f : Named Format) → AllHold named ms fs os → first_empty os ≡ i → slice_get fs i ≡ Some f → Prefix fs i f
  prefix [] os i f h is at = absurd (none-some f at)
  prefix (g ∷ fs) [] i f h is at = absurd h
  prefix (g ∷ fs) (None ∷ os) zero f h is at =
      let same = some_is g f at in
      record { parts = []; later = map field_of fs; fields = ap (λ x. field_of x ∷ map field_of fs) same; told = tt; found = tt; first = ap (λ x. name_of x ∷ []) same }
  prefix (g ∷ fs) (None ∷ os) (suc i) f h is at = absurd cc
  prefix (g ∷ fs) (Some v ∷ os) zero f h is at = absurd cc
  prefix (g ∷ fs) (Some v ∷ os) (suc i) f h is at =
      let others = prefix fs os i f h.1 (cc) at in
      record {
        parts = (field_of g, (h.0.json, tree_of v)) ∷ others.parts;
        later = others.later;
        fields = ap (λ gs. field_of g ∷ gs) others.fields;
        told = (h.0.told, others.told);
        found = (h.0.found, others.found);
        first = ap (λ ns. name_of g ∷ ns) others.first;
      }

  -- all fields have values
  pub record Whole (fs : List (Named Format)) : Type 0 where
    pub parts : List Part
    pub fields : map field_of fs ≡ fields_in parts
    pub told : AllTold named parts
    pub found : AllFound ms parts
    pub all : map name_of fs ≡ names_in parts

  pub whole : (fs : List (Named Format)) (os : List (Option Value)) → AllHold named ms fs os → slice_get fs (first_empty os) ≡ None → Whole fs
  whole [] os h none = record { parts = []; fields = refl; told = tt; found = tt; all = refl }
  whole (g ∷ fs) [] h none = absurd h
  whole (g ∷ fs) (None ∷ os) h none = absurd (none-some g (sym none))
  whole (g ∷ fs) (Some v ∷ os) h none =
      let others = whole fs os h.1 none in
      record {
        parts = (field_of g, (h.0.json, tree_of v)) ∷ others.parts;
        fields = ap (λ gs. field_of g ∷ gs) others.fields;
        told = (h.0.told, others.told);
        found = (h.0.found, others.found);
        all = ap (λ ns. name_of g ∷ ns) others.all;
      }

  -- a field without a value has no member
  pub absent_first : (fs : List (Named Format)) (os : List (Option Value)) (f : Named Format) → AllHold named ms fs os → slice_get fs (first_empty os) ≡ Some f → get_member (name_of f) ms ≡ None
  absent_first [] os f h at = absurd (none-some f at)
  absent_first (g ∷ fs) [] f h at = absurd h
  absent_first (g ∷ fs) (None ∷ os) f h at = ap (λ x. get_member (name_of x) ms) (sym (some_is g f at)) ∙ h.0
  absent_first (g ∷ fs) (Some v ∷ os) f h at = absent_first fs os f h.1 at

  pub first_missing : (fs : List (Named Format)) (os : List (Option Value)) (i : ℕ) → AllHold named ms fs os → slice_get os i ≡ Some None → (f : Named Format) × (slice_get fs (first_empty os) ≡ Some f)
  first_missing [] [] i h empty = absurd (none-some None empty)
  first_missing [] (o ∷ os) i h empty = absurd h
  first_missing (g ∷ fs) [] i h empty = absurd h
  first_missing (g ∷ fs) (None ∷ os) i h empty = (g, refl)
  first_missing (g ∷ fs) (Some v ∷ os) zero h empty = absurd cc
  first_missing (g ∷ fs) (Some v ∷ os) (suc i) h empty = first_missing fs os i h.1 empty

module _ (registry : Entries) (left depth : ℕ) (all : List Token) (fs : List (Named Format)) (distinct : are_distinct (names fs) ≡ true) where
  abbrev inside : List ℕ → Data → Read Tree
  inside = read_named registry left

  abbrev Told : List Token → Refusal → Type 0
  Told = MembersRefused registry (read_fields inside (map field_of fs)) (field_parts left (map field_of fs)) depth all

  apart : (ms : Members) (i : ℕ) (f : Named Format) (p : Prefix inside ms fs i f) → (are_distinct (names_in p.parts) ≡ true) × (list_any (bytes_eq (name_of f)) (names_in p.parts) ≡ false)
  apart ms i f p = distinct_front p.parts (field_of f) p.later (ap (λ gs. are_distinct (map (λ g. g.0) gs)) (sym p.fields) ∙ distinct)

  -- a member is put, and later ones are passed
  put_then : (json : Members → Members) (rest s m last : List Token) (os : List (Option Value)) (k : List ℕ) (d : Data) (b : SlotsBefore inside depth all rest fs os) → read_key rest ≡ Some (Some k, s)
      → IsPassed depth s m → converted of_json (value depth s) ≡ Some (d, m)
      → ((found : Members) (turns : ℕ) → length m ≤ turns → converted (λ ms. of_members ms found) (members (value depth) turns m) ≡ Some (json found, last))
      → converted (λ ms. of_members ms no_members) (members (value depth) (length all) all) ≡ Some (json (put k d b.json), last)
  put_then json rest s m last os k d b key passed is after =
      let first = read_key-shorter rest (Some k) s key in
      let second = passed_shorter depth s m passed in
      let enough = b.enough in
      b.same ∙ member_read (value depth) b.json b.turns k rest s m d (omega (arith, enough, first)) key is ∙ after (put k d b.json) (b.turns - 1) (omega (arith, enough, first, second))

  -- the member of a field is refused
  pub field_refused : (rest s m last : List Token) (os : List (Option Value)) (i : ℕ) (f : Named Format) (g : GivenUp) (e : Refusal) → SlotsBefore inside depth all rest fs os → slice_get fs i ≡ Some f
      → read_key rest ≡ Some (Some (name_of f), s) → IfRefused (IsRefusedAs registry left (of (shape_of f.value)) depth s m) g → IsFieldRefused fs os i depth m last g e → Told last e
  field_refused rest s m last os i f g e b at key refused w =
      let x = w.field in
      let k = name_of x in
      let same : f ≡ x = some_is f x (sym at ∙ w.at) in
      let h : IsRefusedAs registry left (of (shape_of x.value)) depth s m w.inner = subst (λ y. IsRefusedAs registry left (of (shape_of y.value)) depth s m w.inner) same (refused_is (IsRefusedAs registry left (of (shape_of f.value)) depth s m) g w.inner w.was refused) in
      let named : read_key rest ≡ Some (Some k, s) = key ∙ ap (λ y. Some (Some (name_of y), s)) same in
      let p = prefix inside b.json fs os i x b.hold w.first w.at in
      let d = apart b.json i x p in
      let before = put k h.json b.json in
      let ms = w.others.json before in
      let kept : AreKept (names_in p.parts ++ k ∷ []) w.others.json = subst (λ ns. AreKept ns w.others.json) p.first w.others.kept in
      let found = kept_found w.others.json p.parts (k ∷ []) kept before (found_put k h.json b.json p.parts d.1 p.found) in
      let own : get_member k ms ≡ Some h.json = kept_last w.others.json p.parts k kept before ∙ get_member-put k h.json b.json in
      record {
        json = ms;
        is = put_then w.others.json rest s m last os k h.json b named (record { json = h.json; is = h.is }) h.is w.others.is;
        told = ap (λ gs. read_fields inside gs ms) p.fields ∙ field_told registry left p.parts (field_of x) p.later ms d.0 d.1 p.told found h.json own w.inner e h.told w.within.fault;
        placed = subst (λ gs. IsWay registry (field_parts left gs ms) e) (sym p.fields)
            (field_placed registry left p.parts (field_of x) p.later ms d.0 d.1 p.told found h.json own w.inner e h.told w.within.fault h.placed w.within.location);
      }

  -- at the end of the object, a field has no value
  pub fields_missing : (rest more : List Token) (os : List (Option Value)) (i : ℕ) (e : Refusal) → SlotsBefore inside depth all rest fs os → slice_get os i ≡ Some None → read_key rest ≡ Some (None, more)
      → IsHere MissingField e → Told more e
  fields_missing rest more os i e b empty over here =
      let f = first_missing inside b.json fs os i b.hold empty in
      let p = prefix inside b.json fs os (first_empty os) f.0 b.hold refl f.1 in
      let d = apart b.json (first_empty os) f.0 p in
      let none = absent_first inside b.json fs os f.0 b.hold f.1 in
      record {
        json = b.json;
        is = b.same ∙ members_over (value depth) b.json b.turns rest more b.enough over;
        told = ap (λ gs. read_fields inside gs b.json) p.fields ∙ missing_told registry left p.parts (field_of f.0) p.later b.json d.0 d.1 p.told p.found none ∙ ap Err (sym here.0);
        placed = subst (λ gs. IsWay registry (field_parts left gs b.json) e) (sym p.fields) (missing_placed registry left p.parts (field_of f.0) p.later b.json d.0 d.1 p.told p.found none e here.1);
      }

  -- a member isn't a field, and a field has no member
  name_missing : (rest s last : List Token) (os : List (Option Value)) (f : Named Format) (k : List ℕ) (e : Refusal) → SlotsBefore inside depth all rest fs os → slice_get fs (first_empty os) ≡ Some f
      → read_key rest ≡ Some (Some k, s) → IsNamePassed (first_names (suc (first_empty os)) fs) k depth s last → IsHere MissingField e → Told last e
  name_missing rest s last os f k e b at key w here =
      let p = prefix inside b.json fs os (first_empty os) f b.hold refl at in
      let d = apart b.json (first_empty os) f p in
      let new = any_last k (name_of f) p.parts (ap (list_any (bytes_eq k)) (sym p.first) ∙ w.new) in
      let before = put k w.member.json b.json in
      let ms = w.others.json before in
      let kept : AreKept (names_in p.parts ++ name_of f ∷ []) w.others.json = subst (λ ns. AreKept ns w.others.json) p.first w.others.kept in
      let found = kept_found w.others.json p.parts (name_of f ∷ []) kept before (found_put k w.member.json b.json p.parts new.0 p.found) in
      let none : get_member (name_of f) ms ≡ None =
      kept_last w.others.json p.parts (name_of f) kept before ∙ get_member-put_other (name_of f) k w.member.json b.json (differ k (name_of f) new.1) ∙ absent_first inside b.json fs os f b.hold at in
      record {
        json = ms;
        is = put_then w.others.json rest s w.between last os k w.member.json b key w.member w.member.is w.others.is;
        told = ap (λ gs. read_fields inside gs ms) p.fields ∙ missing_told registry left p.parts (field_of f) p.later ms d.0 d.1 p.told found none ∙ ap Err (sym here.0);
        placed = subst (λ gs. IsWay registry (field_parts left gs ms) e) (sym p.fields) (missing_placed registry left p.parts (field_of f) p.later ms d.0 d.1 p.told found none e here.1);
      }

  -- a member isn't a field, and each field has one
  name_unknown : (rest s last : List Token) (os : List (Option Value)) (k : List ℕ) (e : Refusal) → SlotsBefore inside depth all rest fs os → slice_get fs (first_empty os) ≡ None
      → read_key rest ≡ Some (Some k, s) → IsNamePassed (map name_of fs) k depth s last → IsHere UnknownField e → Told last e
  name_unknown rest s last os k e b full key w here =
      let q = whole inside b.json fs os b.hold full in
      let differ_all : are_distinct (names_in q.parts) ≡ true = ap are_distinct (sym (names_of q.parts)) ∙ ap (λ gs. are_distinct (map (λ f. f.0) gs)) (sym q.fields) ∙ distinct in
      let new : list_any (bytes_eq k) (names_in q.parts) ≡ false = ap (list_any (bytes_eq k)) (sym q.all) ∙ w.new in
      let before = put k w.member.json b.json in
      let ms = w.others.json before in
      let kept : AreKept (names_in q.parts ++ []) w.others.json = subst (λ ns. AreKept ns w.others.json) (q.all ∙ sym (append-nil (names_in q.parts))) w.others.kept in
      let found = kept_found w.others.json q.parts [] kept before (found_put k w.member.json b.json q.parts new q.found) in
      let present : get_member k ms ≡ None → ⊥ = λ none. none-some w.member.json (sym (w.others.stays before k none) ∙ get_member-put k w.member.json b.json) in
      record {
        json = ms;
        is = put_then w.others.json rest s w.between last os k w.member.json b key w.member w.member.is w.others.is;
        told = ap (λ gs. read_fields inside gs ms) q.fields ∙ unknown_told registry left q.parts ms differ_all q.told found k new present ∙ ap Err (sym here.0);
        placed = subst (λ gs. IsWay registry (field_parts left gs ms) e) (sym q.fields) (unknown_placed registry left q.parts ms differ_all q.told found k new present e here.1);
      }

  name_at : (o : Option (Named Format)) (rest s last : List Token) (os : List (Option Value)) (k : List ℕ) (e : Refusal) → slice_get fs (first_empty os) ≡ o → SlotsBefore inside depth all rest fs os
      → read_key rest ≡ Some (Some k, s) → IsNameRefused fs os k depth s last e → Told last e
  name_at (Some f) rest s last os k e at b key w = let h = w.missing f at in name_missing rest s last os f k e b at key h.0 h.1
  name_at None rest s last os k e at b key w = let h = w.unknown at in name_unknown rest s last os k e b at key h.0 h.1

  pub name_refused : (rest s last : List Token) (os : List (Option Value)) (k : List ℕ) (e : Refusal) → SlotsBefore inside depth all rest fs os → read_key rest ≡ Some (Some k, s)
      → IsNameRefused fs os k depth s last e → Told last e
  name_refused rest s last os k e b key w = name_at (slice_get fs (first_empty os)) rest s last os k e refl b key w
