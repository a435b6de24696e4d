-- Writing after other bytes gives those bytes, followed by what is written alone; and the entries that spans refer to.
use Rattle.bcs_encode_impl.proofs.Prelude.{◌≡◌, ℕ, ◌+◌, ◌-◌, Bool, true, false, ◌==◌, List, [], ◌∷◌, ◌++◌, length, map, refl, sym, ap, ap₂, ◌∙◌, append_assoc, append-nil, length-append, arith, inl, inr, if◌then◌else◌, Result, Ok, Err, flat_map, IsPermutation, cases_Bool, length-flat_map, IsPermutation-map, sum_by-IsPermutation, drop-append_seam, take-append_seam, bits, uleb, Shape, Shapes, no_shapes, shape, Entries, Content, of, one_of, content_at, choice_at, Tree, Trees, no_trees, tree, Pairs, no_pairs, pair, count, pair_count, holds_signed, length_limit, Entry, entry_bytes, EntriesRiseFrom, EntriesRise, HasEqualNeighbours, has_equal_neighbours, Verdict, chain, length_written, in_order, sorted_entries_written, shape_count, written, items_written, each_written, entries_written, Ordered, lone_key_at, part, span_entry, span, Span, EncodeFault, NotOfFormat, RepeatedKey}
use Rattle.std.specs.Prelude.{nat_le, nat_lt, ◌^◌}
use Rattle.std.proofs.lemmas.Bool.{le-leb}
use Rattle.bcs_registry_model.specs.Shape as shape
use Rattle.bcs_value_model.specs.Tree as tree
use Rattle.bcs_encode_impl.proofs.EntryArranging.{sorted_written, equal_neighbours_written}

-- ---- the earlier bytes stay in front

abbrev pub after : List ℕ → Verdict → Verdict
after b v = chain v (λ c. Ok (b ++ c))

chain_after : (b : List ℕ) (v : Verdict) (f g : List ℕ → Verdict) → ((c : List ℕ) → f (b ++ c) ≡ after b (g c)) → chain (after b v) f ≡ after b (chain v g)
chain_after b (Ok c) f g h = h c
chain_after b (Err e) f g h = refl

-- a choice that doesn't depend on the bytes
chosen_after : (b : List ℕ) (test : Bool) (v w : Verdict) (e : EncodeFault) → v ≡ after b w → (if test then v else Err e) ≡ after b (if test then w else Err e)
chosen_after b true v w e h = h
chosen_after b false v w e h = refl

appended : (b x y : List ℕ) → (Ok ((b ++ x) ++ y)) ≡ after b (Ok (x ++ y))
appended b x y = ap (λ (z : List ℕ). Ok z) (append_assoc b x y)

length_after : (n : ℕ) (b x : List ℕ) (f g : List ℕ → Verdict) → ((c : List ℕ) → f (b ++ c) ≡ after b (g c)) → chain (length_written n (b ++ x)) f ≡ after b (chain (length_written n x) g)
length_after n b x f g h = elim (cases_Bool (nat_le n length_limit)) [
  | inl is ↦ rw is (ap f (append_assoc b x (uleb n)) ∙ h (x ++ uleb n))
  | inr isnt ↦ rw isnt refl
]

entries_after : (es : List Entry) (b x : List ℕ) → sorted_entries_written es (b ++ x) ≡ after b (sorted_entries_written es x)
unfolding sorted_entries_written
entries_after es b x = elim (cases_Bool (has_equal_neighbours (in_order es))) [
  | inl is ↦ rw is refl
  | inr isnt ↦ rw isnt (appended b x (flat_map entry_bytes (in_order es)))
]

-- what the spans give, after other bytes
pub arranged : (b bytes c : List ℕ) (xs ys : List Span) (v : Verdict) → c ≡ bytes → ys ≡ xs → sorted_entries_written (map (span_entry c) ys) [] ≡ v
    → sorted_entries_written (map (span_entry bytes) xs) b ≡ chain v (λ d. Ok (b ++ d))
arranged b bytes c xs ys v same is h =
    ap (sorted_entries_written (map (span_entry bytes) xs)) (sym (append-nil b))
    ∙ entries_after (map (span_entry bytes) xs) b []
    ∙ ap (after b) (sym (ap₂ (λ (x : List ℕ) (zs : List Span). sorted_entries_written (map (span_entry x) zs) []) same is) ∙ h)

map_after : (v : Result (List Entry) EncodeFault) (b c : List ℕ) → chain v (λ es. sorted_entries_written es (b ++ c)) ≡ after b (chain v (λ es. sorted_entries_written es c))
map_after (Ok es) b c = entries_after es b c
map_after (Err e) b c = refl

module _ (registry : Entries) where
  mutual
    written_after : (t : Tree) (f : Content) (b x : List ℕ) → written registry t f (b ++ x) ≡ after b (written registry t f x)
    written_after tree.unit (of shape.unit) b x = refl
    written_after (tree.truth t) (of shape.truth) b x = appended b x _
    written_after (tree.unsigned n) (of (shape.unsigned w)) b x = chosen_after b (nat_lt n (2 ^ bits w)) _ _ NotOfFormat (appended b x _)
    written_after (tree.signed z) (of (shape.signed w)) b x = chosen_after b (holds_signed w z) _ _ NotOfFormat (appended b x _)
    written_after (tree.text s) (of shape.text) b x = length_after (length s) b x (λ c. Ok (c ++ s)) (λ c. Ok (c ++ s)) (λ c. appended b c s)
    written_after (tree.bytes s) (of shape.bytes) b x = length_after (length s) b x (λ c. Ok (c ++ s)) (λ c. Ok (c ++ s)) (λ c. appended b c s)
    written_after tree.absent (of (shape.option s)) b x = appended b x _
    written_after (tree.present t) (of (shape.option s)) b x = ap (written registry t (of s)) (append_assoc b x (1 ∷ [])) ∙ written_after t (of s) b (x ++ (1 ∷ []))
    written_after (tree.items ts) (of (shape.seq s)) b x = length_after (count ts) b x (items_written registry ts s) (items_written registry ts s) (λ c. items_after ts s b c)
    written_after (tree.items ts) (of (shape.tuple ss)) b x = chosen_after b (count ts == shape_count ss) _ _ NotOfFormat (each_after ts ss b x)
    written_after (tree.items ts) (of (shape.array s n)) b x = chosen_after b (count ts == n) _ _ NotOfFormat (items_after ts s b x)
    written_after (tree.pairs ps) (of (shape.map k v)) b x =
        length_after (pair_count ps) b x
        (λ c. chain (entries_written registry ps k v []) (λ es. sorted_entries_written es c)) (λ c. chain (entries_written registry ps k v []) (λ es. sorted_entries_written es c))
        (λ c. map_after (entries_written registry ps k v []) b c)
    written_after (tree.named t) (of (shape.name n)) b x = written_after t (content_at n registry) b x
    written_after (tree.variant n t) (one_of cs) b x = ap (written registry t (choice_at n cs)) (append_assoc b x (uleb n)) ∙ written_after t (choice_at n cs) b (x ++ uleb n)
    written_after (tree.variant n t) (of shape.unit) b x = refl
    written_after t f b x = refl

    items_after : (ts : Trees) (s : Shape) (b x : List ℕ) → items_written registry ts s (b ++ x) ≡ after b (items_written registry ts s x)
    items_after no_trees s b x = refl
    items_after (tree t ts) s b x =
        ap (λ (v : Verdict). chain v (items_written registry ts s)) (written_after t (of s) b x)
        ∙ chain_after b (written registry t (of s) x) (items_written registry ts s) (items_written registry ts s) (λ c. items_after ts s b c)

    each_after : (ts : Trees) (ss : Shapes) (b x : List ℕ) → each_written registry ts ss (b ++ x) ≡ after b (each_written registry ts ss x)
    each_after no_trees no_shapes b x = refl
    each_after (tree t ts) (shape s ss) b x =
        ap (λ (v : Verdict). chain v (each_written registry ts ss)) (written_after t (of s) b x)
        ∙ chain_after b (written registry t (of s) x) (each_written registry ts ss) (each_written registry ts ss) (λ c. each_after ts ss b c)
    each_after no_trees (shape s ss) b x = refl
    each_after (tree t ts) no_shapes b x = refl

  pub written_behind : (t : Tree) (f : Content) (b : List ℕ) → written registry t f b ≡ after b (written registry t f [])
  written_behind t f b = ap (written registry t f) (sym (append-nil b)) ∙ written_after t f b []

-- ---- the spans of consecutive entries

abbrev pub spans_from : ℕ → List Entry → List Span
spans_from at [] = []
spans_from at (e ∷ es) = span at (at + length e.0) ((at + length e.0) + length e.1) ∷ spans_from ((at + length e.0) + length e.1) es

-- ---- the entries that spans refer to

pub part_between : (x y z : List ℕ) → part (x ++ (y ++ z)) (length x) (length x + length y) ≡ y
part_between x y z =
    let low : nat_le (length x) (length x + length y) ≡ true = le-leb (length x) (length x + length y) (omega arith) in
    let high : nat_le (length x + length y) (length (x ++ (y ++ z))) ≡ true =
    le-leb (length x + length y) (length (x ++ (y ++ z))) (omega (arith, length-append x (y ++ z), length-append y z)) in
    let size : (length x + length y) - length x ≡ length y = omega arith in
    rw (low, high, size, drop-append_seam x (y ++ z), take-append_seam y z) refl

-- more bytes may follow
pub spans_within : (es : List Entry) (b more : List ℕ) → map (span_entry (b ++ (flat_map entry_bytes es ++ more))) (spans_from (length b) es) ≡ es
spans_within [] b more = refl
spans_within (e ∷ es) b more =
    let rest : List ℕ = flat_map entry_bytes es ++ more in
    let whole : List ℕ = b ++ (((e.0 ++ e.1) ++ flat_map entry_bytes es) ++ more) in
    let m : length (b ++ e.0) ≡ length b + length e.0 = length-append b e.0 in
    let n : length ((b ++ e.0) ++ e.1) ≡ (length b + length e.0) + length e.1 = length-append (b ++ e.0) e.1 ∙ ap (λ (k : ℕ). k + length e.1) m in
    let by_key : whole ≡ b ++ (e.0 ++ (e.1 ++ rest)) =
    ap (λ (x : List ℕ). b ++ x) (append_assoc (e.0 ++ e.1) (flat_map entry_bytes es) more ∙ append_assoc e.0 e.1 rest) in
    let by_value : whole ≡ (b ++ e.0) ++ (e.1 ++ rest) = by_key ∙ sym (append_assoc b e.0 (e.1 ++ rest)) in
    let by_rest : whole ≡ ((b ++ e.0) ++ e.1) ++ rest = by_value ∙ sym (append_assoc (b ++ e.0) e.1 rest) in
    let key : part whole (length b) (length b + length e.0) ≡ e.0 =
    ap (λ (x : List ℕ). part x (length b) (length b + length e.0)) by_key ∙ part_between b e.0 (e.1 ++ rest) in
    let value : part whole (length b + length e.0) ((length b + length e.0) + length e.1) ≡ e.1 =
    ap₂ (λ (x : List ℕ) (i : ℕ). part x i (i + length e.1)) by_value (sym m) ∙ part_between (b ++ e.0) e.1 rest in
    let others : map (span_entry whole) (spans_from ((length b + length e.0) + length e.1) es) ≡ es =
    ap₂ (λ (x : List ℕ) (i : ℕ). map (span_entry x) (spans_from i es)) by_rest (sym n) ∙ spans_within es ((b ++ e.0) ++ e.1) more in
    ap₂ (λ (z : Entry) (zs : List Entry). z ∷ zs) (ap₂ (λ (x y : List ℕ). (x, y)) key value) others

pub spans_entries : (es : List Entry) (b : List ℕ) → map (span_entry (b ++ flat_map entry_bytes es)) (spans_from (length b) es) ≡ es
spans_entries es b =
    ap (λ (x : List ℕ). map (span_entry (b ++ x)) (spans_from (length b) es)) (sym (append-nil (flat_map entry_bytes es))) ∙ spans_within es b []

-- ---- the order of keys, including their values

module _ (bytes : List ℕ) (value : Span → List ℕ) where
  abbrev valued : Span → Entry
  valued z = (part bytes z.start z.end, value z)

  rise_from_with : (c : List ℕ) (zs : List Span) → EntriesRiseFrom c (map (lone_key_at bytes) zs) → EntriesRiseFrom c (map valued zs)
  rise_from_with c [] h = tt
  rise_from_with c (z ∷ zs) h = (h.0, rise_from_with (part bytes z.start z.end) zs h.1)

  pub rise_with : (zs : List Span) → EntriesRise (map (lone_key_at bytes) zs) → EntriesRise (map valued zs)
  rise_with [] h = tt
  rise_with (z ∷ zs) h = rise_from_with (part bytes z.start z.end) zs h

  pub equal_neighbours_with : (zs : List Span) → HasEqualNeighbours (map (lone_key_at bytes) zs) → HasEqualNeighbours (map valued zs)
  equal_neighbours_with [] h = absurd h
  equal_neighbours_with (z ∷ []) h = absurd h
  equal_neighbours_with (z ∷ y ∷ zs) (inl is) = inl is
  equal_neighbours_with (z ∷ y ∷ zs) (inr more) = inr (equal_neighbours_with (y ∷ zs) more)

-- what is written for sorted spans
module _ (bytes b : List ℕ) (xs ys : List Span) (moved : IsPermutation xs ys) where
  entries_move : IsPermutation (map (span_entry bytes) xs) (map (span_entry bytes) ys)
  entries_move = IsPermutation-map (span_entry bytes) xs ys moved

  pub ordered_written : Ordered true bytes ys → sorted_entries_written (map (span_entry bytes) xs) b ≡ Ok (b ++ flat_map entry_bytes (map (span_entry bytes) ys))
  ordered_written up = sorted_written _ _ b entries_move (rise_with bytes (λ z. part bytes z.end z.value) ys up)

  pub repeated_refused : Ordered false bytes ys → sorted_entries_written (map (span_entry bytes) xs) b ≡ Err RepeatedKey
  repeated_refused equal_neighbours = equal_neighbours_written _ _ b entries_move (equal_neighbours_with bytes (λ z. part bytes z.end z.value) ys equal_neighbours)

  pub moved_len : length (flat_map entry_bytes (map (span_entry bytes) ys)) ≡ length (flat_map entry_bytes (map (span_entry bytes) xs))
  moved_len =
      length-flat_map entry_bytes (map (span_entry bytes) ys)
      ∙ sum_by-IsPermutation (λ e. length (entry_bytes e)) (map (span_entry bytes) xs) (map (span_entry bytes) ys) entries_move
      ∙ sym (length-flat_map entry_bytes (map (span_entry bytes) xs))
