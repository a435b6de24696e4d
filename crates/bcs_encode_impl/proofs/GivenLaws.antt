-- What a step appends to an output whose maps ascend as given: the bytes of the tree, with its entries in that order.
use Rattle.bcs_encode_impl.proofs.Prelude.{◌≡◌, ℕ, Bool, true, false, if◌then◌else◌, List, [], ◌∷◌, ◌++◌, length, take, drop, map, Ok, Err, Option, Some, None, IfSome, refl, sym, ap, subst, ◌∙◌, append-nil, append_assoc, nat_le, le, holds_unsigned, holds_signed, uleb, whole_shape, IntegerKind, Unsigned, Signed, Entries, Content, of, Shape, Tree, Trees, no_trees, tree, plain, plain_items, length_limit, span_entry, Span, HeldBytes, Verdict, chain, length_written, sorted_entries_written, written, items_written, EncodeFault, Appends, Gives, GivesOn, is_complete, is_told, told, Output, Extent, Rising, Sorting, Repeated, Incomplete}
use Rattle.std.specs.Prelude.{ℤ}
use Rattle.bcs_encode_impl.proofs.Prelude.{◌<◌, ◌+◌, get_or, Value, tree_of, items_trees, BTreeMap, Box, Bor, Global, Named, VariantFormat, Enum, Variant, option_copied, lookup, is_at, nat_cmp, content, container_of, payload_shape, payload_of, at_enum, choice-found}
use Rattle.bcs_encode_impl.proofs.Prelude.{Format, Vec, rules, shape_of}
use Rattle.std.specs.Prelude.{String, string_bytes}
use Rattle.bcs_registry_model.specs.declared.container.Container as declared
use Rattle.bcs_registry_model.specs.declared.format.Format as format
use Rattle.bcs_value_model.specs.declared.value.Value as value
use Rattle.bcs_registry_model.proofs.FormatViews.{shape-Bytes, shape-Str}
use Rattle.bcs_value_model.proofs.Views.{tree_of_bytes, tree_of_present, tree_of_text}
use Rattle.bcs_encode_impl.proofs.RowSteps.{next}
use Rattle.bcs_num.specs.Le.{le_signed}
use Rattle.bcs_encode_impl.specs.Writing.{bytes_written}
use Rattle.bcs_registry_model.specs.Shape as shape
use Rattle.bcs_value_model.specs.Tree as tree
use Rattle.bcs_encode_impl.proofs.AppendsLaws.{is_whole_told, same_whole, whole_written}

-- ---- steps

pub then_gives : (old middle new : Output) (p q w : List ℕ) → w ≡ p ++ q → Gives old middle p → Gives middle new q → Gives old new w
then_gives old middle new p q w same f g = λ is.
    let y = g is in
    let x = f y.0 in
    (x.0, y.1 ∙ ap (λ (b : List ℕ). b ++ q) x.1 ∙ append_assoc old.bytes.items p q ∙ ap (λ (r : List ℕ). old.bytes.items ++ r) (sym same))

pub gives_none : (old : Output) (w : List ℕ) → w ≡ [] → Gives old old w
gives_none old w same = λ is. (is, sym (append-nil old.bytes.items) ∙ ap (λ (r : List ℕ). old.bytes.items ++ r) (sym same))

pub gives_as_well : (old new : Output) (p w : List ℕ) → w ≡ p → Gives old new p → Gives old new w
gives_as_well old new p w same f = λ is. let x = f is in (x.0, x.1 ∙ ap (λ (r : List ℕ). old.bytes.items ++ r) (sym same))

pub some_gives_as_well : (o : Option ℕ) (old new : Output) (p w : List ℕ) → w ≡ p → IfSome o (λ x. Gives old new p) → IfSome o (λ x. Gives old new w)
some_gives_as_well None old new p w same f = tt
some_gives_as_well (Some m) old new p w same f = gives_as_well old new p w same f

pub some_then_gives : (o : Option ℕ) (old middle new : Output) (p q w : List ℕ) → w ≡ p ++ q → Gives old middle p → IfSome o (λ x. Gives middle new q) → IfSome o (λ x. Gives old new w)
some_then_gives None old middle new p q w same f g = tt
some_then_gives (Some m) old middle new p q w same f g = then_gives old middle new p q w same f g

pub some_gives : (o : Option ℕ) (old new : Output) (p : List ℕ) → Gives old new p → IfSome o (λ x. Gives old new p)
some_gives None old new p h = tt
some_gives (Some m) old new p h = h

-- what a step gives that appends no map
pub appended_gives : (old new : Output) (v : List ℕ → Verdict) (p : List ℕ) → ((c : List ℕ) → v old.bytes.items ≡ Ok c → c ≡ old.bytes.items ++ p) → Appends old new v → Gives old new p
appended_gives old new v p only h = λ is.
    let whole : is_complete new.extent ≡ true = same_whole Rising new.extent (sym is) refl in
    let k = h (is_whole_told new whole) in
    (sym (k.1.1 whole).0 ∙ is, only new.bytes.items (whole_written old new v h whole))

pub some_appended_gives : (o : Option ℕ) (old new : Output) (v : List ℕ → Verdict) (p : List ℕ) → ((c : List ℕ) → v old.bytes.items ≡ Ok c → c ≡ old.bytes.items ++ p)
    → IfSome o (λ x. Appends old new v) → IfSome o (λ x. Gives old new p)
some_appended_gives None old new v p only h = tt
some_appended_gives (Some m) old new v p only h = appended_gives old new v p only h

-- ---- lists

pub gives_begins : (first : Output) (all rest : List ℕ) → all ≡ rest → GivesOn first first all rest
gives_begins first all rest same = λ is. (is, ap (λ (r : List ℕ). first.bytes.items ++ r) (sym same))

pub gives_on : (first now new : Output) (all rest p more : List ℕ) → rest ≡ p ++ more → GivesOn first now all rest → Gives now new p → GivesOn first new all more
gives_on first now new all rest p more same f g = λ is.
    let y = g is in
    let x = f y.0 in
    (x.0, ap (λ (b : List ℕ). b ++ more) y.1 ∙ append_assoc now.bytes.items p more ∙ ap (λ (r : List ℕ). now.bytes.items ++ r) (sym same) ∙ x.1)

pub gives_ends : (first now : Output) (all rest : List ℕ) → rest ≡ [] → GivesOn first now all rest → Gives first now all
gives_ends first now all rest same f = λ is.
    let x = f is in
    (x.0, sym (append-nil now.bytes.items) ∙ ap (λ (r : List ℕ). now.bytes.items ++ r) (sym same) ∙ x.1)

-- ---- values without parts

pub same_ok : (b c : List ℕ) (v : Verdict) → v ≡ Ok b → v ≡ Ok c → c ≡ b
same_ok b c v e h = cc

-- one part after another
then_given : (v : Verdict) (rest : List ℕ → Verdict) (b p q c : List ℕ) → ((a : List ℕ) → v ≡ Ok a → a ≡ b ++ p) → ((a : List ℕ) → rest a ≡ Ok c → c ≡ a ++ q)
    → chain v rest ≡ Ok c → c ≡ b ++ (p ++ q)
then_given (Ok a) rest b p q c first more h = more a h ∙ ap (λ (x : List ℕ). x ++ q) (first a refl) ∙ append_assoc b p q
then_given (Err k) rest b p q c first more h = absurd cc

if_ok : (d : Bool) (a c : List ℕ) (e : EncodeFault) → (if d then Ok a else Err e) ≡ Ok c → c ≡ a
if_ok true a c e h = cc
if_ok false a c e h = absurd cc

pub length_given : (n : ℕ) (b c : List ℕ) → length_written n b ≡ Ok c → c ≡ b ++ uleb n
length_given n b c h = if_ok (nat_le n length_limit) (b ++ uleb n) c _ h

pub bytes_given : (s : List ℕ) (b c : List ℕ) → bytes_written s b ≡ Ok c → c ≡ b ++ (uleb (length s) ++ s)
bytes_given s b c h =
    then_given (length_written (length s) b) (λ d. Ok (d ++ s)) b (uleb (length s)) s c (λ a is. length_given (length s) b a is) (λ a e. same_ok (a ++ s) c (Ok (a ++ s)) refl e) h

module _ (registry : Entries) where
  pub unsigned_given : (n : ℕ) (f : Content) (b c : List ℕ) → written registry (tree.unsigned n) f b ≡ Ok c → c ≡ b ++ plain registry (tree.unsigned n) f
  unsigned_given n (of (shape.unsigned w)) b c h = if_ok (holds_unsigned w n) (b ++ le w n) c _ h
  unsigned_given n _ b c h = absurd cc

  pub signed_given : (z : ℤ) (f : Content) (b c : List ℕ) → written registry (tree.signed z) f b ≡ Ok c → c ≡ b ++ plain registry (tree.signed z) f
  signed_given z (of (shape.signed w)) b c h = if_ok (holds_signed w z) (b ++ le_signed w z) c _ h
  signed_given z _ b c h = absurd cc

  number_given : (n : IntegerKind) (t : Tree) (b c : List ℕ) → written registry t (of (whole_shape n)) b ≡ Ok c → c ≡ b ++ plain registry t (of (whole_shape n))
  number_given (Unsigned w) (tree.unsigned m) b c h = unsigned_given m (of (whole_shape (Unsigned w))) b c h
  number_given (Signed w) (tree.signed z) b c h = signed_given z (of (whole_shape (Signed w))) b c h
  number_given (Unsigned w) _ b c h = absurd cc
  number_given (Signed w) _ b c h = absurd cc

  whole_numbers_given : (n : IntegerKind) (ts : Trees) (b c : List ℕ) → items_written registry ts (whole_shape n) b ≡ Ok c → c ≡ b ++ plain_items registry ts (whole_shape n)
  whole_numbers_given n no_trees b c h = same_ok b c (Ok b) refl h ∙ sym (append-nil b)
  whole_numbers_given n (tree t ts) b c h =
      then_given (written registry t (of (whole_shape n)) b) (items_written registry ts (whole_shape n)) b (plain registry t (of (whole_shape n))) (plain_items registry ts (whole_shape n)) c
      (λ a is. number_given n t b a is) (λ a e. whole_numbers_given n ts a c e) h

  pub numbers_given : (n : IntegerKind) (s : Shape) (ts : Trees) (b c : List ℕ) → s ≡ whole_shape n → items_written registry ts s b ≡ Ok c → c ≡ b ++ plain_items registry ts s
  numbers_given n s ts b c e =
      subst (λ (x : Shape). items_written registry ts x b ≡ Ok c → c ≡ b ++ plain_items registry ts x) (sym e) (whole_numbers_given n ts b c)

-- ---- views

pub item_plain : (r : Entries) (vs : List Value) (i : ℕ) (x : Value) → i < length vs → x ≡ get_or vs i x → (s : Shape)
    → plain_items r (items_trees (drop i vs)) s ≡ plain r (tree_of x) (of s) ++ plain_items r (items_trees (drop (i + 1) vs)) s
item_plain r vs i x low is s = ap (λ (us : List Value). plain_items r (items_trees us) s) (next vs i x low is)

pub variant_plain : (r : Entries) (v : Value) (k : declared.Container) (vs : BTreeMap ℕ (Named VariantFormat)) (n : ℕ) (inner : Box Value Global)
    (x : Bor (Named VariantFormat)) (o : Option (Bor (Named VariantFormat)))
    → k ≡ Enum vs → v ≡ Variant n inner → option_copied o ≡ lookup (is_at (nat_cmp n)) vs.entries → o ≡ Some x
    → plain r (tree_of v) (content (container_of k)) ≡ uleb n ++ plain r (tree_of inner.value) (of (payload_shape (payload_of x.now.value)))
variant_plain r v k vs n inner x o e f found some =
    at_enum (λ t c. plain r t c) v k vs n inner e f
    ∙ ap (λ c. uleb n ++ plain r (tree_of inner.value) c) (choice-found n vs.entries x o found some)

pub text_plain : (r : Entries) (v : Value) (f : Format) (x : String Global) (s : List ℕ) → v ≡ value.Text x → f ≡ format.Str → s ≡ string_bytes x
    → uleb (length s) ++ s ≡ plain r (tree_of v) (of (shape_of f))
text_plain r v f x s e g i = rw (e, shape-Str f g, i, tree_of_text x) refl

pub bytes_plain : (r : Entries) (v : Value) (f : Format) (x : Vec ℕ Global) (s : List ℕ) → v ≡ value.Bytes x → f ≡ format.Bytes → s ≡ x.items
    → uleb (length s) ++ s ≡ plain r (tree_of v) (of (shape_of f))
bytes_plain r v f x s e g i = rw (e, shape-Bytes f g, i, tree_of_bytes x) refl

pub present_plain : (r : Entries) (v : Value) (f : Format) (inner : Box Value Global) (content : Box Format Global) (w : Value) (g : Format) → v ≡ value.Present inner → f ≡ format.Opt content → w ≡ inner.value → g ≡ content.value
    → plain r (tree_of v) (of (shape_of f)) ≡ (1 ∷ []) ++ plain r (tree_of w) (of (shape_of g))
present_plain r v f inner content w g e h i j =
    let t : tree_of v ≡ tree.present (tree_of w) = ap (λ (y : Value). tree_of y) e ∙ tree_of_present inner ∙ ap (λ (y : Value). tree.present (tree_of y)) (sym i) in
    let u : shape_of f ≡ shape.option (shape_of g) = ap (λ (y : Format). shape_of y) h ∙ search (rules, format.the_lemmas) ∙ ap (λ (y : Format). shape.option (shape_of y)) (sym j) in
    rw (t, u) refl

pub at_name : {A : Type 0} (walk : Tree → Content → A) (v : Value) (f : Format) (inner : Box Value Global) (name : String Global) (w : Value) (n : List ℕ) → v ≡ value.Named inner → f ≡ format.TypeName name → w ≡ inner.value → n ≡ string_bytes name
    → walk (tree.named (tree_of w)) (of (shape.name n)) ≡ walk (tree_of v) (of (shape_of f))
at_name walk v f inner name w n e h i j =
    let t : tree_of v ≡ tree.named (tree_of w) = ap (λ (y : Value). tree_of y) e ∙ search (rules, value.the_lemmas) ∙ ap (λ (y : Value). tree.named (tree_of y)) (sym i) in
    let u : shape_of f ≡ shape.name n = ap (λ (y : Format). shape_of y) h ∙ search (rules, format.the_lemmas) ∙ ap (λ (b : List ℕ). shape.name b) (sym j) in
    rw (t, u) refl

-- ---- the end of a map

-- an output whose maps ascend as given stays as it is
pub map_gives : (now new : Output)
    → (now.extent ≡ Sorting → is_told new.extent ≡ true → is_complete new.extent ≡ true → new.extent ≡ Sorting)
    → ((now.extent ≡ Sorting → ⊥) → (new.extent ≡ now.extent) × (new.bytes ≡ now.bytes))
    → Gives now new []
map_gives now new sorts others = by now.extent refl
  where
    by : (x : Extent) → now.extent ≡ x → Gives now new []
    by Sorting ext = λ is.
        let whole : is_complete new.extent ≡ true = same_whole Rising new.extent (sym is) refl in
        let s = sorts ext (is_whole_told new whole) whole in
        let bad : Rising ≡ Sorting = sym is ∙ s in
        absurd cc
    by Rising ext = λ is.
        let d = others (λ (e : now.extent ≡ Sorting). let bad : Rising ≡ Sorting = sym ext ∙ e in absurd cc) in
        (ext, ap (λ (h : HeldBytes). h.items) d.1 ∙ sym (append-nil now.bytes.items))
    by Repeated ext = λ is.
        let d = others (λ (e : now.extent ≡ Sorting). let bad : Repeated ≡ Sorting = sym ext ∙ e in absurd cc) in
        let bad : Rising ≡ Repeated = sym is ∙ d.0 ∙ ext in
        absurd cc
    by Incomplete ext = λ is.
        let d = others (λ (e : now.extent ≡ Sorting). let bad : Incomplete ≡ Sorting = sym ext ∙ e in absurd cc) in
        let bad : Rising ≡ Incomplete = sym is ∙ d.0 ∙ ext in
        absurd cc

-- an entry that ends leaves the bytes
pub entry_gives : (q r : Output) → (is_told r.extent ≡ true → (r.extent ≡ q.extent) × (r.bytes ≡ q.bytes)) → Gives q r []
entry_gives q r ended = λ is.
    let whole : is_complete r.extent ≡ true = same_whole Rising r.extent (sym is) refl in
    let d = ended (is_whole_told r whole) in
    (sym d.0 ∙ is, ap (λ (h : HeldBytes). h.items) d.1 ∙ sym (append-nil q.bytes.items))
