-- The items of an array that were read, and those in the remaining tokens.
use Rattle.bcs_json_tokens.proofs.Prelude.{◌≡◌, ◌∙◌, ◌+◌, ◌-◌, ◌≤◌, ◌==◌, if◌then◌else◌, ℕ, suc, List, [], ◌∷◌, length, Bool, true, false, Option, Some, Ok, Err, refl, ap, sym, arith, Decides-eqb, Token, parse_map, after_end_array, items, value, Data, Items, no_items, item, converted, of_items, item_read, items_over, none_before, BadShape, JsonFault, item_count, Read, follow, IsRead, Entries, Refusal, GivenUp, PointerStep, JsonPart, Target, IsPlaceAmong, parts, placed_here, placed_none, placed_on, fault_at, result_err, IfRefused, IsHere, IsItemsRefusal, IsWay, IsWithinItem, ArePassed, IsRefused, AreRefused, is_count, CountedRefused, counted_parts, read_counted}
use Rattle.bcs_json_spec.specs.Place as place
use Rattle.bcs_json_passing.proofs.Turns.{not_end, passed_shorter, twice}
use Rattle.bcs_json_tokens.proofs.Starts.{refused_is}
use Rattle.bcs_json_tokens.proofs.Openings.{read_shorter, read_going}

-- the items read so far, followed by those in the remaining tokens, are the items of the whole array
pub record Turn (depth : ℕ) (all rest : List Token) (front : Items → Items) : Type 0 where
  pub turns : ℕ
  pub enough : length rest ≤ turns
  pub same : converted of_items (items (value depth) (length all) all) ≡ parse_map front (converted of_items (items (value depth) turns rest))

pub turn_none : (depth : ℕ) (all : List Token) → Turn depth all all (λ ds. ds)
turn_none depth all = record { turns = length all; enough = omega arith; same = none_before (converted of_items (items (value depth) (length all) all)) }

pub turn_more : {A : Type 0} (r : Data → Read A) (depth : ℕ) (all rest more : List Token) (front : Items → Items) (a : A) → Turn depth all rest front → (h : IsRead r depth rest more a)
    → Turn depth all more (λ ds. front (item h.json ds))
turn_more r depth all rest more front a t h =
    let less = read_shorter r depth rest more a h in
    let enough = t.enough in
    record {
      turns = t.turns - 1;
      enough = omega (arith, less, enough);
      same = t.same ∙ ap (parse_map front) (item_read (value depth) t.turns rest more h.json (omega (arith, less, enough)) (read_going r depth rest more a h) h.is) ∙ twice front h.json _;
    }

pub turn_over : (depth : ℕ) (all rest more : List Token) (front : Items → Items) → Turn depth all rest front → after_end_array rest ≡ Some more
    → converted of_items (items (value depth) (length all) all) ≡ Some (front no_items, more)
turn_over depth all rest more front t over = t.same ∙ ap (parse_map front) (items_over (value depth) t.turns rest more t.enough over)

-- ---- refused items

not_true : (b : Bool) → (b ≡ true → ⊥) → b ≡ false
not_true true h = absurd (h refl)
not_true false h = refl

pub other_count : (n m : ℕ) → (n ≡ m → ⊥) → is_count (Some m) n ≡ false
other_count n m other = not_true (n == m) (λ h. other ((Decides-eqb n m).0 h))

-- what reads an array through its items refuses what they refuse
pub counted_fault : {A B : Type 0} (b : Bool) (x : Read A) (k : A → Read B) (f : JsonFault) → (if b then x else Err BadShape) ≡ Err f → (if b then follow x k else Err BadShape) ≡ Err f
counted_fault true x k f h = ap (λ y. follow y k) h
counted_fault {A} false x k f h = ap (λ (y : Read A). follow y k) h

counted_told : {A : Type 0} (e : Refusal) (b : Bool) (x : Read A) → (b ≡ true → x ≡ Err e.fault) → (b ≡ false → IsHere BadShape e) → (if b then x else Err BadShape) ≡ Err e.fault
counted_told e true x held other = held refl
counted_told e false x held other = let here = other refl in ap Err (sym here.0)

counted_placed : (registry : Entries) (e : Refusal) (b : Bool) (ps : List JsonPart) → (b ≡ true → IsWay registry ps e) → (b ≡ false → IsHere BadShape e) → IsWay registry (if b then ps else []) e
counted_placed registry e true ps held other = held refl
counted_placed registry e false ps held other = let here = other refl in placed_none registry [] e here.1 refl

module _ {A : Type 0} (registry : Entries) (q : Items → Read A) (qs : Items → List JsonPart) (wanted : Option ℕ) (depth : ℕ) (all rest last : List Token) (e : Refusal) where
  -- an array with another number of items
  pub number_refused : (ds : Items) → converted of_items (items (value depth) (length all) all) ≡ Some (ds, last) → is_count wanted (item_count ds) ≡ false → IsHere BadShape e → CountedRefused registry wanted q qs depth all last e
  number_refused ds is other here = record {
    json = ds;
    is = is;
    told = ap (λ b. if b then q ds else Err BadShape) other ∙ ap Err (sym here.0);
    placed = placed_none registry (counted_parts wanted qs ds) e here.1 (ap (λ b. if b then qs ds else []) other);
  }

  module _ (front : Items → Items) (t : Turn depth all rest front) where
    pub rest_refused : (n : ℕ) → ArePassed depth rest last n → ((ds : Items) → item_count ds ≡ n → is_count wanted (item_count (front ds)) ≡ false) → IsHere BadShape e → CountedRefused registry wanted q qs depth all last e
    rest_refused n p other = number_refused (front p.json) (t.same ∙ ap (parse_map front) (p.is t.turns t.enough)) (other p.json p.count)

    -- an array whose next item is refused
    pub item_refused : {B : Type 0} (left : ℕ) (to : Target) (r : Data → Read B) → ((d : Data) → fault_at registry left to d ≡ result_err (r d)) → (more : List Token) (n : ℕ) (later : Items → List JsonPart) (g : GivenUp)
        → ((ds : Items) → item_count (front ds) ≡ n + item_count ds)
        → ((d : Data) (ds : Items) (x : JsonFault) → r d ≡ Err x → q (front (item d ds)) ≡ Err x)
        → ((d : Data) (ds : Items) (path : List PointerStep) → IsPlaceAmong registry path (record { step = place.item n; left = left; target = to; json = d } ∷ later ds) → IsPlaceAmong registry path (qs (front (item d ds))))
        → IfRefused (IsRefused registry r (parts registry left to) depth rest more) g → IsWithinItem n wanted depth more last g e → CountedRefused registry wanted q qs depth all last e
    item_refused {B} left to r at more n later g number told onward refused w =
        let h : IsRefused registry r (parts registry left to) depth rest more w.inner = refused_is (IsRefused registry r (parts registry left to) depth rest more) g w.inner w.was refused in
        let less = passed_shorter depth rest more (record { json = h.json; is = h.is }) in
        let room = t.enough in
        let ds = w.passed.json in
        let whole = front (item h.json ds) in
        let the_item : JsonPart = record { step = place.item n; left = left; target = to; json = h.json } in
        let count : item_count whole ≡ n + suc w.after = number (item h.json ds) ∙ ap (λ m. n + suc m) w.passed.count in
        let known : (b : Bool) → is_count wanted (item_count whole) ≡ b → is_count wanted (n + suc w.after) ≡ b = λ b c. ap (is_count wanted) (sym count) ∙ c in
        let b = is_count wanted (item_count whole) in
        let no : b ≡ false → IsHere BadShape e = λ c. w.other (known false c) in
        record {
          json = whole;
          is = t.same ∙ ap (parse_map front) (item_read (value depth) t.turns rest more h.json (omega (arith, less, room)) (not_end depth rest more h.json h.is) h.is) ∙ twice front h.json _
              ∙ ap (parse_map (λ cs. front (item h.json cs))) (w.passed.is (t.turns - 1) (omega (arith, less, room)));
          told = counted_told e b (q whole) (λ c. let within = w.within (known true c) in told h.json ds w.inner.fault h.told ∙ ap Err (sym within.fault)) no;
          placed = counted_placed registry e b (qs whole)
              (λ c.
              let within = w.within (known true c) in
              placed_on registry (the_item ∷ later ds) (qs whole) e (onward h.json ds)
              (placed_here registry the_item (later ds) {X = B} (λ x. x) (place.item n) (Err w.inner) e (r h.json) refl (at h.json) (λ bad. h.told) h.placed (ap Err within.fault) within.location)) no;
        }
