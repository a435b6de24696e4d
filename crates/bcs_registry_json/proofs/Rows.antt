-- JSON arrays whose elements are read one after another.
use Rattle.bcs_registry_json.proofs.Prelude.{◌≡◌, ◌∙◌, ◌+◌, ◌<◌, ◌≤◌, ◌&&◌, ℕ, zero, suc, List, [], ◌∷◌, ◌++◌, Bool, true, false, Global, Vec, length, map, take, get_or, ap, arith, refl, sym, map-append, take_all, take_more, list_all-append, list_all, view-Array, Data, Items, array, depth, item, items_depth, items_of, items_view, view, Array, Value, IsFaultBy, RegistryFault, BadNumber, BadShape, NotJson, OutOfMemory, RepeatedName, TooNested, UnknownName}
use Rattle.bcs_registry_json.proofs.TwoTests.{and-false_left, and-false_right}

-- a fault of a part is a fault of the whole
pub passes_on : (test wider : Bool → Bool) (e : RegistryFault) → ((loose : Bool) → test loose ≡ false → wider loose ≡ false) → IsFaultBy test e → IsFaultBy wider e
passes_on test wider BadShape all h = all true h
passes_on test wider BadNumber all h = all false h
passes_on test wider OutOfMemory all h = tt
passes_on test wider NotJson all h = h
passes_on test wider TooNested all h = h
passes_on test wider RepeatedName all h = h
passes_on test wider UnknownName all h = h

-- a fault of the second of two parts
pub second_fault : (first second whole : Bool → Bool) (e : RegistryFault) → ((loose : Bool) → whole loose ≡ (first loose && second loose)) → IsFaultBy second e → IsFaultBy whole e
second_fault first second whole e both h = passes_on second whole e (λ loose f. both loose ∙ and-false_right (first loose) (second loose) f) h

-- each value is the JSON of the part with the same index, and the numbers in the parts are in range
pub record IsRow {A : Type 0} (shows : A → Data) (fits : A → Bool) (vs : List Value) (parts : List A) : Type 0 where
  pub same : map view vs ≡ map shows parts
  pub fit : list_all fits parts ≡ true

module _ {A : Type 0} (shows : A → Data) (fits : A → Bool) where
  pub row_more : (vs : List Value) (i : ℕ) (v : Value) (parts more : List A) (a : A) → i < length vs → v ≡ get_or vs i v → more ≡ parts ++ a ∷ [] → view v ≡ shows a → fits a ≡ true
      → IsRow shows fits (take i vs) parts → IsRow shows fits (take (i + 1) vs) more
  row_more vs i v parts more a within is pushed same fit row = record {
    same = ap (map view) (take_more vs i v within) ∙ map-append view (take i vs) (get_or vs i v ∷ [])
        ∙ rw (row.same, sym is, same) (sym (map-append shows parts (a ∷ []))) ∙ ap (map shows) (sym pushed);
    fit = ap (list_all fits) pushed ∙ list_all-append fits parts (a ∷ []) ∙ rw (row.fit, fit) refl;
  }

  pub row_all : (vs : List Value) (i : ℕ) (parts : List A) → length vs ≤ i → IsRow shows fits (take i vs) parts → items_view vs ≡ items_of (map shows parts)
  row_all vs i parts all row = ap items_view (sym (take_all i vs all)) ∙ ap items_of row.same

-- if the test fails for this element, the test of all elements fails
pub element_false : (test : Data → Bool) (all : Items → Bool) → ((d : Data) (ds : Items) → all (item d ds) ≡ (test d && all ds))
    → (vs : List Value) (i : ℕ) (v : Value) → i < length vs → test (view (get_or vs i v)) ≡ false → all (items_view vs) ≡ false
element_false test all step [] i v within h = absurd (omega arith)
element_false test all step (x ∷ xs) zero v within h = step (view x) (items_view xs) ∙ and-false_left (test (view x)) _ h
element_false test all step (x ∷ xs) (suc i) v within h =
    step (view x) (items_view xs) ∙ and-false_right (test (view x)) _ (element_false test all step xs i v (omega arith) h)

pub element_fault : (test : Bool → Data → Bool) (all : Bool → Items → Bool) (whole : Bool → Data → Bool)
    → ((loose : Bool) (d : Data) (ds : Items) → all loose (item d ds) ≡ (test loose d && all loose ds))
    → ((loose : Bool) (ds : Items) → whole loose (array ds) ≡ all loose ds)
    → (v : Value) (row : Vec Value Global) (vs : List Value) (i : ℕ) (x : Value) (e : RegistryFault)
    → v ≡ Array row → vs ≡ row.items → i < length vs → x ≡ get_or vs i x
    → IsFaultBy (λ loose. test loose (view x)) e → IsFaultBy (λ loose. whole loose (view v)) e
element_fault test all whole step start v row vs i x e is same within found h =
    passes_on (λ loose. test loose (view x)) (λ loose. whole loose (view v)) e
    (λ loose f. let shown : view v ≡ array (items_view vs) = ap view is ∙ view-Array row ∙ ap (λ (ys : List Value). array (items_view ys)) (sym same) in
    ap (whole loose) shown ∙ start loose (items_view vs)
    ∙ element_false (test loose) (all loose) (step loose) vs i x within (ap (λ (y : Value). test loose (view y)) (sym found) ∙ f)) h

-- an element nests less deeply than its array
pub element_depth : (vs : List Value) (i : ℕ) (v : Value) → i < length vs → depth (view (get_or vs i v)) ≤ items_depth (items_view vs)
element_depth [] i v within = absurd (omega arith)
element_depth (x ∷ xs) zero v within = omega arith
element_depth (x ∷ xs) (suc i) v within = omega (arith, element_depth xs i v (omega arith))

pub element_shallow : (v : Value) (row : Vec Value Global) (vs : List Value) (i : ℕ) (x : Value) → v ≡ Array row → vs ≡ row.items → i < length vs → x ≡ get_or vs i x
    → depth (view x) < depth (view v)
element_shallow v row vs i x is same within found =
    let shown : depth (view v) ≡ suc (items_depth (items_view vs)) = ap (λ (y : Value). depth (view y)) is ∙ ap depth (view-Array row) ∙ ap (λ (ys : List Value). suc (items_depth (items_view ys))) (sym same) in
    let less = element_depth vs i x within in
    let here : depth (view (get_or vs i x)) ≡ depth (view x) = ap (λ (y : Value). depth (view y)) (sym found) in
    omega (arith, shown, less, here)

-- testing an array means testing its elements
pub array_tested : (whole : Data → Bool) (all : Items → Bool) → ((ds : Items) → whole (array ds) ≡ all ds)
    → (v : Value) (row : Vec Value Global) (vs : List Value) → v ≡ Array row → vs ≡ row.items → whole (view v) ≡ all (items_view vs)
array_tested whole all start v row vs is same =
    ap (λ (y : Value). whole (view y)) is ∙ ap whole (view-Array row) ∙ start (items_view row.items) ∙ ap (λ (ys : List Value). all (items_view ys)) (sym same)
