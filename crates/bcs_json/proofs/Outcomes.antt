-- The results of the calls, from the results of the crates below.
use Rattle.bcs_json.proofs.Prelude.{◌≡◌, ◌≢◌, ◌≤◌, ◌↔◌, ℕ, List, Ok, Err, Result, None, Option, option_map, Some, Vec, IfOk, IfErr, IfSome, Bool, Global, map, Decides, refl, ap, sym, subst, none-some, same_Some, result_ok, result_err, Data, depth, Entries, IsOrderly, Shape, IsWellFormed, Bounds, Same, Tree, tree_of, Value, bytes_decide_same, IsForm, IsSound, EncodeFault, IsDecoded, IsNotJson, TextFault, NotJson, Json, fault_of_text, fault_of_value, JsonFault, JsonStep, OutOfMemory, HasBytes, Compares, Normalises, of, PointerStep, pointer_step_of, value, parts, IsPlaceOf, Reports, read_data, shown, nesting_limit, IsReadAs, SpelledBy, MisspellsAt, RefusesText, IsTextOf, shown_denotes, form_is_sound, form_nests, exact_data, read_is_spelled, stop_is_refusal, refused_value, steps, IsPlaced, Refusal, Prints}
use Rattle.bcs_registry_model.specs.Container as container
use Rattle.bcs_json.specs.Refusing.{IsRefusedAs}
use Rattle.bcs_json.specs.declared.text_refusal.TextRefusal.{TextRefusal}
use Rattle.bcs_encode_spec.specs.Refused as encode
use Rattle.bcs_encode_spec.specs.declared.fault.EncodeFault.TheVariants as encode_fault
use Rattle.bcs_registry_json.specs.declared.json_reading.TextFault.TheVariants as unread

-- results that `ok` and `err` have inspected
pub was_ok : {A E : Type 0} (r : Result A E) (x : A) (P : A → Type 0) → Some x ≡ result_ok r → IfOk r P → P x
was_ok (Ok y) x P is h = subst P (same_Some y x (sym is)) h
was_ok (Err e) x P is h = absurd (none-some x (sym is))

pub was_err : {A E : Type 0} (r : Result A E) (e : E) → Some e ≡ result_err r → r ≡ Err e
was_err (Ok y) e is = absurd (none-some e (sym is))
was_err (Err g) e is = ap Err (same_Some g e (sym is))

module _ (registry : Entries) (limits : Bounds) (s : Shape) (text : List ℕ) where
  -- a document that can't be parsed isn't JSON, unless an allocation failed
  pub text_fault : (e : TextFault) (r : Result Json TextFault) → r ≡ Err e → (r ≡ Err NotJson → IsNotJson text) → fault_of_text e ≢ OutOfMemory → RefusesText registry limits s text (fault_of_text e)
  text_fault NotJson r is h other = h is
  text_fault unread.OutOfMemory r is h other = absurd (other refl)

  -- the document spells the value that the reader returned
  pub told_value : (d : Data) → IsReadAs text d → (r : Result Value JsonFault) → Reports tree_of r (read_data registry limits.depth (of s) d) → IfOk r (λ v. SpelledBy registry limits s text (tree_of v))
  told_value d is (Ok v) h = read_is_spelled registry limits s text d is (tree_of v) h
  told_value d is (Err e) h = tt

  -- where the reader stopped, the document is refused
  pub told_fault : (d : Data) → IsReadAs text d → (r : Result Value JsonFault) → Reports tree_of r (read_data registry limits.depth (of s) d) → IfErr r (λ e. e ≢ OutOfMemory → RefusesText registry limits s text e)
  told_fault d is (Ok v) h = tt
  told_fault d is (Err e) h = λ other. stop_is_refusal registry limits s text d is e (h other)

  -- and known steps lead to that JSON
  pub told_place : (d : Data) → IsReadAs text d → (n : ℕ) → n ≡ limits.depth → (r : Refusal) → Reports {X = Value} tree_of (Err r.fault) (read_data registry n (of s) d)
      → IsPlaced {X = Value} registry (parts registry n (value (of s)) d) (Err r) → r.fault ≢ OutOfMemory → (path : List PointerStep) → steps r.location ≡ Some path → MisspellsAt registry limits s text path r.fault
  told_place d is n depth r reports placed other path known =
      let read : read_data registry limits.depth (of s) d ≡ Err r.fault = subst (λ m. read_data registry m (of s) d ≡ Err r.fault) depth (reports other) in
      let place : IsPlaceOf registry n (value (of s)) d path = subst (λ o. IfSome o (λ location. IsPlaceOf registry n (value (of s)) d location)) known (placed other) in
      (d, is, ((exact_data registry limits.depth (of s) d).err r.fault read, subst (λ m. IsPlaceOf registry m (value (of s)) d path) depth place))

  -- so a refusal of that JSON is one of the document
  pub told_refusal : (d : Data) → IsReadAs text d → (n : ℕ) → n ≡ limits.depth → (r : Refusal) → Reports {X = Value} tree_of (Err r.fault) (read_data registry n (of s) d)
      → IsPlaced {X = Value} registry (parts registry n (value (of s)) d) (Err r) → (q : TextRefusal) → q.fault ≡ r.fault
      → IfSome q.steps (λ v. (r.fault ≢ OutOfMemory) × (Some (map pointer_step_of v.items) ≡ steps r.location)) → IsRefusedAs registry limits s text q
  told_refusal d is n depth r reports placed q same known = (
    (λ other. subst (RefusesText registry limits s text) (sym same) (told_fault d is (Err r.fault) (subst (λ m. Reports {X = Value} tree_of (Err r.fault) (read_data registry m (of s) d)) depth reports) (λ bad. other (subst (λ f. f ≡ OutOfMemory) (sym same) bad)))),
    at q.steps known,
  )
    where
      at : (o : Option (Vec JsonStep Global)) → IfSome o (λ v. (r.fault ≢ OutOfMemory) × (Some (map pointer_step_of v.items) ≡ steps r.location)) → IfSome o (λ v. MisspellsAt registry limits s text (map pointer_step_of v.items) q.fault)
      at None h = tt
      at (Some v) h = subst (MisspellsAt registry limits s text (map pointer_step_of v.items)) (sym same) (told_place d is n depth r reports placed h.0 (map pointer_step_of v.items) (sym h.1))

  -- a fault of encoding the value is a fault of the document
  pub value_fault : IsOrderly registry → (t : Tree) → SpelledBy registry limits s text t → (e : EncodeFault) → (e ≢ encode_fault.OutOfMemory → encode.RefusesValue registry limits s t e)
      → fault_of_value e ≢ OutOfMemory → RefusesText registry limits s text (fault_of_value e)
  value_fault orderly t spelled encode_fault.OutOfMemory h other = absurd (other refl)
  value_fault orderly t spelled e h other = refused_value registry limits s text orderly t spelled e (h (λ is. cc))

  -- the JSON of the canonical form of a document's value nests no deeper than a document may, and is the normal document
  pub normal_nests : IsWellFormed registry → IsOrderly registry → (t form : Tree) → SpelledBy registry limits s text t → IsForm registry (container.of s) t form → depth (shown registry form (of s)) ≤ nesting_limit
  normal_nests well orderly t form spelled is_form = form_nests registry limits s well orderly text t form spelled is_form

  pub normalises : IsWellFormed registry → IsOrderly registry → (t form : Tree) (out : List ℕ) → SpelledBy registry limits s text t → IsSound registry limits s t
      → IsForm registry (container.of s) t form → IsTextOf registry s form out → IsReadAs out (shown registry form (of s)) → Normalises registry limits s text out
  normalises well orderly t form out spelled sound is_form is back =
      record {
        value = t;
        denoted = record { read = spelled.read; is = spelled.is; spells = spelled.spells.0; sound = sound };
        form = form;
        is_form = is_form;
        is = is;
        again = shown_denotes registry limits s well orderly form (form_is_sound registry limits s well orderly t form sound is_form) out back.0 back.1;
      }

-- the document of the canonical form of a sound value
pub prints : (registry : Entries) (limits : Bounds) (s : Shape) → IsWellFormed registry → IsOrderly registry → (t form : Tree) (out : List ℕ) → IsSound registry limits s t → IsForm registry (container.of s) t form
    → IsTextOf registry s form out → IsReadAs out (shown registry form (of s)) → Prints registry limits s t out
prints registry limits s well orderly t form out sound is_form is back =
    record {
      form = form;
      is_form = is_form;
      is = is;
      denotes = shown_denotes registry limits s well orderly form (form_is_sound registry limits s well orderly t form sound is_form) out back.0 back.1;
    }

-- values are equal exactly if their bytes are
pub compares : (registry : Entries) (limits : Bounds) (s : Shape) (first second b c : List ℕ) (answer : Bool) → HasBytes registry limits s first b → HasBytes registry limits s second c
    → Decides answer (b ≡ c) → Compares registry limits s first second answer
compares registry limits s first second b c answer one other equal =
    let decide : Same one.value other.value ↔ (b ≡ c) = bytes_decide_same registry limits s one.value other.value b c one.encoded other.encoded in
    record {
      one = one.value;
      one_denoted = one.denoted;
      other = other.value;
      other_denoted = other.denoted;
      same = (λ h. decide.1 (equal.0 h), λ h. equal.1 (decide.0 h));
      one_bytes = b;
      one_encoded = one.encoded;
      other_bytes = c;
      other_encoded = other.encoded;
      equal = equal;
    }
