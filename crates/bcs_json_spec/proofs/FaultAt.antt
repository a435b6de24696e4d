-- The fault of some JSON as a function, which agrees with the relation.
use Rattle.bcs_json_spec.proofs.Prelude.{◌≡◌, ◌∙◌, ℕ, Option, None, Some, Ok, Err, refl, ap, sym, result_err, none-some, Data, Shape, Entries, of, IfTwo, Target, value, entry, JsonPart, IsGood, IsRefusedWith, Read, read_data, read_pair, Refuses, SpellsWithin, JsonFault}
use Rattle.bcs_json_spec.proofs.Exact.{Exact}
use Rattle.bcs_json_spec.proofs.PartVerdicts.{exact_pair}
use Rattle.bcs_json_spec.proofs.Verdict.{exact_data}

some_err : {A : Type 0} (x : Read A) (e : JsonFault) → result_err x ≡ Some e → x ≡ Err e
some_err (Ok a) e h = cc
some_err (Err f) e h = cc

module _ (registry : Entries) where
  exact_entry : (d : ℕ) (k v : Shape) (j : Data)
      → Exact (λ p. IfTwo (λ a b. SpellsWithin registry d (of k) a p.0 × SpellsWithin registry d (of v) b p.1) j) (IsRefusedWith registry d (entry k v) j)
      (read_pair (read_data registry d (of k)) (read_data registry d (of v)) j)
  exact_entry d k v =
      exact_pair registry d k v (Refuses registry d (of k)) (Refuses registry d (of v)) (read_data registry d (of k)) (read_data registry d (of v))
      (exact_data registry d (of k)) (exact_data registry d (of v))

  abbrev pub fault_at : ℕ → Target → Data → Option JsonFault
  fault_at d (value f) j = result_err (read_data registry d f j)
  fault_at d (entry k v) j = result_err (read_pair (read_data registry d (of k)) (read_data registry d (of v)) j)

  pub refused_of : (d : ℕ) (t : Target) (j : Data) (e : JsonFault) → fault_at d t j ≡ Some e → IsRefusedWith registry d t j e
  refused_of d (value f) j e h = (exact_data registry d f j).err e (some_err (read_data registry d f j) e h)
  refused_of d (entry k v) j e h =
      (exact_entry d k v j).err e (some_err (read_pair (read_data registry d (of k)) (read_data registry d (of v)) j) e h)

  pub fault_of : (d : ℕ) (t : Target) (j : Data) (e : JsonFault) → IsRefusedWith registry d t j e → fault_at d t j ≡ Some e
  fault_of d (value f) j e h = ap result_err ((exact_data registry d f j).errs e h)
  fault_of d (entry k v) j e h = ap result_err ((exact_entry d k v j).errs e h)

  pub good_of : (p : JsonPart) → fault_at p.left p.target p.json ≡ None → IsGood registry p
  good_of p none e h = none-some e (sym none ∙ fault_of p.left p.target p.json e h)

  pub bad_of : (p : JsonPart) (e : JsonFault) → fault_at p.left p.target p.json ≡ Some e → ¬ IsGood registry p
  bad_of p e is good = good e (refused_of p.left p.target p.json e is)

  pub none_of : (p : JsonPart) → IsGood registry p → fault_at p.left p.target p.json ≡ None
  none_of p good = at (fault_at p.left p.target p.json) refl
    where
      at : (o : Option JsonFault) → fault_at p.left p.target p.json ≡ o → o ≡ None
      at None is = refl
      at (Some e) is = absurd (good e (refused_of p.left p.target p.json e is))
