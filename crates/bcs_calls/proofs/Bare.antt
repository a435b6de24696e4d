-- An answer that refuses the arguments of a call is the same without a message.
use Rattle.std.specs.Prelude.{◌==◌, Bool, false, true, if◌then◌else◌}
use Rattle.bcs_calls.proofs.Prelude.{◌≡◌, refl, subst, sym, RegistryFault, refusal, Answer, RefusesAsk, RefusesFor, Status, Refused}
use Rattle.bcs_calls.specs.Answers.{without_message}
use Rattle.bcs_calls.specs.Asking as asking
use Rattle.bcs_calls.specs.Asking.{Request}
use Rattle.bcs_calls.specs.Registries as registries
use Rattle.bcs_calls.specs.Statuses.{status_number}
use Rattle.bcs_calls.specs.declared.fault.Fault.TheVariants.{Registry}

abbrev IsBare : Answer → Type 0
IsBare a = without_message a ≡ a

bare_of : {a b : Answer} → a ≡ b → IsBare b → IsBare a
bare_of is bare = subst (λ (x : Answer). IsBare x) (sym is) bare

either_way : (yes : Bool) (x : Answer) → (if yes then x else x) ≡ x
either_way true x = refl
either_way false x = refl

module _ (a : Answer) where
  bare_refused : (IsLeast : RegistryFault → Type 0) (status : Status) → RefusesFor IsLeast status a → IsBare a
  bare_refused IsLeast status (registries.has_fault e least is) = bare_of is (either_way (status_number status == status_number Refused) (refusal status (Registry e)))
  bare_refused IsLeast status (registries.no_memory is) = bare_of is refl

  pub bare_asking : (q : Request) → RefusesAsk q a → IsBare a
  bare_asking q (asking.no_registry none is) = bare_of is refl
  bare_asking q (asking.no_format r is refuses) = bare_refused _ _ refuses
  bare_asking q (asking.no_limits r s has form over is) = bare_of is refl
