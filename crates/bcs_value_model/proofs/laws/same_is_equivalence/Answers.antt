use Rattle.bcs_value_model.proofs.Prelude.{◌∙◌}
use Rattle.bcs_value_model.proofs.Equivalence.{same-refl, same-sym, same-trans}
use Rattle.bcs_value_model.proofs.laws.same_is_equivalence.Goals as goal

pub returns-clause-reflexive : goal.returns-clause-reflexive
returns-clause-reflexive c = same-refl

pub returns-clause-symmetric : goal.returns-clause-symmetric
returns-clause-symmetric c = λ a b h. same-sym b a ∙ h

pub returns-clause-transitive : goal.returns-clause-transitive
returns-clause-transitive c = same-trans
