use Rattle.bcs_calls.proofs.Calls.{plain_said}
use Rattle.bcs_calls.specs.declared.call.PlainCall.TheVariants.{FaultName, Grows, ModulesPlace, RegistryOfModules, RegistryRefusal}
use Rattle.bcs_calls.proofs.asking.answer_plain.Goals as goal

pub returns-in-Grows-clause-answers : goal.returns-in-Grows-clause-answers
returns-in-Grows-clause-answers c = plain_said c.args.question.now c.args.out.now _ c.grows.result c.args.call Grows c.in-Grows.is c.grows.ensures.answers

pub returns-in-RegistryRefusal-clause-answers : goal.returns-in-RegistryRefusal-clause-answers
returns-in-RegistryRefusal-clause-answers c = plain_said c.args.question.now c.args.out.now _ c.told_registry_refusal.result c.args.call RegistryRefusal c.in-RegistryRefusal.is c.told_registry_refusal.ensures.answers

pub returns-in-FaultName-clause-answers : goal.returns-in-FaultName-clause-answers
returns-in-FaultName-clause-answers c = plain_said c.args.question.now c.args.out.now _ c.told_fault_name.result c.args.call FaultName c.in-FaultName.is c.told_fault_name.ensures.answers

pub returns-in-RegistryOfModules-clause-answers : goal.returns-in-RegistryOfModules-clause-answers
returns-in-RegistryOfModules-clause-answers c = plain_said c.args.question.now c.args.out.now _ c.text_of_modules.result c.args.call RegistryOfModules c.in-RegistryOfModules.is c.text_of_modules.ensures.answers

pub returns-in-ModulesPlace-clause-answers : goal.returns-in-ModulesPlace-clause-answers
returns-in-ModulesPlace-clause-answers c = plain_said c.args.question.now c.args.out.now _ c.told_modules.result c.args.call ModulesPlace c.in-ModulesPlace.is c.told_modules.ensures.answers
