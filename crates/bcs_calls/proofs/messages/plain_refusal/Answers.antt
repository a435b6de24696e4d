use Rattle.bcs_calls.proofs.Calls.{plain_told}
use Rattle.bcs_calls.specs.declared.call.PlainCall.TheVariants.{RegistryOfModules}
use Rattle.bcs_calls.proofs.messages.plain_refusal.Goals as goal

pub returns-in-RegistryOfModules : goal.returns-in-RegistryOfModules
returns-in-RegistryOfModules c = plain_told c.args.message.now _ c.told_modules.result c.args.call RegistryOfModules c.in-RegistryOfModules.is c.told_modules.ensures.answers
