use Rattle.bcs_calls.proofs.Prelude.{◌≡◌, Answer, ap, Done, Handle, IsLeastFault, opened, plain, Registry, rules}
use Rattle.bcs_calls.specs.Opened.{AnswersOpening, refused}
use Rattle.bcs_calls.proofs.Once.{registry_stands}
use Rattle.bcs_calls.proofs.Refusals.{registry_refused}
use Rattle.bcs_calls.proofs.handles.open.Goals as goal

pub returns-in-Ok-clause-answers : goal.returns-in-Ok-clause-answers
returns-in-Ok-clause-answers c =
    let x = c.in-Ok.ensures.opened in
    let known : (a : Answer) → a ≡ plain Done → AnswersOpening c.args.registry.now c.args.handle.now.registry c.open.new.self.registry a = λ a is. opened x.0 (x.2, x.3) x.1 is in
    search (rules, known)

pub returns-in-Err-clause-answers : goal.returns-in-Err-clause-answers
returns-in-Err-clause-answers c =
    let why =
    registry_refused (IsLeastFault c.args.registry.now) Registry c.in-Err.fault c.registry_refusal.result c.in-Err.ensures.fault c.registry_refusal.ensures.memory c.registry_refusal.ensures.refusal
    in
    refused why (ap (λ (h : Handle). h.registry) c.in-Err.ensures.kept)

pub returns-in-Err-clause-good : goal.returns-in-Err-clause-good
returns-in-Err-clause-good c r is memory =
    let why =
    registry_refused (IsLeastFault c.args.registry.now) Registry c.in-Err.fault c.registry_refusal.result c.in-Err.ensures.fault c.registry_refusal.ensures.memory c.registry_refusal.ensures.refusal
    in
    absurd (memory (registry_stands c.args.registry.now r Registry c.registry_refusal.result is why))
