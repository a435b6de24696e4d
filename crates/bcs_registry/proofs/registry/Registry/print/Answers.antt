use Rattle.bcs_registry.proofs.Prelude.{string_bytes, ◌≡◌, ◌∙◌, ◌≤◌, false, sym, ap, subst, rules, IfOk-weaker, IsUtf8-string_bytes, depth, max_depth, view, compact_text, has_float, shown_registry, IsRegistryText, WritesRegistry, entries_of}
use Rattle.bcs_registry.proofs.ShownDepth.{depth-shown}
use Rattle.bcs_registry.proofs.ShownFloats.{no_float-shown}
use Rattle.bcs_registry.proofs.OneText.{same_registry}
use Rattle.bcs_registry.proofs.registry.Registry.print.Goals as goal

pub returns-clause-text : goal.returns-clause-text
returns-clause-text c =
    let entries = entries_of c.self.inside.containers.entries.items in
    let built = view c.in_ok-registry_value.field-0 in
    let is : built ≡ shown_registry entries = search rules in
    let plain : has_float built ≡ false = ap has_float is ∙ no_float-shown entries in
    IfOk-weaker c.to_string.result _ _ (λ s h. h plain ∙ ap compact_text (is ∙ ap shown_registry c.self.view_is)) c.to_string.ensures.text

pub returns-clause-reads_back : goal.returns-clause-reads_back
returns-clause-reads_back c =
    let entries = entries_of c.self.inside.containers.entries.items in
    let built = view c.in_ok-registry_value.field-0 in
    let writes : IsRegistryText built entries = record { is = search rules; orderly = c.self.invariant.1 } in
    let shallow : depth built ≤ max_depth = subst (λ d. depth d ≤ max_depth) (sym writes.is) (depth-shown entries c.self.invariant.0) in
    IfOk-weaker c.to_string.result _ _
    (λ s h. (built, (IsUtf8-string_bytes s, h shallow), subst (IsRegistryText built) c.self.view_is writes)) c.to_string.ensures.reads_back

pub returns-clause-no_other : goal.returns-clause-no_other
returns-clause-no_other c =
    IfOk-weaker c.to_string.result (λ s. WritesRegistry (string_bytes s) c.args.self.now) _
    (λ s writes other h. same_registry (string_bytes s) other c.args.self.now h writes) (returns-clause-reads_back c)

pub returns-in_err-registry_value-clause-text : goal.returns-in_err-registry_value-clause-text
returns-in_err-registry_value-clause-text c = search rules

pub returns-in_err-registry_value-clause-reads_back : goal.returns-in_err-registry_value-clause-reads_back
returns-in_err-registry_value-clause-reads_back c = search rules

pub returns-in_err-registry_value-clause-no_other : goal.returns-in_err-registry_value-clause-no_other
returns-in_err-registry_value-clause-no_other c = search rules
