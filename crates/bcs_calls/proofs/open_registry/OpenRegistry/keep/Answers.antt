use Rattle.bcs_calls.proofs.open_registry.OpenRegistry.keep.Goals as goal

pub invariant_of-self : goal.invariant_of-self
invariant_of-self c = rw c.self.view_is c.requires
