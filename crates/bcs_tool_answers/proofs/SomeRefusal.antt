-- The arguments of a job are either valid or refused for some reason.
use Rattle.bcs_tool_answers.proofs.Prelude.{◌≡◌, ◌∙◌, ◌⊎◌, inl, inr, ℕ, List, Option, Some, None, Ok, Err, Bool, true, false, refl, ap, string_bytes, sym, is_some, none-some, Container, Entries, container_at, growth_fault, Grows, IsFirstGrowthFault, Shape, name, RegistryFault, UnknownName, GrowthFault, fault_exactly, ok_exactly, IsLeastFault, format_or_fault, registry_or_fault, IsFormatWord, IsRegistry, NamesNone, RefusesFormatWord, RefusesFormatted, is_json_word, JobFault, Registry, Work}

-- a text is a registry, or has a fault
pub some_registry : (text : List ℕ) → ((r : Entries) × IsRegistry text r) ⊎ ((e : RegistryFault) × IsLeastFault text e)
some_registry text = elim (registry_or_fault text) [ inl h ↦ inl (h.0, (h.1, h.2)) | inr h ↦ inr h ]

-- an older registry has grown into a newer one, or there is a first fault
pub some_growth : (older newer : Entries) → Grows older newer ⊎ ((e : GrowthFault) × IsFirstGrowthFault older newer e)
some_growth older newer = at (growth_fault older newer) refl
  where
    at : (o : Option GrowthFault) → growth_fault older newer ≡ o → Grows older newer ⊎ ((e : GrowthFault) × IsFirstGrowthFault older newer e)
    at None is = inl ((ok_exactly older newer (Ok tt) (sym is)).0 refl)
    at (Some e) is = inr (e, (fault_exactly older newer (Err e) (sym is) e).0 refl)

-- an argument is a format, or is refused
module _ (registry : Entries) (word : List ℕ) where
  named : (o : Option Container) → container_at word registry ≡ o → is_json_word word ≡ false → ((s : Shape) × IsFormatWord registry word s) ⊎ ((e : RegistryFault) × RefusesFormatWord registry word e)
  named None is plain = inr (UnknownName, inr (plain, is, refl))
  named (Some c) is plain = inl (name word, inr (plain, ap is_some is, refl))

  pub some_format : ((s : Shape) × IsFormatWord registry word s) ⊎ ((e : RegistryFault) × RefusesFormatWord registry word e)
  some_format = at (is_json_word word) refl
    where
      at : (b : Bool) → is_json_word word ≡ b → ((s : Shape) × IsFormatWord registry word s) ⊎ ((e : RegistryFault) × RefusesFormatWord registry word e)
      at true is = elim (format_or_fault registry word) [ inl h ↦ inl (h.0, inl (is, h.1, h.2)) | inr h ↦ inr (h.0, inl (is, h.1)) ]
      at false is = named (container_at word registry) refl is

-- the arguments of a command on values give some format of some registry, or are refused
pub some_formatted : (work : Work) → ((r : Entries) × (s : Shape) × IsRegistry work.registry.items r × IsFormatWord r (string_bytes work.format) s) ⊎ ((e : JobFault) × RefusesFormatted work e)
some_formatted work = elim (some_registry work.registry.items) [
  | inr h ↦ inr (Registry h.0, inl h.1)
  | inl r ↦ elim (some_format r.0 (string_bytes work.format)) [ inl s ↦ inl (r.0, s.0, r.1, s.1) | inr h ↦ inr (Registry h.0, inr (r.0, r.1, h.1)) ]
]

-- a name is given that no container has; or a container has it, or no name is given
pub named_or_none : (word : Option (List ℕ)) (registry : Entries) → NamesNone word registry ⊎ (NamesNone word registry → ⊥)
named_or_none None registry = inr (λ none. none)
named_or_none (Some word) registry = at (container_at word registry) refl
  where
    at : (o : Option Container) → container_at word registry ≡ o → (container_at word registry ≡ None) ⊎ (container_at word registry ≡ None → ⊥)
    at None is = inl is
    at (Some c) is = inr (λ none. absurd (none-some c (sym none ∙ is)))
