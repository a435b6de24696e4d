-- The arguments have at most one meaning, and then they aren't refused. What holds of the parsed arguments holds of the call.
use Rattle.bcs_calls.proofs.Prelude.{◌≡◌, ◌∙◌, ℕ, List, Option, Some, None, ap, arith, refl, subst, sym, Entries, Shape, one_fault, one_format_fault, same_format, same_registry, Bounds, plain, AnswersIfAsked, AsksFor, RefusesAsk, Request, Whatever, given, no_format, no_limits, no_registry, refused, IsFormat, IsRegistry, RefusesFormat, RefusesRegistry, has_fault, Answer, Status, Memory}
use Rattle.bcs_calls.specs.Registries.{no_memory}
use Rattle.bcs_calls.specs.Asking.{On}
use Rattle.bcs_calls.specs.declared.asked.Asked.{Asked}
use Rattle.bcs_calls.specs.declared.asked.Lent.{Lent}
use Rattle.bcs_registry_model.specs.View.{shape_of}

-- ---- registries and formats

pub one_registry : (text : List ℕ) (r q : Entries) → IsRegistry text r → IsRegistry text q → r ≡ q
one_registry text r q h k = same_registry text r q h.0 k.0

-- a registry that can be read is refused only if memory runs out
pub registry_stands : (text : List ℕ) (r : Entries) (status : Status) (a : Answer) → IsRegistry text r → RefusesRegistry text status a → a ≡ plain Memory
registry_stands text r status a h (has_fault e fault is) = absurd (one_fault.1 text r e h.0 h.1 fault)
registry_stands text r status a h (no_memory is) = is

format_stands : (r : Entries) (text : List ℕ) (s : Shape) (a : Answer) → IsFormat r text s → RefusesFormat r text a → a ≡ plain Memory
format_stands r text s a h (has_fault e fault is) = absurd (one_format_fault.1 r text s e h.0 h.1 fault)
format_stands r text s a h (no_memory is) = is

-- ---- arguments

same_bounds : (l m : Bounds) → l.depth ≡ m.depth → l.nodes ≡ m.nodes → l ≡ m
same_bounds l m depth nodes =
    let Same : ℕ → ℕ → Type 0 = λ d n. l ≡ record { depth = d; nodes = n } in
    subst (λ (n : ℕ). Same m.depth n) nodes (subst (λ (d : ℕ). Same d l.nodes) depth refl)

-- at most one registry is open
one_open : (opened : Option Entries) (r q : Entries) → opened ≡ Some r → opened ≡ Some q → r ≡ q
one_open opened r q h k = let same : Some r ≡ Some q = sym h ∙ k in cc

module _ (q : Request) where
  -- arguments that can be read are refused only if memory runs out
  pub ask_stands : (r : Entries) (l : Bounds) (s : Shape) (a : Answer) → AsksFor q r l s → RefusesAsk q a → a ≡ plain Memory
  ask_stands r l s a h (no_registry none is) = let no : Some r ≡ None = sym h.has ∙ none in cc
  ask_stands r l s a h (no_format x is why) =
      let same = one_open q.opened x r is h.has in
      format_stands r q.format s a h.is_format (subst (λ (y : Entries). RefusesFormat y q.format a) same why)
  ask_stands r l s a h (no_limits x t is form over same) = absurd (omega (arith, h.allowed, over))

  -- what holds of the parsed arguments holds of every meaning of the arguments
  pub whatever : (P : Entries → Bounds → Shape → Type 0) (r : Entries) (l : Bounds) (s : Shape) → AsksFor q r l s → P r l s → Whatever q P
  whatever P r l s h p x m t k =
      let registry : r ≡ x = one_open q.opened r x h.has k.has in
      let shape : s ≡ t = same_format q.format s t h.is_format.0 k.is_format.0 in
      let depth : l.depth ≡ m.depth = cc (h.depth, k.depth) in
      let nodes : l.nodes ≡ m.nodes = cc (h.nodes, k.nodes) in
      let limits = same_bounds l m depth nodes in
      subst (λ (y : Shape). P x m y) shape (subst (λ (y : Bounds). P x y s) limits (subst (λ (y : Entries). P y l s) registry p))

-- ---- parsed arguments

module _ (q : Request) (lent : Lent) (asked : Asked) (asks : AsksFor q lent.opened.value lent.limits (shape_of lent.known.format))
    (is : (asked.registry.now ≡ lent.opened.value) × (asked.format.now ≡ lent.known.format) × (asked.limits ≡ lent.limits)) where
  asks_asked : AsksFor q asked.registry.now asked.limits (shape_of asked.format.now)
  asks_asked = rw (is.0, is.1, is.2) asks

  -- the answer is what holds of them
  pub answers_asked : (a : Answer) (P : Entries → Bounds → Shape → Type 0) → On asked P → AnswersIfAsked q a P
  answers_asked a P h = given asked.registry.now asked.limits (shape_of asked.format.now) asks_asked h

  pub whatever_asked : (P : Entries → Bounds → Shape → Type 0) → On asked P → Whatever q P
  whatever_asked P h = whatever q P asked.registry.now asked.limits (shape_of asked.format.now) asks_asked h
