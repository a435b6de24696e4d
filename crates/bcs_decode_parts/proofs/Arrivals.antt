-- What a step reaches.
use Rattle.bcs_decode_parts.proofs.Prelude.{◌≡◌, ℕ, ◌≤◌, List, ◌++◌, length, Option, Some, None, sym, ap, subst, ◌∙◌, append_assoc, arith, length-append, Entries, Content, Tree, nodes, plain, IsDecodable, Step, Part, part_after, Ahead, Reached, content_of, Fronts, Reaches, LeadsTo, StepsTo}

-- the same limits
pub record AsLimited (a b : Ahead) : Type 0 where
  pub depth_is : b.depth ≡ a.depth
  pub nodes_are : b.nodes ≡ a.nodes

module _ (registry : Entries) where
  pub fronts : (a b : Ahead) (f : Content) (t : Tree) (after : List ℕ) → AsLimited a b → IsDecodable registry a.depth f t → nodes t ≤ a.nodes → b.bytes.now ≡ plain registry t f ++ after
      → Fronts registry b f t after
  fronts a b f t after alike good few is = record {
    good = subst (λ (n : ℕ). IsDecodable registry n f t) (sym alike.depth_is) good;
    few = (let n = alike.nodes_are in omega (arith, few, n));
    is = is;
  }

  -- a part that is ahead is reached, once the bytes before it are skipped
  pub reached : (a : Ahead) (x : Part) (r : Reached) (bytes front after : List ℕ) → content_of r.here ≡ x.content → AsLimited a r.ahead → IsDecodable registry a.depth x.content x.value
      → nodes x.value ≤ a.nodes → length front ≡ x.place → bytes ≡ front ++ (plain registry x.value x.content ++ after) → r.ahead.bytes.now ≡ plain registry x.value x.content ++ after
      → Reaches registry bytes x r
  reached a x r bytes front after same alike good few long is rest = record {
    before = front;
    after = after;
    content = same;
    place = long;
    is = is ∙ ap (λ (b : List ℕ). front ++ b) (sym rest);
    stands = fronts a r.ahead x.content x.value after alike good few rest;
  }

  pub nowhere : (bytes : List ℕ) (r : Option Part) → r ≡ None → LeadsTo registry bytes r None
  nowhere bytes r e = subst (λ (q : Option Part). LeadsTo registry bytes q None) (sym e) tt

  pub somewhere : (bytes : List ℕ) (r : Option Part) (x : Part) (q : Reached) → r ≡ Some x → Reaches registry bytes x q → LeadsTo registry bytes r (Some q)
  somewhere bytes r x q e h = subst (λ (p : Option Part). LeadsTo registry bytes p (Some q)) (sym e) h

  -- the same, if more bytes come before
  pub leads_after : (bytes front rest : List ℕ) (p : Option Part) (r : Option Reached) → bytes ≡ front ++ rest → LeadsTo registry rest p r → LeadsTo registry bytes (part_after (length front) p) r
  leads_after bytes front rest None None e h = tt
  leads_after bytes front rest (Some x) (Some q) e h = record {
    before = front ++ h.before;
    after = h.after;
    content = h.content;
    place = (let z = h.place in omega (arith, z, length-append front h.before));
    is = e ∙ ap (λ (b : List ℕ). front ++ b) h.is ∙ sym (append_assoc front h.before q.ahead.bytes.now);
    stands = h.stands;
  }
  leads_after bytes front rest None (Some q) e h = absurd h
  leads_after bytes front rest (Some x) None e h = absurd h

  -- replaces the content by an equal one
  pub moved : (ahead : Ahead) (s : Step) (f g : Content) (r : Option Reached) → f ≡ g → StepsTo registry ahead s g r → StepsTo registry ahead s f r
  moved ahead s f g r e h = subst (λ (x : Content). StepsTo registry ahead s x r) (sym e) h
