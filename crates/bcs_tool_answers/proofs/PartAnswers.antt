-- The answers to a part, from what `part` returns.
use Rattle.bcs_tool_answers.proofs.Prelude.{◌≡◌, ℕ, List, Option, Some, None, refl, string_bytes, sym, subst, codes, Result, Ok, Err, Entries, Shape, Tree, Accepts, Step, Part, part_at, SpellsSteps, Answers, IsAsked, found, no_content, nowhere, GivesBytesAt, GivesPrinted, printed_bytes, printed_none, printed_part, printed_place, refusal_line, NoContent, GivesBytes, coding_of, Work}
use Rattle.bcs_registry_model.specs.Container.{of}
use Rattle.bcs_decode_parts.specs.declared.part.Part as handed
use Rattle.bcs_tool_command_line.specs.declared.command.Command.TheVariants as command

module _ (work : Work) (input : List ℕ) (registry : Entries) (s : Shape) (bytes : List ℕ) (n : ℕ) (t : Tree) (path : List Step)
    (asked : IsAsked work input command.Part registry s) (spelled : SpellsSteps work.options.notation (string_bytes work.path) path)
    (gives : GivesBytes (coding_of work) input bytes) (accepts : Accepts registry work.limits s bytes n t) where
  abbrev Gives : Result (Option handed.Part) NoContent → Type 0
  Gives result = GivesPrinted work.options.content registry (part_at registry path (of s) t) result

  pub finds : (result : Result (Option handed.Part) NoContent) (r : handed.Part) → result ≡ Ok (Some r) → Gives result
      → Answers work input 0 (printed_part work.options.range (coding_of work) r.place r.bytes.now)
  finds result r same h = at (part_at registry path (of s) t) refl (subst (λ (o : Result (Option handed.Part) NoContent). Gives o) same h)
    where
      bytes_at : (x : Part) → part_at registry path (of s) t ≡ Some x → (o : Option (List ℕ)) → printed_bytes work.options.content registry x ≡ o
          → GivesBytesAt (printed_place work.options.content x) o (Ok (Some r)) → Answers work input 0 (printed_part work.options.range (coding_of work) r.place r.bytes.now)
      bytes_at x is (Some b) has k =
          subst (λ (place : ℕ). Answers work input 0 (printed_part work.options.range (coding_of work) place r.bytes.now)) (sym k.0)
          (subst (λ (own : List ℕ). Answers work input 0 (printed_part work.options.range (coding_of work) (printed_place work.options.content x) own)) (sym k.1)
          (found registry s path bytes n t x b asked spelled gives accepts is has))
      bytes_at x is None has k = absurd k

      at : (p : Option Part) → part_at registry path (of s) t ≡ p → GivesPrinted work.options.content registry p (Ok (Some r))
          → Answers work input 0 (printed_part work.options.range (coding_of work) r.place r.bytes.now)
      at (Some x) is k = bytes_at x is (printed_bytes work.options.content registry x) refl k
      at None is k = absurd k

  pub leads_nowhere : (result : Result (Option handed.Part) NoContent) → result ≡ Ok None → Gives result → Answers work input 1 (printed_none (coding_of work))
  leads_nowhere result same h = at (part_at registry path (of s) t) refl (subst (λ (o : Result (Option handed.Part) NoContent). Gives o) same h)
    where
      bytes_at : (x : Part) → (o : Option (List ℕ)) → GivesBytesAt (printed_place work.options.content x) o (Ok None) → Answers work input 1 (printed_none (coding_of work))
      bytes_at x (Some b) k = absurd k
      bytes_at x None k = absurd k

      at : (p : Option Part) → part_at registry path (of s) t ≡ p → GivesPrinted work.options.content registry p (Ok None) → Answers work input 1 (printed_none (coding_of work))
      at None is k = nowhere registry s path bytes n t asked spelled gives accepts is
      at (Some x) is k = bytes_at x (printed_bytes work.options.content registry x) k

  pub has_no_content : (result : Result (Option handed.Part) NoContent) (e : NoContent) → result ≡ Err e → Gives result → Answers work input 2 (refusal_line (codes "NoContent"))
  has_no_content result e same h = at (part_at registry path (of s) t) refl (subst (λ (o : Result (Option handed.Part) NoContent). Gives o) same h)
    where
      bytes_at : (x : Part) → part_at registry path (of s) t ≡ Some x → (o : Option (List ℕ)) → printed_bytes work.options.content registry x ≡ o
          → GivesBytesAt (printed_place work.options.content x) o (Err e) → Answers work input 2 (refusal_line (codes "NoContent"))
      bytes_at x is None has k = no_content registry s path bytes n t x asked spelled gives accepts is has
      bytes_at x is (Some b) has k = absurd k

      at : (p : Option Part) → part_at registry path (of s) t ≡ p → GivesPrinted work.options.content registry p (Err e) → Answers work input 2 (refusal_line (codes "NoContent"))
      at (Some x) is k = bytes_at x is (printed_bytes work.options.content registry x) refl k
      at None is k = absurd k
