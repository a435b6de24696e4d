-- What is printed of a part, from the part or from its content.
use Rattle.bcs_tool_answers.proofs.Prelude.{ℕ, List, Bool, true, false, Option, Some, None, Result, Ok, Err, Entries, GivesBytesAt, GivesPart, GivesPrinted, NoContent, Part, printed_bytes, printed_place}
use Rattle.bcs_decode_parts.specs.declared.part.Part as handed
use Rattle.bcs_part_names.specs.Contents.{GivesContent, GivesContentOf, content_bytes}

module _ (registry : Entries) (whole : List ℕ) where
  of_content : (x : Part) (o : Option (List ℕ)) (r : Result (Option handed.Part) NoContent) → GivesContentOf registry whole x o r
      → GivesBytesAt (printed_place true x) o r
  of_content x (Some content) (Ok (Some r)) h = (h.place, h.bytes)
  of_content x (Some content) (Ok None) h = absurd h
  of_content x (Some content) (Err e) h = absurd h
  of_content x None (Ok r) h = absurd h
  of_content x None (Err e) h = tt

  pub content_printed : (p : Option Part) (r : Result (Option handed.Part) NoContent) → GivesContent registry whole p r → GivesPrinted true registry p r
  content_printed None (Ok None) h = tt
  content_printed None (Ok (Some r)) h = absurd h
  content_printed None (Err e) h = absurd h
  content_printed (Some x) r h = of_content x (content_bytes x.content x.value) r h

  pub part_printed : (p : Option Part) (o : Option handed.Part) → GivesPart registry whole p o → GivesPrinted false registry p (Ok o)
  part_printed None None h = tt
  part_printed None (Some r) h = absurd h
  part_printed (Some x) None h = absurd h
  part_printed (Some x) (Some r) h = (h.0, h.1)
