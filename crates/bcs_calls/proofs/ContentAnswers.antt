-- The answers for a content, from what `content_of_scanned` returns.
use Rattle.bcs_calls.proofs.Prelude.{◌≡◌, ℕ, List, Option, Some, None, Ok, Err, length, drop, take, ap, sym, ◌∙◌, Entries, Part, placed, plain, refusal, Answer, No, Refused}
use Rattle.bcs_decode_parts.specs.declared.part.Part as declared
use Rattle.bcs_part_names.specs.Contents.{content_bytes, GivesContent, GivesContentOf}
use Rattle.bcs_part_names.specs.declared.contents.NoContent as no_content
use Rattle.bcs_calls.specs.Contents.{content_place, FindsContent, FindsContentOf}
use Rattle.bcs_calls.specs.declared.fault.Fault.TheVariants.{NoContent}

module _ (registry : Entries) (b : List ℕ) (a : Answer) where
  -- a content that is returned is reported
  pub finds_content : (p : Option Part) (r : declared.Part) → GivesContent registry b p (Ok (Some r)) → a ≡ placed r.place (length r.bytes.now) → FindsContent b p a
  finds_content None r h is = absurd h
  finds_content (Some x) r h is = at (content_bytes x.content x.value) h
    where
      at : (c : Option (List ℕ)) → GivesContentOf registry b x c (Ok (Some r)) → FindsContentOf b x c a
      at None k = absurd k
      at (Some content) k = (
        is ∙ ap (λ (n : ℕ). placed n (length r.bytes.now)) k.place ∙ ap (λ (l : List ℕ). placed (content_place x) (length l)) k.bytes,
        sym k.bytes ∙ k.is ∙ ap (λ (n : ℕ). take (length content) (drop n b)) k.place,
      )

  -- and so is the absence of a part
  pub finds_nowhere : (p : Option Part) → GivesContent registry b p (Ok None) → a ≡ plain No → FindsContent b p a
  finds_nowhere None h is = is
  finds_nowhere (Some x) h is = absurd (at (content_bytes x.content x.value) h)
    where
      at : (c : Option (List ℕ)) → GivesContentOf registry b x c (Ok None) → ⊥
      at None k = k
      at (Some content) k = k

  -- and that of a content
  pub finds_none : (p : Option Part) (e : no_content.NoContent) → GivesContent registry b p (Err e) → a ≡ refusal Refused NoContent → FindsContent b p a
  finds_none None e h is = absurd h
  finds_none (Some x) e h is = at (content_bytes x.content x.value) h
    where
      at : (c : Option (List ℕ)) → GivesContentOf registry b x c (Err e) → FindsContentOf b x c a
      at None k = is
      at (Some content) k = absurd k
