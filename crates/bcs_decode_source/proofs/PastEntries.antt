-- Skipping a map entry, if the content is known.
use Rattle.bcs_decode_source.proofs.Prelude.{ℕ, ◌+◌, ◌-◌, ◌<◌, List, Option, Some, None, ◌∙◌, DecodeFault, Parser, key_here, pairs_here, skipping, Progress, rest_of, FindsFault, pairs_stop_value, pairs_on}
use Rattle.bcs_decode_source.proofs.SourceSteps.{FindsFault-whole}
use Rattle.bcs_decode_source.proofs.StreamedRows.{Found}
use Rattle.bcs_decode_source.proofs.Leading.{LeadsTo}

module _ (f g : Parser (Unit {0})) (n i : ℕ) (last : Option (List ℕ)) (key : List ℕ) (c d e : Option (List ℕ)) (p q r : Progress) where
  -- the key was read, and its value fails
  pub value_ends : (x : DecodeFault) → i < n → LeadsTo (pairs_here skipping f g None n) (pairs_here skipping f g last (n - i)) c p d q
      → Found (tt, key) (key_here f last) d e q r → FindsFault x e r g → FindsFault x c p (pairs_here skipping f g None n)
  value_ends x lt h j =
      FindsFault-whole x c e p r (pairs_here skipping f g None n) g (λ told. (j (h told).1).1)
      (λ o w told stop. (h told).0 ∙ pairs_stop_value f g last n i q.place q.nodes (rest_of d) key r.place r.nodes (rest_of e) (o, w) lt (j (h told).1).0 stop)

  pub entry_on : (s : Option (List ℕ)) (t : Progress) → i < n → LeadsTo (pairs_here skipping f g None n) (pairs_here skipping f g last (n - i)) c p d q
      → Found (tt, key) (key_here f last) d e q r → Found tt g e s r t → LeadsTo (pairs_here skipping f g None n) (pairs_here skipping f g (Some key) (n - (i + 1))) c p s t
  entry_on s t lt h j l told =
      let a = h told in
      let b = j a.1 in
      let w = l b.1 in
      (a.0 ∙ pairs_on f g last n i q.place q.nodes (rest_of d) key r.place r.nodes (rest_of e) t.place t.nodes (rest_of s) lt b.0 w.0, w.1)
