-- Exact parsers of one value, in terms of what is built.
use Rattle.bcs_decode_spec.proofs.Prelude.{◌≡◌, ℕ, ◌+◌, ◌≤◌, Bool, true, false, if◌then◌else◌, List, [], ◌∷◌, ◌++◌, length, refl, sym, ap, ap₂, subst, ◌∙◌, arith, inl, inr, ◌⊎◌, append-nil, uleb, Tree, length_limit, Reason, BadOption, Parser, chain, give, length_here, option_here, building, Stopping, LengthStop, AfterLength, FlagStop, OptionStop, Reads, Exact}
use Rattle.bcs_value_model.specs.Tree as tree
use Rattle.bcs_decode_spec.proofs.Combine.{exact_give, exact_chain, exact_same, GiveReads, NoStop, ThenReads, ThenStop}
use Rattle.bcs_decode_spec.proofs.Numbers.{LengthReads, exact_length, FlagReads, exact_flag}
use Rattle.bcs_decode_spec.proofs.Items.{moved}

-- ---- one part

abbrev pub Made : {A B : Type 0} → (A → B) → Reads A → Reads B
Made {A} {B} make R t w s = (x : A) × R x w s × (t ≡ make x)

module _ {A : Type 0} {B : Type 0} (make : A → B) (R : Reads A) (S : Stopping) (parser : Parser A) (ex : Exact R S parser) where
  abbrev Parts : Reads B
  Parts = ThenReads R (λ x. GiveReads (make x))

  to : (t : B) (w : ℕ) (s : List ℕ) → Parts t w s → Made make R t w s
  to t w s (x, v, u, r, z, h, g, e, d) =
      let same : w ≡ v = omega (arith, e, g.1) in
      let bytes : s ≡ r = d ∙ ap (λ (y : List ℕ). r ++ y) g.2 ∙ append-nil r in
      (x, subst (λ (y : ℕ × List ℕ). R x y.0 y.1) (ap₂ (λ (y : ℕ) (z : List ℕ). (y, z)) (sym same) (sym bytes)) h, g.0)

  from : (t : B) (w : ℕ) (s : List ℕ) → Made make R t w s → Parts t w s
  from t w s (x, h, e) = (x, w, 0, s, [], h, (e, refl, refl), omega arith, sym (append-nil s))

  on : (p m : ℕ) (b : List ℕ) (e : Reason) (o : ℕ) → ThenStop R S (λ _ _. NoStop) p m b e o → S p m b e o
  on p m b e o (inl s) = s
  on p m b e o (inr (x, v, r, c, l, h, d, k, s)) = absurd s

  back : (p m : ℕ) (b : List ℕ) (e : Reason) (o : ℕ) → S p m b e o → ThenStop R S (λ _ _. NoStop) p m b e o
  back p m b e o s = inl s

  pub exact_made : Exact (Made make R) S (chain parser (λ x. give (make x)))
  exact_made = exact_same (exact_chain ex (λ x v r h. exact_give (make x))) to from on back

-- ---- something after its length

abbrev pub Counted : {A : Type 0} → (A → Tree) → (ℕ → Reads A) → Reads Tree
Counted {A} make R t w s = (n : ℕ) × (x : A) × (u : List ℕ) × (n ≤ length_limit) × R n x w u × (t ≡ make x) × (s ≡ uleb n ++ u)

module _ {A : Type 0} (make : A → Tree) (R : ℕ → Reads A) (S : ℕ → Stopping) (parser : ℕ → Parser A) (next : (n : ℕ) → Exact (R n) (S n) (parser n)) where
  abbrev Long : Reads Tree
  Long = ThenReads LengthReads (λ n. Made make (R n))

  abbrev LongStop : Stopping
  LongStop = ThenStop LengthReads LengthStop (λ _ n. S n)

  counted_to : (t : Tree) (w : ℕ) (s : List ℕ) → Long t w s → Counted make R t w s
  counted_to t w s (n, v, u, r, z, h, (x, g, i), e, d) =
      let same : w ≡ u = omega (arith, e, h.1) in
      (n, x, z, h.0, subst (λ (k : ℕ). R n x k z) (sym same) g, i, d ∙ ap (λ (y : List ℕ). y ++ z) h.2)

  counted_from : (t : Tree) (w : ℕ) (s : List ℕ) → Counted make R t w s → Long t w s
  counted_from t w s (n, x, u, le, h, e, d) = (n, 0, w, uleb n, u, (le, refl, refl), (x, h, e), omega arith, d)

  counted_on : (p m : ℕ) (b : List ℕ) (e : Reason) (o : ℕ) → LongStop p m b e o → AfterLength S p m b e o
  counted_on p m b e o (inl s) = inl s
  counted_on p m b e o (inr (n, v, r, c, l, h, d, k, s)) =
      inr (n, c, h.0, d ∙ ap (λ (x : List ℕ). x ++ c) h.2, moved (S n) (ap (λ (x : List ℕ). p + length x) h.2) (let z : l ≡ m = omega (arith, k, h.1) in z) refl s)

  counted_back : (p m : ℕ) (b : List ℕ) (e : Reason) (o : ℕ) → AfterLength S p m b e o → LongStop p m b e o
  counted_back p m b e o (inl s) = inl s
  counted_back p m b e o (inr (n, c, le, d, s)) = inr (n, 0, uleb n, c, m, (le, refl, refl), d, omega arith, s)

  pub exact_counted : Exact (Counted make R) (AfterLength S) (chain length_here (λ n. chain (parser n) (λ x. give (make x))))
  exact_counted = exact_same (exact_chain exact_length (λ n v r h. exact_made make (R n) (S n) (parser n) (next n))) counted_to counted_from counted_on counted_back

-- ---- an option

-- absent, or present with a value
abbrev pub OptionReads : Reads Tree → Reads Tree
OptionReads R t w s =
    ((t ≡ tree.absent) × (w ≡ 0) × (s ≡ 0 ∷ []))
    ⊎ ((x : Tree) × (u : List ℕ) × R x w u × (t ≡ tree.present x) × (s ≡ 1 ∷ u))

module _ (R : Reads Tree) (S : Stopping) (parser : Parser Tree) (ex : Exact R S parser) where
  PartReads : Bool → Reads Tree
  PartReads true = Made tree.present R
  PartReads false = GiveReads tree.absent

  PartStop : Bool → Stopping
  PartStop true = S
  PartStop false = NoStop

  exact_part : (some : Bool) → Exact (PartReads some) (PartStop some) (if some then chain parser (λ t. give (tree.present t)) else give tree.absent)
  unfolding PartReads PartStop
  exact_part true = exact_made tree.present R S parser ex
  exact_part false = exact_give tree.absent

  option_to : (t : Tree) (w : ℕ) (s : List ℕ) → ThenReads FlagReads PartReads t w s → OptionReads R t w s
  unfolding PartReads
  option_to t w s (true, v, u, r, z, h, (x, g, i), e, d) =
      let same : w ≡ u = omega (arith, e, h.0) in
      inr (x, z, subst (λ (k : ℕ). R x k z) (sym same) g, i, d ∙ ap (λ (y : List ℕ). y ++ z) h.1)
  option_to t w s (false, v, u, r, z, h, g, e, d) = inl (g.0, omega (arith, e, h.0, g.1), d ∙ ap₂ (λ (x y : List ℕ). x ++ y) h.1 g.2)

  option_from : (t : Tree) (w : ℕ) (s : List ℕ) → OptionReads R t w s → ThenReads FlagReads PartReads t w s
  unfolding PartReads
  option_from t w s (inl h) = (false, 0, 0, 0 ∷ [], [], (refl, refl), (h.0, refl, refl), omega (arith, h.1), h.2)
  option_from t w s (inr (x, u, h, e, d)) = (true, 0, w, 1 ∷ [], u, (refl, refl), (x, h, e), omega arith, d)

  option_on : (p m : ℕ) (b : List ℕ) (e : Reason) (o : ℕ) → ThenStop FlagReads (FlagStop BadOption) (λ _. PartStop) p m b e o → OptionStop S p m b e o
  unfolding PartStop
  option_on p m b e o (inl s) = inl s
  option_on p m b e o (inr (true, v, r, c, l, h, d, k, s)) =
      inr (c, d ∙ ap (λ (x : List ℕ). x ++ c) h.1, moved S (let z : p + length r ≡ p + 1 = omega (arith, ap length h.1) in z) (let z : l ≡ m = omega (arith, k, h.0) in z) refl s)
  option_on p m b e o (inr (false, v, r, c, l, h, d, k, s)) = absurd s

  option_back : (p m : ℕ) (b : List ℕ) (e : Reason) (o : ℕ) → OptionStop S p m b e o
      → ThenStop FlagReads (FlagStop BadOption) (λ _. PartStop) p m b e o
  unfolding PartStop
  option_back p m b e o (inl s) = inl s
  option_back p m b e o (inr (c, d, s)) = inr (true, 0, 1 ∷ [], c, m, (refl, refl), d, omega arith, s)

  pub exact_option : Exact (OptionReads R) (OptionStop S) (option_here building parser)
  unfolding option_here
  exact_option = exact_same (exact_chain (exact_flag BadOption) (λ some v r h. exact_part some)) option_to option_from option_on option_back
