-- Reading several blocks.
use Rattle.bcs_io.proofs.Prelude.{◌≡◌, ℕ, ◌+◌, ◌<◌, ◌≤◌, Bool, true, List, [], ◌∷◌, ◌++◌, length, take, Option, Result, Ok, Err, nat_lt, sym, ap, subst, ◌∙◌, inl, inr, append_assoc, arith, drop, length-take-le, append-nil, nil_from_length, Gave, TakesLine, IsTooLong, RunsOut, GivesBlock, ReadsBlock, HeldLine, IsFirstLineFeed, HasNoLineFeed, before_block, block_size, NextFault, Read, TooLong, OutOfMemory}
use Rattle.bcs_io.proofs.GivingLemmas.{Gave-then}
use Rattle.bcs_io.proofs.Ahead.{block_behind, rest_behind}

some_long : (xs : List ℕ) → nat_lt 0 (length xs) ≡ true → xs ≡ [] → ⊥
some_long [] is e = cc
some_long (x ∷ xs) is e = cc

module _ {S : Type 0} (content : S → Option (List ℕ)) (is_failed : S → Bool) (allowance : S → ℕ) where
  -- these bytes were read so far, and appended to the rest
  pub record Reads (old new : S) (before after : List ℕ) : Type 0 where
    pub given : List ℕ
    pub took : Gave content is_failed allowance old new given
    pub rest : after ≡ before ++ given
    pub ahead : HasNoLineFeed (before_block before) → HasNoLineFeed (before_block after)

  pub Reads-then : (a b c : S) (before between after : List ℕ) (count : ℕ) → Reads a b before between
      → GivesBlock content is_failed allowance b c between after count → HasNoLineFeed between → Reads a c before after
  Reads-then a b c before between after count p q plain = record {
    given = p.given ++ q.given;
    took = Gave-then content is_failed allowance a b c p.given q.given p.took q.took;
    rest = q.rest ∙ ap (λ (l : List ℕ). l ++ q.given) p.rest ∙ append_assoc before p.given q.given;
    ahead = λ _. subst (λ (l : List ℕ). HasNoLineFeed (before_block l)) (sym q.rest) (block_behind between q.given plain (omega (arith, q.many, q.within)));
  }

  -- a line feed was found
  pub Reads-line : (limit : ℕ) (a b : S) (before between after : HeldLine) (count : ℕ) → Reads a b before.rest between.rest
      → IsFirstLineFeed between.rest count → count ≤ limit → after ≡ record { line = take count between.rest; rest = drop (count + 1) between.rest }
      → TakesLine content is_failed allowance limit a b before after
  Reads-line limit a b before between after count p first within is =
      let line : after.line ≡ take count between.rest = ap (λ (h : HeldLine). h.line) is in
      record {
        given = p.given;
        took = p.took;
        plain = subst HasNoLineFeed (sym line) first.before;
        within = omega (arith, ap (λ (l : List ℕ). length l) line, length-take-le count between.rest (omega (arith, first.inside)), within);
        parts = inl (sym p.rest ∙ first.parts ∙ ap (λ (h : HeldLine). h.line ++ 10 ∷ h.rest) (sym is));
        ahead = λ before. subst (λ (l : List ℕ). length l < block_size) (sym (ap (λ (h : HeldLine). h.rest) is)) (rest_behind between.rest count first (p.ahead before));
      }

  pub Reads-too_long : (limit : ℕ) (a b : S) (before after : HeldLine) → Reads a b before.rest after.rest
      → limit < length after.rest → HasNoLineFeed (take (limit + 1) after.rest)
      → IsTooLong content is_failed allowance limit a b before after
  Reads-too_long limit a b before after p long plain = record {
    given = p.given;
    took = p.took;
    longer = subst (λ (l : List ℕ). limit < length l) p.rest long;
    plain = subst (λ (l : List ℕ). HasNoLineFeed (take (limit + 1) l)) p.rest plain;
    kept = p.rest;
    ahead = λ before. subst (λ (l : List ℕ). HasNoLineFeed (before_block l)) p.rest (p.ahead before);
  }

  -- an allocation fails after earlier blocks were read
  pub Reads-runs_out : (a b c : S) (before between : HeldLine) (after : List ℕ) (result : Result ℕ NextFault) → Reads a b before.rest between.rest
      → ReadsBlock content is_failed allowance b c between.rest after result → result ≡ Err OutOfMemory
      → HasNoLineFeed between.rest → RunsOut content is_failed allowance a c before
  Reads-runs_out a b c before between after (Ok n) p q is plain = cc
  Reads-runs_out a b c before between after (Err Read) p q is plain = cc
  Reads-runs_out a b c before between after (Err TooLong) p q is plain = absurd q
  Reads-runs_out a b c before between after (Err OutOfMemory) p q is plain = record {
    given = p.given ++ q.given;
    took = Gave-then content is_failed allowance a b c p.given q.given p.took q.took;
    works = q.works;
    ahead = subst (λ (l : List ℕ). HasNoLineFeed (before_block l)) (ap (λ (l : List ℕ). l ++ q.given) p.rest ∙ append_assoc before.rest p.given q.given)
        (block_behind between.rest q.given plain q.within);
  }

  -- at the end of the content, the bytes read are the last line
  pub Reads-last : (limit : ℕ) (a b c : S) (before between read after : HeldLine) (count : ℕ) → Reads a b before.rest between.rest
      → GivesBlock content is_failed allowance b c between.rest read.rest count → count ≡ 0
      → HasNoLineFeed between.rest → length between.rest ≤ limit → after ≡ record { line = read.rest; rest = [] }
      → nat_lt 0 (length read.rest) ≡ true → TakesLine content is_failed allowance limit a c before after
  Reads-last limit a b c before between read after count p q none plain within is some =
      let all = Reads-then a b c before.rest between.rest read.rest count p q plain in
      let same : read.rest ≡ between.rest = q.rest ∙ ap (λ (l : List ℕ). between.rest ++ l) (nil_from_length q.given (q.many ∙ none)) ∙ append-nil between.rest in
      let line : after.line ≡ read.rest = ap (λ (h : HeldLine). h.line) is in
      record {
        given = all.given;
        took = all.took;
        plain = subst HasNoLineFeed (sym (line ∙ same)) plain;
        within = subst (λ (l : List ℕ). length l ≤ limit) (sym (line ∙ same)) within;
        parts = inr (record {
          line = sym all.rest ∙ sym line;
          some = λ e. some_long read.rest some (sym line ∙ e);
          rest = ap (λ (h : HeldLine). h.rest) is;
          ends = q.ends none;
          works = q.works;
        });
        ahead = λ _. omega (arith, ap (λ (h : HeldLine). length h.rest) is);
      }
