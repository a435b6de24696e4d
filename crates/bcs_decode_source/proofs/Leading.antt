-- Readers partway through a value: what a parser finds from the start, another finds from the current position.
use Rattle.bcs_decode_source.proofs.Prelude.{◌≡◌, ℕ, ◌≤◌, Bool, true, List, Option, Result, Ok, Err, refl, sym, ap, ◌∙◌, Entries, Reason, DecodeFault, Stop, Parser, chain, give, bytes_here, Progress, Reader, is_told, rest_of, FindsFault, Sees, Ready, Reads, chained_bare}
use Rattle.bcs_decode_source.proofs.SourceSteps.{Goes-then, FindsFault-whole}
use Rattle.bcs_decode_source.proofs.Readers.{IsSame-then, Reads-as, Onward, Onward-none, Onward-then, Onward-nodes, Onward-done, Onward-ends, Onward-stops}
use Rattle.bcs_decode_source.proofs.StreamedRows.{Found}

-- ---- known content

abbrev pub LeadsTo : Parser (Unit {0}) → Parser (Unit {0}) → Option (List ℕ) → Progress → Option (List ℕ) → Progress → Type 0
LeadsTo f g c p d q = is_told c ≡ true → (f p.place p.nodes (rest_of c) ≡ g q.place q.nodes (rest_of d)) × (is_told d ≡ true)

pub leads_none : (f g : Parser (Unit {0})) (c : Option (List ℕ)) (p : Progress) → ((b : List ℕ) → f p.place p.nodes b ≡ g p.place p.nodes b) → LeadsTo f g c p c p
leads_none f g c p same told = (same (rest_of c), told)

module _ (f g : Parser (Unit {0})) (c d : Option (List ℕ)) (p q : Progress) (h : LeadsTo f g c p d q) where
  -- a step
  pub leads_on : {X A : Type 0} (v : X → A) (x : X) (k : Parser (Unit {0})) (l : Parser A) (e : Option (List ℕ)) (s : Progress) → Sees v (Ok x) d q l s e
      → ((b t : List ℕ) → l q.place q.nodes b ≡ Ok (v x, s.place, s.nodes, t) → g q.place q.nodes b ≡ k s.place s.nodes t) → LeadsTo f k c p e s
  leads_on v x k l e s sees next told =
      let a = h told in
      let b = sees a.1 in
      (a.0 ∙ next (rest_of d) (rest_of e) b.0, b.1)

  -- a fault
  pub leads_ends : {A : Type 0} (x : DecodeFault) (l : Parser A) → FindsFault x d q l
      → ((b : List ℕ) (e : Reason × ℕ) → l q.place q.nodes b ≡ Err e → g q.place q.nodes b ≡ Err e) → FindsFault x c p f
  leads_ends x l refused ends =
      FindsFault-whole x c d p q f l (λ told. (h told).1) (λ e o told stop. (h told).0 ∙ ends (rest_of d) (e, o) stop) refused

  pub leads_done : ((b : List ℕ) → g q.place q.nodes b ≡ Ok (tt, q.place, q.nodes, b)) → Found tt f c d p q
  leads_done done told =
      let a = h told in
      (a.0 ∙ done (rest_of d), a.1)

-- ---- one step after another

pub chain_on : {A : Type 0} (f : Parser A) (k : A → Parser (Unit {0})) (p m : ℕ) (b : List ℕ) (x : A) (q l : ℕ) (c : List ℕ) → f p m b ≡ Ok (x, q, l, c) → chain f k p m b ≡ k x q l c
unfolding chain
chain_on f k p m b x q l c h = rw h refl

pub chain_ends : {A : Type 0} (f : Parser A) (k : A → Parser (Unit {0})) (p m : ℕ) (b : List ℕ) (e : Reason × ℕ) → f p m b ≡ Err e → chain f k p m b ≡ Err e
unfolding chain
chain_ends f k p m b e h = rw h refl

-- ---- readers

module _ {S : Type 0} (content : S → Option (List ℕ)) (is_failed : S → Bool) (allowance : S → ℕ) where
  -- the reader went from p to q and can continue; what `f` finds from p is what `g` finds from q
  pub record Leads (f g : Parser (Unit {0})) (p q : Reader S) : Type 0 where
    pub on : Onward content is_failed allowance p q
    pub sees : LeadsTo f g (content p.source.now) p.at.now (content q.source.now) q.at.now

module _ {S : Type 0} {content : S → Option (List ℕ)} {is_failed : S → Bool} {allowance : S → ℕ} where
  -- drops the result of what was skipped
  pub Reads-bare : {r : Result (Unit {0}) DecodeFault} {p q : Reader S} {f : Parser (Unit {0})}
      → Reads content is_failed allowance (λ x. x) r p f q → Reads content is_failed allowance (λ x. x) r p (chain f (λ _. give tt)) q
  Reads-bare {f = f} h = Reads-as (λ o m b. chained_bare f o m b) h

  -- replaces the number of bytes by an equal one
  pub Reads-count : {X : Type 0} {v : X → List ℕ} {r : Result X DecodeFault} {n k : ℕ} {p q : Reader S} → k ≡ n
      → Reads content is_failed allowance v r p (bytes_here k) q → Reads content is_failed allowance v r p (bytes_here n) q
  Reads-count same h = Reads-as (λ o m b. ap (λ i. bytes_here i o m b) (sym same)) h

  -- replaces the registry by an equal one
  pub Reads-in : {r : Result (Unit {0}) DecodeFault} {d e : Entries} {p q : Reader S} (k : Entries → Parser (Unit {0})) → d ≡ e
      → Reads content is_failed allowance (λ x. x) r p (k d) q → Reads content is_failed allowance (λ x. x) r p (k e) q
  Reads-in k same h = Reads-as (λ o m b. ap (λ i. k i o m b) (sym same)) h

  pub Leads-none : {f g : Parser (Unit {0})} {p : Reader S} → Ready is_failed allowance p → ((b : List ℕ) → f p.at.now.place p.at.now.nodes b ≡ g p.at.now.place p.at.now.nodes b)
      → Leads content is_failed allowance f g p p
  Leads-none {f = f} {g = g} {p = p} ready same = record { on = Onward-none ready; sees = leads_none f g (content p.source.now) p.at.now same }

  pub Leads-on : {X A : Type 0} {v : X → A} {x : X} {f g k : Parser (Unit {0})} {l : Parser A} {p q s : Reader S} → Leads content is_failed allowance f g p q
      → Reads content is_failed allowance v (Ok x) q l s
      → ((b t : List ℕ) → l q.at.now.place q.at.now.nodes b ≡ Ok (v x, s.at.now.place, s.at.now.nodes, t) → g q.at.now.place q.at.now.nodes b ≡ k s.at.now.place s.at.now.nodes t)
      → Leads content is_failed allowance f k p s
  Leads-on {v = v} {x = x} {f = f} {g = g} {k = k} {l = l} {p = p} {q = q} {s = s} h read next = record {
    on = Onward-then h.on read;
    sees = leads_on f g (content p.source.now) (content q.source.now) p.at.now q.at.now h.sees v x k l (content s.source.now) s.at.now read.sees next;
  }

  pub Leads-nodes : {f g k : Parser (Unit {0})} {p q : Reader S} (m : ℕ) → Leads content is_failed allowance f g p q
      → ((b : List ℕ) → g q.at.now.place q.at.now.nodes b ≡ k q.at.now.place m b) → Leads content is_failed allowance f k p (record q { at = record q.at { now = record q.at.now { nodes = m } } })
  Leads-nodes {q = q} m h next = record {
    on = Onward-nodes m h.on;
    sees = λ told. (let a = h.sees told in (a.0 ∙ next (rest_of (content q.source.now)), a.1));
  }

  pub Leads-ends : {X Y A : Type 0} {v : X → A} {w : Y → Unit {0}} {e : DecodeFault} {f g : Parser (Unit {0})} {l : Parser A} {p q s : Reader S} → Leads content is_failed allowance f g p q
      → Reads content is_failed allowance v (Err e) q l s
      → ((b : List ℕ) (o : Reason × ℕ) → l q.at.now.place q.at.now.nodes b ≡ Err o → g q.at.now.place q.at.now.nodes b ≡ Err o)
      → Reads content is_failed allowance w (Err e) p f s
  Leads-ends {e = e} {f = f} {g = g} {l = l} {p = p} {q = q} h read ends =
      Onward-ends h.on read (leads_ends f g (content p.source.now) (content q.source.now) p.at.now q.at.now h.sees e l read.sees ends)

  pub Leads-done : {f g : Parser (Unit {0})} {p q : Reader S} → Leads content is_failed allowance f g p q
      → ((b : List ℕ) → g q.at.now.place q.at.now.nodes b ≡ Ok (tt, q.at.now.place, q.at.now.nodes, b)) → Reads content is_failed allowance (λ x. x) (Ok tt) p f q
  Leads-done {f = f} {g = g} {p = p} {q = q} h done =
      Onward-done h.on (leads_done f g (content p.source.now) (content q.source.now) p.at.now q.at.now h.sees done)

  pub Leads-stops : {Y : Type 0} {w : Y → Unit {0}} {f g : Parser (Unit {0})} {p q : Reader S} {e : Reason} {o : ℕ} → Leads content is_failed allowance f g p q → o ≤ q.at.now.place
      → ((b : List ℕ) → g q.at.now.place q.at.now.nodes b ≡ Err (e, o)) → Reads content is_failed allowance w (Err (Stop (record { reason = e; place = o }))) p f q
  Leads-stops {q = q} h before stop = Onward-stops h.on before (λ told. let a = h.sees told in a.0 ∙ stop (rest_of (content q.source.now)))

  -- one step is left
  pub Leads-rest : {r : Result (Unit {0}) DecodeFault} {f g k : Parser (Unit {0})} {p q s : Reader S} → Leads content is_failed allowance f g p q
      → Reads content is_failed allowance (λ x. x) r q k s → ((b : List ℕ) → g q.at.now.place q.at.now.nodes b ≡ k q.at.now.place q.at.now.nodes b)
      → Reads content is_failed allowance (λ x. x) r p f s
  Leads-rest {r = Ok x} {s = s} h read same = record {
    sees = λ told. (let a = h.sees told in let b = read.sees a.1 in (a.0 ∙ same _ ∙ b.0, b.1));
    failed = read.failed;
    room = read.room;
    goes = Goes-then (Ok x) _ _ _ _ _ _ h.on.goes read.goes;
    same = IsSame-then h.on.same read.same;
  }
  Leads-rest {r = Err e} h read same = Leads-ends h read (λ b o stop. same b ∙ stop)
