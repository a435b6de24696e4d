-- Readers, one step after another.
use Rattle.bcs_decode_source.proofs.Prelude.{◌≡◌, ℕ, ◌≤◌, Bool, true, List, Option, Result, Ok, Err, IfOk, IsErr, IsErrAnd, refl, ◌∙◌, Reason, DecodeFault, Stop, ReadFault, OutOfMemory, Parser, chain, give, node, Progress, Reader, node_here, is_told, rest_of, FindsFault, Sees, Along, Ready, IsSame, Reads}
use Rattle.bcs_decode_source.proofs.Chains.{node_is}
use Rattle.bcs_decode_source.proofs.SourceSteps.{Along-none, Along-then, Along-gave, Goes-then, Halts-then, FindsFault-whole, Sees-as, Along-nodes}
use Rattle.bcs_decode_source.proofs.StreamedRows.{Found}

pub again : {S : Type 0} (p : Reader S) → IsSame p p
again p = record { registry = refl; source = refl; at = refl }

pub IsSame-then : {S : Type 0} {p q r : Reader S} → IsSame p q → IsSame q r → IsSame p r
IsSame-then h k = record { registry = k.registry ∙ h.registry; source = k.source ∙ h.source; at = k.at ∙ h.at }

Sees-then : {X Y A B : Type 0} (v : X → A) (w : Y → B) (x : X) (r : Result Y DecodeFault) (c d e : Option (List ℕ)) (p q s : Progress) (f : Parser A) (h : A → Parser B)
    → Sees v (Ok x) c p f q d → Sees w r d q (h (v x)) s e → Sees w r c p (chain f h) s e
unfolding chain
Sees-then v w x (Ok y) c d e p q s f h first next = λ told. (let a = first told in let b = next a.1 in (rw (a.0, b.0) refl, b.1))
Sees-then v w x (Err (Stop y)) c d e p q s f h first next = λ told. (let a = first told in let b = next a.1 in rw (a.0, b) refl)
Sees-then v w x (Err ReadFault) c d e p q s f h first next = tt
Sees-then v w x (Err OutOfMemory) c d e p q s f h first next = tt

FindsFault-then : {A B : Type 0} (x : DecodeFault) (c : Option (List ℕ)) (p : Progress) (f : Parser A) (h : A → Parser B) → FindsFault x c p f → FindsFault x c p (chain f h)
unfolding chain
FindsFault-then (Stop s) c p f h k = λ told. (rw (k told) refl)
FindsFault-then ReadFault c p f h k = tt
FindsFault-then OutOfMemory c p f h k = tt

module _ {S : Type 0} (content : S → Option (List ℕ)) (is_failed : S → Bool) (allowance : S → ℕ) where
  -- the reader went from p to q, and can continue
  pub record Onward (p q : Reader S) : Type 0 where
    pub ready : Ready is_failed allowance q
    pub same : IsSame p q
    pub goes : Along (content p.source.now) p.at.now (content q.source.now) q.at.now

module _ {S : Type 0} {content : S → Option (List ℕ)} {is_failed : S → Bool} {allowance : S → ℕ} where
  -- replaces a parser by an equal one
  pub Reads-as : {X A : Type 0} {v : X → A} {r : Result X DecodeFault} {p q : Reader S} {f h : Parser A}
      → ((o m : ℕ) (b : List ℕ) → f o m b ≡ h o m b) → Reads content is_failed allowance v r p h q → Reads content is_failed allowance v r p f q
  Reads-as {v = v} {r = r} {p = p} {q = q} {f = f} {h = h} same k =
      record { sees = Sees-as v r (content p.source.now) p.at.now f h q.at.now (content q.source.now) same k.sees; failed = k.failed; room = k.room; goes = k.goes; same = k.same }

  -- a step, and then another
  pub Reads-then : {X Y A B : Type 0} {v : X → A} {w : Y → B} {x : X} {r : Result Y DecodeFault} {p q s : Reader S} {f : Parser A} (h : A → Parser B)
      → Reads content is_failed allowance v (Ok x) p f q → Reads content is_failed allowance w r q (h (v x)) s → Reads content is_failed allowance w r p (chain f h) s
  Reads-then {v = v} {w = w} {x = x} {r = r} {p = p} {q = q} {s = s} {f = f} h first next = record {
    sees = Sees-then v w x r (content p.source.now) (content q.source.now) (content s.source.now) p.at.now q.at.now s.at.now f h first.sees next.sees;
    failed = next.failed;
    room = next.room;
    goes = Goes-then r (content p.source.now) (content q.source.now) (content s.source.now) p.at.now q.at.now s.at.now first.goes next.goes;
    same = IsSame-then first.same next.same;
  }

  -- a fault ends the whole step
  pub Reads-ends : {X Y A B : Type 0} {v : X → A} {w : Y → B} {e : DecodeFault} {p q : Reader S} {f : Parser A} (h : A → Parser B)
      → Reads content is_failed allowance v (Err e) p f q → Reads content is_failed allowance w (Err e) p (chain f h) q
  Reads-ends {e = e} {p = p} {f = f} h k =
      record { sees = FindsFault-then e (content p.source.now) p.at.now f h k.sees; failed = k.failed; room = k.room; goes = k.goes; same = k.same }

  -- a node, and then the value that it counts
  pub Reads-node : {X A : Type 0} {v : X → A} {x : Unit {0}} {r : Result X DecodeFault} {p q s : Reader S} {f : Parser A}
      → Reads content is_failed allowance (λ u. u) (Ok x) p node_here q → Reads content is_failed allowance v r q f s → Reads content is_failed allowance v r p (node f) s
  unfolding chain
  Reads-node {f = f} first next = Reads-as (node_is f) (Reads-then (λ _. f) first next)

  pub Reads-node-ends : {X A : Type 0} {v : X → A} {e : DecodeFault} {p q : Reader S} (f : Parser A)
      → Reads content is_failed allowance (λ (u : Unit {0}). u) (Err e) p node_here q → Reads content is_failed allowance v (Err e) p (node f) q
  unfolding chain
  Reads-node-ends f k = Reads-as (node_is f) (Reads-ends (λ _. f) k)

  -- maps the result
  pub Reads-made : {X Y A B : Type 0} {v : X → A} {w : Y → B} {x : X} {y : Y} {p q : Reader S} {f : Parser A} (k : A → B)
      → w y ≡ k (v x) → Reads content is_failed allowance v (Ok x) p f q → Reads content is_failed allowance w (Ok y) p (chain f (λ a. give (k a))) q
  unfolding chain give
  Reads-made k made read =
      record { sees = λ told. (let a = read.sees told in (rw (a.0, made) refl, a.1)); failed = read.failed; room = read.room; goes = read.goes; same = read.same }

  -- what a `?` returns
  pub Reads-exit : {X A : Type 0} {v : X → A} {r : Result X DecodeFault} {e : DecodeFault} {p q : Reader S} {f : Parser A}
      → IsErrAnd r (λ y. y ≡ e) → Reads content is_failed allowance v (Err e) p f q → Reads content is_failed allowance v r p f q
  Reads-exit {r = Ok x} h k = absurd h
  Reads-exit {r = Err y} h k = rw h k

  -- a step that returns no value can have any type of value
  pub Reads-never : {X A B : Type 0} {v : X → A} {w : X → B} {r : Result X DecodeFault} {p q : Reader S} {f : Parser A} {h : Parser B}
      → IsErr r → ((o m : ℕ) (b : List ℕ) (e : Reason × ℕ) → f o m b ≡ Err e → h o m b ≡ Err e) → Reads content is_failed allowance v r p f q → Reads content is_failed allowance w r p h q
  Reads-never {r = Ok x} never same k = absurd (let none = never in cc)
  Reads-never {r = Err e} {p = p} {f = f} {h = h} never same k = record {
    sees = FindsFault-whole e (content p.source.now) (content p.source.now) p.at.now p.at.now h f (λ told. told) (λ e o told stop. same p.at.now.place p.at.now.nodes (rest_of (content p.source.now)) (e, o) stop) k.sees;
    failed = k.failed;
    room = k.room;
    goes = k.goes;
    same = k.same;
  }

  -- on success, the slot contains what is built from the result
  pub Reads-put : {X A B : Type 0} {t : A} {u : B} {r : Result X DecodeFault} {p q : Reader S} {f : Parser A} (k : A → B)
      → IfOk r (λ _. u ≡ k t) → Reads content is_failed allowance (λ _. t) r p f q → Reads content is_failed allowance (λ _. u) r p (chain f (λ a. give (k a))) q
  Reads-put {r = Ok x} k put read = Reads-made k put read
  Reads-put {r = Err e} k put read = Reads-ends (λ a. give (k a)) read

  -- ---- partway through

  pub Onward-none : {p : Reader S} → Ready is_failed allowance p → Onward content is_failed allowance p p
  Onward-none {p} ready = record { ready = ready; same = again p; goes = Along-none (content p.source.now) p.at.now }

  pub Onward-then : {X A : Type 0} {v : X → A} {x : X} {p q s : Reader S} {f : Parser A} → Onward content is_failed allowance p q → Reads content is_failed allowance v (Ok x) q f s → Onward content is_failed allowance p s
  Onward-then h k = record { ready = record { good = k.failed; room = k.room }; same = IsSame-then h.same k.same; goes = Along-then h.goes k.goes }

  pub Onward-nodes : {p q : Reader S} (m : ℕ) → Onward content is_failed allowance p q → Onward content is_failed allowance p (record q { at = record q.at { now = record q.at.now { nodes = m } } })
  Onward-nodes {q = q} m h = record {
    ready = record { good = h.ready.good; room = h.ready.room };
    same = record { registry = h.same.registry; source = h.same.source; at = h.same.at };
    goes = Along-then h.goes (Along-nodes (content q.source.now) q.at.now m);
  }

  -- success after some steps
  pub Onward-done : {X A : Type 0} {v : X → A} {x : X} {p q : Reader S} {f : Parser A} → Onward content is_failed allowance p q
      → Found (v x) f (content p.source.now) (content q.source.now) p.at.now q.at.now → Reads content is_failed allowance v (Ok x) p f q
  Onward-done h found = record { sees = found; failed = h.ready.good; room = h.ready.room; goes = h.goes; same = h.same }

  -- a fault after some steps
  pub Onward-ends : {X Y A B : Type 0} {v : X → A} {w : Y → B} {e : DecodeFault} {p q s : Reader S} {f : Parser A} {h : Parser B} → Onward content is_failed allowance p q
      → Reads content is_failed allowance v (Err e) q f s → FindsFault e (content p.source.now) p.at.now h → Reads content is_failed allowance w (Err e) p h s
  Onward-ends {e = e} {p = p} {q = q} {s = s} h k refused = record {
    sees = refused;
    failed = k.failed;
    room = k.room;
    goes = Halts-then e (content p.source.now) (content q.source.now) (content s.source.now) p.at.now q.at.now s.at.now h.goes k.goes;
    same = IsSame-then h.same k.same;
  }

  -- a stop after some steps
  pub Onward-stops : {X A : Type 0} {v : X → A} {p q : Reader S} {f : Parser A} {e : Reason} {o : ℕ} → Onward content is_failed allowance p q → o ≤ q.at.now.place
      → (is_told (content p.source.now) ≡ true → f p.at.now.place p.at.now.nodes (rest_of (content p.source.now)) ≡ Err (e, o))
      → Reads content is_failed allowance v (Err (Stop (record { reason = e; place = o }))) p f q
  Onward-stops h before refused = record { sees = refused; failed = h.ready.good; room = h.ready.room; goes = (h.goes.gone, before); same = h.same }

  -- out of memory after some steps
  pub Onward-lacks : {X A : Type 0} {v : X → A} {p q : Reader S} {f : Parser A} → Onward content is_failed allowance p q → Reads content is_failed allowance v (Err OutOfMemory) p f q
  Onward-lacks h = record { sees = tt; failed = h.ready.good; room = h.ready.room; goes = Along-gave h.goes; same = h.same }
