-- A reading that returns exactly what one relation allows, and fails exactly as another says; and readings in sequence.
use Rattle.bcs_json_spec.proofs.Prelude.{true≢false, ◌≡◌, ◌∙◌, ◌⊎◌, inl, inr, ℕ, ◌≤◌, max, Ok, Err, Bool, true, false, Decides, if◌then◌else◌, refl, ap, sym, subst, arith, le-max_left, le-max_right, Read, follow, JsonFault, NotJson, TooNested, BadShape, TooManyNodes, TooLong, RepeatedKey, OutOfMemory}

-- a fault of the JSON itself, and not of its syntax, its nesting, or the value
abbrev pub is_walk_fault : JsonFault → Bool
is_walk_fault NotJson = false
is_walk_fault TooNested = false
is_walk_fault TooManyNodes = false
is_walk_fault TooLong = false
is_walk_fault RepeatedKey = false
is_walk_fault OutOfMemory = false
is_walk_fault _ = true

pub record Exact {A : Type 0} (S : A → Type 0) (R : JsonFault → Type 0) (x : Read A) : Type 0 where
  pub ok : (t : A) → x ≡ Ok t → S t
  pub again : (t : A) → S t → x ≡ Ok t
  pub err : (e : JsonFault) → x ≡ Err e → R e
  pub errs : (e : JsonFault) → R e → x ≡ Err e
  pub walks : (e : JsonFault) → R e → is_walk_fault e ≡ true

pub same_ok : {A : Type 0} (a b : A) (x : Read A) → x ≡ Ok a → x ≡ Ok b → a ≡ b
same_ok a b x g h = cc

pub same_err : {A : Type 0} (a b : JsonFault) (x : Read A) → x ≡ Err a → x ≡ Err b → a ≡ b
same_err a b x g h = cc

pub not_both : {A : Type 0} (t : A) (e : JsonFault) (x : Read A) → x ≡ Ok t → x ≡ Err e → ⊥
not_both t e x g h = cc

follow-ok : {A B : Type 0} (x : Read A) (k : A → Read B) (b : B) → follow x k ≡ Ok b → (a : A) × (x ≡ Ok a) × (k a ≡ Ok b)
follow-ok (Ok a) k b h = (a, refl, h)
follow-ok (Err e) k b h = cc

follow-err : {A B : Type 0} (x : Read A) (k : A → Read B) (e : JsonFault) → follow x k ≡ Err e → (x ≡ Err e) ⊎ ((a : A) × (x ≡ Ok a) × (k a ≡ Err e))
follow-err (Ok a) k e h = inr (a, refl, h)
follow-err (Err f) k e h = inl (cc)

pub go_on : {A B : Type 0} (x : Read A) (k : A → Read B) (a : A) → x ≡ Ok a → follow x k ≡ k a
go_on x k a h = ap (λ y. follow y k) h

stop : {A B : Type 0} (x : Read A) (k : A → Read B) (e : JsonFault) → x ≡ Err e → follow x k ≡ Err e
stop x k e h = ap (λ y. follow y k) h

pub left : (a b : ℕ) {n : ℕ} → max a b ≤ n → a ≤ n
left a b h = omega (arith, le-max_left a b, h)

pub right : (a b : ℕ) {n : ℕ} → max a b ≤ n → b ≤ n
right a b h = omega (arith, le-max_right a b, h)

-- ---- decidable conditions

pub when_true : {A P : Type 0} (b : Bool) (x y : A) → Decides b P → P → (if b then x else y) ≡ x
when_true b x y d p = ap (λ c. if c then x else y) (d.1 p)

pub when_false : {A P : Type 0} (b : Bool) (x y : A) → Decides b P → (P → ⊥) → (if b then x else y) ≡ y
when_false true x y d p = absurd (p (d.0 refl))
when_false false x y d p = refl

-- ---- exact readings

-- success with one value
pub done : {A : Type 0} {S : A → Type 0} (a : A) → S a → ((t : A) → S t → a ≡ t) → Exact S (λ e. ⊥) (Ok a)
done {S = S} a s only = record { ok = (λ t h. subst S (same_ok a t _ refl h) s); again = (λ t h. ap Ok (only t h)); err = (λ e h. cc); errs = (λ e h. absurd h); walks = (λ e h. absurd h) }

-- failure
pub refused : {A : Type 0} {S : A → Type 0} (e : JsonFault) → is_walk_fault e ≡ true → ((t : A) → S t → ⊥) → Exact S (λ g. g ≡ e) (Err e)
refused e walk none = record { ok = (λ t h. cc); again = (λ t s. absurd (none t s)); err = (λ g h. cc); errs = (λ g h. ap Err (sym h)); walks = (λ g h. ap is_walk_fault h ∙ walk) }

-- replaces the relation by an equivalent one
pub allows : {A : Type 0} {S T : A → Type 0} {R : JsonFault → Type 0} {x : Read A} → Exact S R x → ((t : A) → S t → T t) → ((t : A) → T t → S t) → Exact T R x
allows E there back = record { ok = (λ t h. there t (E.ok t h)); again = (λ t s. E.again t (back t s)); err = E.err; errs = E.errs; walks = E.walks }

pub refuses : {A : Type 0} {S : A → Type 0} {R Q : JsonFault → Type 0} {x : Read A} → Exact S R x → ((e : JsonFault) → R e → Q e) → ((e : JsonFault) → Q e → R e) → Exact S Q x
refuses E there back = record { ok = E.ok; again = E.again; err = (λ e h. there e (E.err e h)); errs = (λ e q. E.errs e (back e q)); walks = (λ e q. E.walks e (back e q)) }

-- maps the result
pub made : {A B : Type 0} {S : A → Type 0} {T : B → Type 0} {R : JsonFault → Type 0} {x : Read A} (f : A → B) → Exact S R x
    → ((a : A) → S a → T (f a)) → ((b : B) → T b → (a : A) × S a × (f a ≡ b)) → Exact T R (follow x (λ a. Ok (f a)))
made {T = T} {x = x} f E there back =
    record {
      ok = λ b h. let a = follow-ok x _ b h in subst T (same_ok (f a.0) b _ refl a.2) (there a.0 (E.ok a.0 a.1));
      again = λ b t. let a = back b t in go_on x _ a.0 (E.again a.0 a.1) ∙ ap Ok a.2;
      err = λ e h. elim (follow-err x _ e h) [ inl r ↦ E.err e r | inr r ↦ cc ];
      errs = λ e r. stop x _ e (E.errs e r);
      walks = E.walks;
    }

-- a reading that depends on an earlier one
pub onward : {A B : Type 0} {S : A → Type 0} {T : A → B → Type 0} {U : B → Type 0} {R : JsonFault → Type 0} {Q : A → JsonFault → Type 0} {x : Read A} {k : A → Read B}
    → Exact S R x → ((a : A) → Exact (T a) (Q a) (k a))
    → ((a : A) (b : B) → S a → T a b → U b) → ((b : B) → U b → (a : A) × S a × T a b) → Exact U (λ e. R e ⊎ ((a : A) × S a × Q a e)) (follow x k)
onward {x = x} {k = k} D E there back =
    record {
      ok = λ b h. let a = follow-ok x k b h in there a.0 b (D.ok a.0 a.1) ((E a.0).ok b a.2);
      again = λ b u. let a = back b u in go_on x k a.0 (D.again a.0 a.1) ∙ (E a.0).again b a.2;
      err = λ e h. elim (follow-err x k e h) [ inl r ↦ inl (D.err e r) | inr a ↦ inr (a.0, D.ok a.0 a.1, (E a.0).err e a.2) ];
      errs = λ e h. elim h [ inl r ↦ stop x k e (D.errs e r) | inr a ↦ go_on x k a.0 (D.again a.0 a.1) ∙ (E a.0).errs e a.2 ];
      walks = λ e h. elim h [ inl r ↦ D.walks e r | inr a ↦ (E a.0).walks e a.2 ];
    }

-- two readings, one after the other
pub both : {A B C : Type 0} {S : A → Type 0} {T : B → Type 0} {U : C → Type 0} {R Q : JsonFault → Type 0} {x : Read A} {y : Read B} (f : A → B → C) → Exact S R x → Exact T Q y
    → ((a : A) (b : B) → S a → T b → U (f a b)) → ((c : C) → U c → (a : A) × (b : B) × S a × T b × (f a b ≡ c))
    → Exact U (λ e. R e ⊎ ((a : A) × S a × Q e)) (follow x (λ a. follow y (λ b. Ok (f a b))))
both {B = B} {C = C} {T = T} {U = U} {Q = Q} f D E there back =
    onward {T = λ a c. (b : B) × T b × (f a b ≡ c)} {Q = λ a. Q} D
    (λ a. made {T = λ (c : C). (b : B) × T b × (f a b ≡ c)} (f a) E (λ b t. (b, t, refl)) (λ c t. t))
    (λ a c s t. subst U t.2 (there a t.0 s t.1))
    (λ c u. let o = back c u in (o.0, o.2, (o.1, o.3, o.4)))

-- a reading after a condition
pub tested : {A P : Type 0} {S : A → Type 0} {R : JsonFault → Type 0} {x : Read A} (b : Bool) → Decides b P → (P → Exact S R x) → ((t : A) → S t → P)
    → Exact S (λ e. ((P → ⊥) × (e ≡ BadShape)) ⊎ (P × R e)) (if b then x else Err BadShape)
tested true d E need = refuses (E (d.0 refl)) (λ e r. inr (d.0 refl, r)) (λ e r. elim r [ inl n ↦ absurd (n.0 (d.0 refl)) | inr y ↦ y.1 ])
tested {P = P} false d E need =
    let fails : P → ⊥ = λ p. absurd (search (true≢false, d.1 p)) in
    refuses (refused BadShape refl (λ t s. fails (need t s))) (λ e r. inl (fails, r)) (λ e r. elim r [ inl n ↦ n.1 | inr y ↦ absurd (fails y.0) ])
