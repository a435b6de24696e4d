-- The loop over members that belong to none of the known fields.
use Rattle.bcs_json_passing.proofs.Prelude.{None, Bool, true, subst, none-some, bytes_eq-Decides, get_member-put, ◌≡◌, ◌∙◌, ◌-◌, ◌≤◌, ℕ, List, [], ◌∷◌, length, Some, None, false, refl, sym, arith, or_parts, list_any, bytes_eq, Token, read_key, members, value, read_key-shorter, Data, Members, put, get_member, get_member-put_other, converted, of_members, member_read, members_over, IsPassed, AreKept, OthersPassed}
use Rattle.bcs_json_passing.proofs.Turns.{passed_shorter}

pub differ : (k l : List ℕ) → bytes_eq k l ≡ false → l ≡ k → ⊥
differ k l h e = let same : bytes_eq k l ≡ true = (bytes_eq-Decides k l).1 (sym e) in absurd cc

-- a member stays when another is put
stays_at : (b : Bool) (k l : List ℕ) (d : Data) (ms : Members) → bytes_eq l k ≡ b → get_member k (put l d ms) ≡ None → get_member k ms ≡ None
stays_at true k l d ms is none =
    let same : l ≡ k = (bytes_eq-Decides l k).0 is in
    absurd (none-some d (sym (subst (λ x. get_member x (put l d ms) ≡ None) (sym same) none) ∙ get_member-put l d ms))
stays_at false k l d ms is none = sym (get_member-put_other k l d ms (differ l k is)) ∙ none

put_stays : (k l : List ℕ) (d : Data) (ms : Members) → get_member k (put l d ms) ≡ None → get_member k ms ≡ None
put_stays k l d ms none = stays_at (bytes_eq l k) k l d ms refl none

kept_none : (known : List (List ℕ)) → AreKept known (λ ms. ms)
kept_none [] = tt
kept_none (k ∷ ks) = (λ found. refl, kept_none ks)

kept_more : (known : List (List ℕ)) (front : Members → Members) (name : List ℕ) (d : Data) → list_any (bytes_eq name) known ≡ false → AreKept known front → AreKept known (λ ms. put name d (front ms))
kept_more [] front name d new h = tt
kept_more (k ∷ ks) front name d new h =
    let both = or_parts (bytes_eq name k) (list_any (bytes_eq name) ks) new in
    (λ found. get_member-put_other k name d (front found) (differ name k both.0) ∙ h.0 found, kept_more ks front name d both.1 h.1)

pub record OthersBefore (known : List (List ℕ)) (depth : ℕ) (all rest : List Token) : Type 0 where
  pub front : Members → Members
  pub same : (found : Members) (turns : ℕ) → length all ≤ turns
      → (m : ℕ) × (length rest ≤ m) × (converted (λ ms. of_members ms found) (members (value depth) turns all) ≡ converted (λ ms. of_members ms (front found)) (members (value depth) m rest))
  pub kept : AreKept known front
  pub stays : (found : Members) (k : List ℕ) → get_member k (front found) ≡ None → get_member k found ≡ None

module _ (known : List (List ℕ)) (depth : ℕ) (all : List Token) where
  pub others_none : OthersBefore known depth all all
  others_none = record { front = λ ms. ms; same = λ found turns enough. (turns, enough, refl); kept = kept_none known; stays = λ found k none. none }

  pub others_next : (rest s more : List Token) (k : List ℕ) → list_any (bytes_eq k) known ≡ false → OthersBefore known depth all rest → read_key rest ≡ Some (Some k, s) → IsPassed depth s more → OthersBefore known depth all more
  others_next rest s more k new b key p =
      let first = read_key-shorter rest (Some k) s key in
      let second = passed_shorter depth s more p in
      record {
        front = λ ms. put k p.json (b.front ms);
        same = λ found turns enough.
            let q = b.same found turns enough in
            let room = q.1 in
            (q.0 - 1, omega (arith, first, second, room), q.2 ∙ member_read (value depth) (b.front found) q.0 k rest s more p.json (omega (arith, first, room)) key p.is);
        kept = kept_more known b.front k p.json new b.kept;
        stays = λ found l none. b.stays found l (put_stays l k p.json (b.front found) none);
      }

  pub others_all : (rest more : List Token) → OthersBefore known depth all rest → read_key rest ≡ Some (None, more) → OthersPassed known depth all more
  others_all rest more b over = record {
    json = b.front;
    is = λ found turns enough. let q = b.same found turns enough in q.2 ∙ members_over (value depth) (b.front found) q.0 rest more q.1 over;
    kept = b.kept;
    stays = b.stays;
  }
