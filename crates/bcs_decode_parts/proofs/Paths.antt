-- Following several steps.
use Rattle.bcs_decode_parts.proofs.Prelude.{◌≡◌, ℕ, ◌+◌, ◌<◌, List, [], ◌∷◌, ◌++◌, length, get_or, map, take, drop, Option, Some, None, sym, ap, subst, ◌∙◌, append_assoc, arith, length-append, drop_more, take_at, drop_at, drop-drop, Entries, Content, Tree, plain, part_after, part_onward, step_at, part_at, Ahead, Reached, content_of, Fronts, LeadsTo, StepsTo, step_of, GivesPart}
use Rattle.bcs_decode_parts.specs.Parts as parts
use Rattle.bcs_decode_parts.specs.declared.part.Part.{Part}
use Rattle.bcs_decode_parts.specs.declared.step.Step.{Step}
use Rattle.bcs_decode_parts.proofs.RowSteps.{RestIs, NoneStands}

module _ (registry : Entries) where
  -- the result is the part of `bytes`, which begin at offset `gone` of the whole input
  abbrev pub GivesFrom : ℕ → List ℕ → Option parts.Part → Option Part → Type 0
  GivesFrom gone bytes None None = Unit {0}
  GivesFrom gone bytes (Some x) (Some r) =
      (r.place ≡ gone + x.place) × (r.bytes.now ≡ plain registry x.value x.content) × (r.bytes.now ≡ take (length r.bytes.now) (drop x.place bytes))
  GivesFrom gone bytes None (Some r) = ⊥
  GivesFrom gone bytes (Some x) None = ⊥

  -- the case that `bytes` are the whole input
  pub gives_from_front : (bytes : List ℕ) (p : Option parts.Part) (r : Option Part) → GivesFrom 0 bytes p r → GivesPart registry bytes p r
  gives_from_front bytes None None h = tt
  gives_from_front bytes (Some x) (Some r) h = (let e = h.0 in omega (arith, e), h.1, h.2)
  gives_from_front bytes None (Some r) h = absurd h
  gives_from_front bytes (Some x) None h = absurd h

  -- the same for a part that is `n` bytes further on
  gives_after : (gone : ℕ) (bytes front rest : List ℕ) (n : ℕ) (p : Option parts.Part) (r : Option Part) → bytes ≡ front ++ rest → length front ≡ n → GivesFrom (gone + n) rest p r
      → GivesFrom gone bytes (part_after n p) r
  gives_after gone bytes front rest n None None e long h = tt
  gives_after gone bytes front rest n (Some x) (Some r) e long h = (
    (let z = h.0 in omega (arith, z)),
    h.1,
    h.2 ∙ ap (take (length r.bytes.now)) (ap (drop x.place) (sym (ap (drop n) e ∙ drop_at front rest n long)) ∙ drop-drop x.place n bytes),
  )
  gives_after gone bytes front rest n None (Some r) e long h = absurd h
  gives_after gone bytes front rest n (Some x) None e long h = absurd h

  -- for every value that may be ahead, `r` is the result of following `path` in it
  abbrev pub WalksIn : List ℕ → Ahead → Content → List parts.Step → Option Part → Type 0
  WalksIn whole ahead f path r = (front : List ℕ) (t : Tree) (after : List ℕ) → whole ≡ front ++ ahead.bytes.now → Fronts registry ahead f t after
      → GivesFrom (length front) ahead.bytes.now (part_at registry path f t) r

  module _ (whole : List ℕ) (ahead : Ahead) (f : Content) where
    -- a step leads nowhere
    pub walk_ends : (s : parts.Step) (path : List parts.Step) → StepsTo registry ahead s f None → WalksIn whole ahead f (s ∷ path) None
    walk_ends s path step front t after is h = at (step_at registry s f t) (step t after h)
      where
        at : (p : Option parts.Part) → LeadsTo registry ahead.bytes.now p None → GivesFrom (length front) ahead.bytes.now (part_onward (part_at registry path) p) None
        at None k = tt
        at (Some x) k = absurd k

    -- a step leads to a value, and the other steps continue from there
    pub walk_on : (s : parts.Step) (path : List parts.Step) (q : Reached) (r : Option Part) → StepsTo registry ahead s f (Some q) → WalksIn whole q.ahead (content_of q.here) path r
        → WalksIn whole ahead f (s ∷ path) r
    walk_on s path q r step next front t after is h = at (step_at registry s f t) (step t after h)
      where
        at : (p : Option parts.Part) → LeadsTo registry ahead.bytes.now p (Some q) → GivesFrom (length front) ahead.bytes.now (part_onward (part_at registry path) p) r
        at None k = absurd k
        at (Some x) k =
            let on = next (front ++ k.before) x.value k.after (is ∙ ap (λ (b : List ℕ). front ++ b) k.is ∙ sym (append_assoc front k.before q.ahead.bytes.now))
            (subst (λ (c : Content). Fronts registry q.ahead c x.value k.after) (sym k.content) k.stands) in
            let long : length (front ++ k.before) ≡ length front + x.place = (let place = k.place in omega (arith, length-append front k.before, place)) in
            gives_after (length front) ahead.bytes.now k.before q.ahead.bytes.now x.place (part_at registry path x.content x.value) r k.is k.place
            (subst (λ (c : Content). GivesFrom (length front + x.place) q.ahead.bytes.now (part_at registry path c x.value) r) k.content
            (subst (λ (n : ℕ). GivesFrom n q.ahead.bytes.now (part_at registry path (content_of q.here) x.value) r) long on))

    -- no steps are left: the part is what is ahead
    pub walk_arrives : (behind own gone : List ℕ) (r : Part) → RestIs registry ahead f behind → ((z : List ℕ) → ahead.bytes.now ≡ z ++ behind → own ≡ z) → ((z : List ℕ) → whole ≡ z ++ ahead.bytes.now → gone ≡ z)
        → r.bytes.now ≡ own → r.place ≡ length gone → WalksIn whole ahead f [] (Some r)
    walk_arrives behind own gone r rest before first same place front t after is h =
        let end = rest t after h in
        let whole_is : ahead.bytes.now ≡ plain registry t f ++ behind = h.is ∙ ap (λ (b : List ℕ). plain registry t f ++ b) (sym end) in
        let bytes : r.bytes.now ≡ plain registry t f = same ∙ before (plain registry t f) whole_is in (
          omega (arith, place, ap length (first front is)),
          bytes,
          bytes ∙ sym (ap (take (length r.bytes.now)) whole_is ∙ take_at (plain registry t f) behind (length r.bytes.now) (ap length (sym bytes))),
        )

    -- no value is ahead
    pub walk_stuck : (r : Option Part) → NoneStands registry ahead f → WalksIn whole ahead f [] r
    walk_stuck r none front t after is h = absurd (none t after h)

-- the next step of a path
pub steps_next : (path : List Step) (i : ℕ) (d : Step) → i < length path → map step_of (drop i path) ≡ step_of (get_or path i d) ∷ map step_of (drop (i + 1) path)
steps_next path i d lt = ap (map step_of) (drop_more path i d lt)
