-- Contents of parts.
use Rattle.std.proofs.Common.{◌≡◌, ◌∙◌, ℕ, suc, ◌<◌, ◌^◌, ◌==◌, nat_lt, nat_le, List, [], ◌∷◌, ◌++◌, length, take, drop, Bool, true, false, if◌then◌else◌, Option, Some, None, Ok, Err, refl, sym, ap, subst, arith, append_assoc}
use Rattle.std.proofs.lemmas.Bool.{and_parts, false≢true, leb-true, ltb-true}
use Rattle.std.proofs.lemmas.List.{append_cancel_right, drop_at, length-append, take_at}
use Rattle.std.specs.Borrow.{Bor}
use Rattle.std.specs.Int.{w8}
use Rattle.bcs_num.proofs.LeLaws.{le-w8}
use Rattle.bcs_num.specs.Uleb.{uleb}
use Rattle.bcs_registry_model.specs.Container.{Content, Entries, of}
use Rattle.bcs_registry_model.specs.Shape as shape
use Rattle.bcs_registry_model.specs.Shape.{Shape}
use Rattle.bcs_registry_model.specs.Whole.{whole_shape}
use Rattle.bcs_registry_model.specs.declared.integer_kind.IntegerKind.{IntegerKind}
use Rattle.bcs_registry_model.specs.declared.integer_kind.IntegerKind.TheVariants.{Signed, Unsigned}
use Rattle.bcs_value_model.proofs.Equivalence.{nat-same}
use Rattle.bcs_value_model.specs.Fits.{all_fit}
use Rattle.bcs_value_model.specs.Limits.{Bounds}
use Rattle.bcs_value_model.specs.Tree as tree
use Rattle.bcs_value_model.specs.Tree.{count, no_trees, Tree, tree, Trees}
use Rattle.bcs_encode_spec.specs.Lengths.{all_hold, length_limit}
use Rattle.bcs_encode_spec.specs.Plain.{plain, plain_items}
use Rattle.bcs_decode_spec.specs.Accepting.{Accepts}
use Rattle.bcs_decode_parts.proofs.Arrivals.{leads_after}
use Rattle.bcs_decode_parts.proofs.Skips.{accepted_stands}
use Rattle.bcs_decode_parts.specs.Fronts.{Fronts, IsNumber, LeadsTo, Reaches, StepsTo}
use Rattle.bcs_decode_parts.specs.Here.{content_of}
use Rattle.bcs_decode_parts.specs.Parts as parts
use Rattle.bcs_decode_parts.specs.Parts.{part_after, part_at, part_onward, step_at}
use Rattle.bcs_decode_parts.specs.declared.ahead.Ahead.{Ahead}
use Rattle.bcs_decode_parts.specs.declared.here.Reached.{Reached}
use Rattle.bcs_decode_parts.specs.declared.part.Part.{Part}
use Rattle.bcs_part_names.specs.Contents.{content_bytes, element_bytes, GivesContent, GivesContentOf, is_u8, IsSized, LeadsAlong, length_bytes, SizesContent}

-- ---- values of U8

-- their encodings are their bytes
elements_plain : (registry : Entries) (ts : Trees) → all_fit false registry ts (shape.unsigned w8) ≡ true
    → (plain_items registry ts (shape.unsigned w8) ≡ element_bytes ts) × (count ts ≡ length (element_bytes ts))
elements_plain registry no_trees h = (refl, refl)
elements_plain registry (tree (tree.unsigned n) ts) h =
    let fit = and_parts (nat_lt n 256) (all_fit false registry ts (shape.unsigned w8)) h in
    let rest = elements_plain registry ts fit.1 in
    (ap (λ (b : List ℕ). b ++ plain_items registry ts (shape.unsigned w8)) (le-w8 n (ltb-true n 256 fit.0)) ∙ ap (λ (b : List ℕ). n ∷ b) rest.0, ap suc rest.1)
elements_plain registry (tree _ ts) h = absurd (false≢true h)

-- ---- the bytes from a content on

module _ (ahead : Ahead) where
  pub moved : (f g : Content) (r : Option (ℕ × Bor (List ℕ))) → f ≡ g → SizesContent ahead g r → SizesContent ahead f r
  moved f g r e h = subst (λ (x : Content). SizesContent ahead x r) (sym e) h

  -- a value without content
  pub none_sized : (f : Content) → ((t : Tree) → content_bytes f t ≡ None) → SizesContent ahead f None
  none_sized f none registry t after h = subst (λ (c : Option (List ℕ)). IsSized c (length_bytes f t) after ahead.bytes.now None) (sym (none t)) tt

  -- a content behind its length
  module _ (r : Option (ℕ × Bor (List ℕ))) (number : (n : ℕ) (z : List ℕ) → n < 2 ^ 32 → ahead.bytes.now ≡ uleb n ++ z → IsNumber n z r) where
    counted_sized : (n : ℕ) (content after : List ℕ) → n ≡ length content → n < 2 ^ 32 → ahead.bytes.now ≡ (uleb n ++ content) ++ after
        → IsSized (Some content) (uleb n) after ahead.bytes.now r
    counted_sized n content after long small is = at r (number n (content ++ after) small whole)
      where
        whole : ahead.bytes.now ≡ uleb n ++ (content ++ after)
        whole = is ∙ append_assoc (uleb n) content after

        at : (q : Option (ℕ × Bor (List ℕ))) → IsNumber n (content ++ after) q → IsSized (Some content) (uleb n) after ahead.bytes.now q
        at None k = absurd k
        at (Some x) k = (k.0 ∙ long, whole ∙ ap (λ (b : List ℕ). uleb n ++ b) (sym k.1), k.1)

    pub bytes_sized : SizesContent ahead (of shape.bytes) r
    bytes_sized registry (tree.bytes s) after h = counted_sized (length s) s after refl (let l = h.good.sound.lengths in omega (arith, leb-true (length s) length_limit l)) h.is
    bytes_sized registry _ after h = absurd (let e = h.good.sound.fit in cc)

    pub text_sized : SizesContent ahead (of shape.text) r
    text_sized registry (tree.text s) after h = counted_sized (length s) s after refl (let l = h.good.sound.lengths in omega (arith, leb-true (length s) length_limit l)) h.is
    text_sized registry _ after h = absurd (let e = h.good.sound.fit in cc)

    pub list_sized : (s : Shape) → is_u8 s ≡ true → SizesContent ahead (of (shape.seq s)) r
    list_sized (shape.unsigned w8) is registry (tree.items ts) after h =
        let rows = elements_plain registry ts h.good.sound.fit in
        let l = and_parts (nat_le (count ts) length_limit) (all_hold length_limit registry ts (shape.unsigned w8)) h.good.sound.lengths in
        counted_sized (count ts) (element_bytes ts) after rows.1 (omega (arith, leb-true (count ts) length_limit l.0))
        (h.is ∙ ap (λ (b : List ℕ). (uleb (count ts) ++ b) ++ after) rows.0)
    list_sized (shape.unsigned w8) is registry _ after h = absurd (let e = h.good.sound.fit in cc)
    list_sized _ is registry t after h = absurd (false≢true is)

  -- a content without a length
  pub array_sized : (s : Shape) (n : ℕ) (rest : Bor (List ℕ)) → is_u8 s ≡ true → rest.now ≡ ahead.bytes.now → SizesContent ahead (of (shape.array s n)) (Some (n, rest))
  array_sized (shape.unsigned w8) n rest is same registry (tree.items ts) after h =
      let fit = and_parts (count ts == n) (all_fit false registry ts (shape.unsigned w8)) h.good.sound.fit in
      let rows = elements_plain registry ts fit.1 in
      (sym (nat-same (count ts) n fit.0) ∙ rows.1, sym same, same ∙ h.is ∙ ap (λ (b : List ℕ). b ++ after) rows.0)
  array_sized (shape.unsigned w8) n rest is same registry _ after h = absurd (let e = h.good.sound.fit in cc)
  array_sized _ n rest is same registry t after h = absurd (false≢true is)

-- ---- values without content

pub list_none : (s : Shape) → is_u8 s ≡ false → (t : Tree) → content_bytes (of (shape.seq s)) t ≡ None
list_none s is (tree.items ts) = ap (λ (b : Bool). if b then Some (element_bytes ts) else None) is
list_none s is _ = refl

pub array_none : (s : Shape) (n : ℕ) → is_u8 s ≡ false → (t : Tree) → content_bytes (of (shape.array s n)) t ≡ None
array_none s n is (tree.items ts) = ap (λ (b : Bool). if b then Some (element_bytes ts) else None) is
array_none s n is _ = refl

pub whole_none : (n : IntegerKind) (t : Tree) → content_bytes (of (whole_shape n)) t ≡ None
whole_none (Unsigned w) t = refl
whole_none (Signed w) t = refl

-- ---- where steps lead

module _ (registry : Entries) (ahead : Ahead) (f : Content) where
  -- a step leads nowhere
  pub along_ends : (s : parts.Step) (path : List parts.Step) → StepsTo registry ahead s f None → LeadsAlong registry ahead (s ∷ path) f None
  along_ends s path step t after h = at (step_at registry s f t) (step t after h)
    where
      at : (p : Option parts.Part) → LeadsTo registry ahead.bytes.now p None → LeadsTo registry ahead.bytes.now (part_onward (part_at registry path) p) None
      at None k = tt
      at (Some x) k = absurd k

  -- a step leads to a value, and the other steps continue from there
  pub along_on : (s : parts.Step) (path : List parts.Step) (q : Reached) (r : Option Reached) → StepsTo registry ahead s f (Some q) → LeadsAlong registry q.ahead path (content_of q.here) r
      → LeadsAlong registry ahead (s ∷ path) f r
  along_on s path q r step next t after h = at (step_at registry s f t) (step t after h)
    where
      at : (p : Option parts.Part) → LeadsTo registry ahead.bytes.now p (Some q) → LeadsTo registry ahead.bytes.now (part_onward (part_at registry path) p) r
      at None k = absurd k
      at (Some x) k =
          let on = next x.value k.after (subst (λ (c : Content). Fronts registry q.ahead c x.value k.after) (sym k.content) k.stands) in
          let here = subst (λ (c : Content). LeadsTo registry q.ahead.bytes.now (part_at registry path c x.value) r) k.content on in
          subst (λ (n : ℕ). LeadsTo registry ahead.bytes.now (part_after n (part_at registry path x.content x.value)) r) k.place
          (leads_after registry ahead.bytes.now k.before q.ahead.bytes.now (part_at registry path x.content x.value) r k.is here)

-- no steps are left
pub along_arrives : (registry : Entries) (q : Reached) → LeadsAlong registry q.ahead [] (content_of q.here) (Some q)
along_arrives registry q t after h = record { before = []; after = after; content = refl; place = refl; is = refl; stands = h }

-- from an accepted value
pub leads_from : (registry : Entries) (limits : Bounds) (s : Shape) (b : List ℕ) (n : ℕ) (c : Tree) (start : Reached) (path : List parts.Step) (r : Option Reached)
    → Accepts registry limits s b n c → start.ahead.bytes.now ≡ b → content_of start.here ≡ of s → start.ahead.depth ≡ limits.depth → start.ahead.nodes ≡ limits.nodes
    → LeadsAlong registry start.ahead path (content_of start.here) r → LeadsTo registry b (part_at registry path (of s) c) r
leads_from registry limits s b n c start path r good is here deep many along =
    let stands = accepted_stands registry limits s b n c start.ahead good is deep many in
    subst (λ (x : List ℕ). LeadsTo registry x (part_at registry path (of s) c) r) is
    (subst (λ (f : Content). LeadsTo registry start.ahead.bytes.now (part_at registry path f c) r) here
    (along c (drop n b) (subst (λ (f : Content). Fronts registry start.ahead f c (drop n b)) (sym here) stands)))

-- ---- the content of a part

module _ (registry : Entries) (whole : List ℕ) where
  pub gives_nowhere : (p : Option parts.Part) → LeadsTo registry whole p None → GivesContent registry whole p (Ok None)
  gives_nowhere None h = tt
  gives_nowhere (Some x) h = absurd h

  -- what is reached has the content of the part
  sized_here : (x : parts.Part) (q : Reached) (r : Option (ℕ × Bor (List ℕ))) (k : Reaches registry whole x q) → SizesContent q.ahead (content_of q.here) r
      → IsSized (content_bytes x.content x.value) (length_bytes x.content x.value) k.after q.ahead.bytes.now r
  sized_here x q r k sized =
      subst (λ (f : Content). IsSized (content_bytes f x.value) (length_bytes f x.value) k.after q.ahead.bytes.now r) k.content
      (sized registry x.value k.after (subst (λ (c : Content). Fronts registry q.ahead c x.value k.after) (sym k.content) k.stands))

  pub gives_none : (p : Option parts.Part) (q : Reached) (e : _) → LeadsTo registry whole p (Some q) → SizesContent q.ahead (content_of q.here) None → GivesContent registry whole p (Err e)
  gives_none None q e h sized = absurd h
  gives_none (Some x) q e h sized = at (content_bytes x.content x.value) (sized_here x q None h sized)
    where
      at : (c : Option (List ℕ)) → IsSized c (length_bytes x.content x.value) h.after q.ahead.bytes.now None → GivesContentOf registry whole x c (Err e)
      at None k = tt
      at (Some content) k = absurd k

  pub gives_found : (p : Option parts.Part) (q : Reached) (size : ℕ) (rest : Bor (List ℕ)) (r : Part) (gone : List ℕ) → LeadsTo registry whole p (Some q)
      → SizesContent q.ahead (content_of q.here) (Some (size, rest)) → ((front z : List ℕ) → rest.now ≡ front ++ z → size ≡ length front → r.bytes.now ≡ front)
      → ((z : List ℕ) → whole ≡ z ++ rest.now → gone ≡ z) → r.place ≡ length gone → GivesContent registry whole p (Ok (Some r))
  gives_found None q size rest r gone h sized first before place = absurd h
  gives_found (Some x) q size rest r gone h sized first before place = at (content_bytes x.content x.value) (sized_here x q (Some (size, rest)) h sized)
    where
      front : List ℕ
      front = length_bytes x.content x.value

      at : (c : Option (List ℕ)) → IsSized c front h.after q.ahead.bytes.now (Some (size, rest)) → GivesContentOf registry whole x c (Ok (Some r))
      at None k = absurd k
      at (Some content) k =
          let skipped : whole ≡ (h.before ++ front) ++ rest.now = h.is ∙ ap (λ (b : List ℕ). h.before ++ b) k.1 ∙ sym (append_assoc h.before front rest.now) in
          let gone_is : gone ≡ h.before ++ front = before (h.before ++ front) skipped in
          let own : r.bytes.now ≡ content = first content h.after k.2 k.0 in
          let far : r.place ≡ length (h.before ++ front) = place ∙ ap length gone_is in
          record {
            bytes = own;
            behind = append_cancel_right (plain registry x.value x.content) (front ++ content) h.after
                (sym h.stands.is ∙ k.1 ∙ ap (λ (b : List ℕ). front ++ b) k.2 ∙ sym (append_assoc front content h.after));
            place = (let before_is = h.place in omega (arith, far, before_is, length-append h.before front));
            is = own ∙ sym (ap (take (length content)) (ap (drop r.place) skipped ∙ drop_at (h.before ++ front) rest.now r.place (sym far) ∙ k.2) ∙ take_at content h.after (length content) refl);
          }
