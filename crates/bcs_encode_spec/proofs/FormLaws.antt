-- The laws of canonical forms.
use Rattle.bcs_encode_spec.proofs.Prelude.{◌≡◌, ◌≤◌, ℕ, true, false, List, [], ◌++◌, sym, ap, subst, ◌∙◌, Entries, Content, of, Tree, fits, same, distinct, Same, Bounds, same-refl, same-sym, same-trans, plain, length_limit, IsSoundAt, IsForm, PrefixFree, OneCanonicalForm, BytesDecide}
use Rattle.bcs_encode_spec.proofs.PrefixLaws.{plain_free}
use Rattle.bcs_encode_spec.proofs.UniqueForms.{canonical_same}
use Rattle.bcs_encode_spec.proofs.SoundForms.{canonical_distinct, lengths_hold-form_of}
use Rattle.bcs_encode_spec.proofs.CanonicalForm.{form_of}
use Rattle.bcs_encode_spec.proofs.FormOf.{fits-form_of, form_is_canonical, same-form_of, depth-form_of, nodes-form_of}

turn : (a b : Tree) → same a b ≡ true → same b a ≡ true
turn a b h = same-sym b a ∙ h

-- ---- forms

-- canonical forms of trees that are the same are equal
pub forms_same : (registry : Entries) (f : Content) (v w c d : Tree) → IsForm registry f v c → IsForm registry f w d → Same v w → c ≡ d
forms_same registry f v w c d p q h =
    canonical_same registry c f d p.fit q.fit p.canonical q.canonical (same-trans c v d (turn v c p.is_same) (same-trans v w d h q.is_same))

-- if no map has a repeated key, the tree has a canonical form
pub form_of_is_form : (registry : Entries) (f : Content) (t : Tree) → fits false registry t f ≡ true → distinct t ≡ true → IsForm registry f t (form_of registry t f)
form_of_is_form registry f t h d = record {
  fit = fits-form_of registry t f ∙ h;
  canonical = form_is_canonical registry t f h d;
  is_same = same-form_of registry t f;
}

-- and this is its only one
pub form_is_form_of : (registry : Entries) (f : Content) (t c : Tree) → fits false registry t f ≡ true → distinct t ≡ true → IsForm registry f t c
    → c ≡ form_of registry t f
form_is_form_of registry f t c h d p = forms_same registry f t t c (form_of registry t f) p (form_of_is_form registry f t h d) (same-refl t)

form_of_sound : (registry : Entries) (f : Content) (t : Tree) (limits : Bounds) → IsSoundAt registry limits f t → IsSoundAt registry limits f (form_of registry t f)
form_of_sound registry f t limits h = record {
  fit = fits-form_of registry t f ∙ h.fit;
  distinct = canonical_distinct registry (form_of registry t f) f (fits-form_of registry t f ∙ h.fit) (form_is_canonical registry t f h.fit h.distinct);
  depth_holds = subst (λ (n : ℕ). n ≤ limits.depth) (sym (depth-form_of registry t f)) h.depth_holds;
  nodes_hold = subst (λ (n : ℕ). n ≤ limits.nodes) (sym (nodes-form_of registry t f)) h.nodes_hold;
  lengths = lengths_hold-form_of length_limit registry t f ∙ h.lengths;
}

-- ---- the laws

pub plain_is_prefix_free : PrefixFree
plain_is_prefix_free = λ registry f a b r s h g e. plain_free registry a f b r s h g e

pub has_one_form : OneCanonicalForm
has_one_form = λ registry f t h d. (
  form_of registry t f,
  record {
    is_form = form_of_is_form registry f t h d;
    only = λ c p. form_is_form_of registry f t c h d p;
    distinct = canonical_distinct registry (form_of registry t f) f (fits-form_of registry t f ∙ h) (form_is_canonical registry t f h d);
    same_depth = depth-form_of registry t f;
    same_nodes = nodes-form_of registry t f;
    same_lengths = λ limit. lengths_hold-form_of limit registry t f;
    sound = λ limits p. form_of_sound registry f t limits p;
  },
)

-- equal bytes are those of the same form
form_from_bytes : (registry : Entries) (f : Content) (v w c d : Tree) → IsForm registry f v c → IsForm registry f w d → plain registry c f ≡ plain registry d f → Same v w
form_from_bytes registry f v w c d p q e =
    let is : c ≡ d = (plain_free registry c f d [] [] p.fit q.fit (ap (λ (b : List ℕ). b ++ []) e)).0 in
    same-trans v c w p.is_same (subst (λ (t : Tree). same t w ≡ true) (sym is) (turn w d q.is_same))

pub bytes_decide_same : BytesDecide
bytes_decide_same = λ registry limits s v w b c p q. (
  λ h. sym p.bytes ∙ ap (λ (t : Tree). plain registry t (of s)) (forms_same registry (of s) v w p.form q.form p.is_form q.is_form h) ∙ q.bytes,
  λ e. form_from_bytes registry (of s) v w p.form q.form p.is_form q.is_form (p.bytes ∙ e ∙ sym q.bytes),
)
