-- The equality tests decide equality.
use Rattle.bcs_registry_model.proofs.Prelude.{◌≡◌, ℕ, List, [], ◌∷◌, length, map, true, false, ◌&&◌, ◌==◌, refl, ap, ◌∙◌, arith, Width, w8, w16, w32, w64, w128, bytes_eq, and-false, false≢true, and_parts, and_from, Decides-eqb, bytes_eq-Decides, Unsupported, float32, float64, character, Shape, Shapes, no_shapes, shape, Field, Payload, Container, same_width, same_unsupported, same_shape, same_shapes, same_fields, same_payload, same_variant, same_struct, shape_of, formats_shapes, field_of, Format, Named}
use Rattle.bcs_registry_model.specs.Shape as shape
use Rattle.bcs_registry_model.specs.Container as container

-- ---- lists of different length

pub same_shapes-unlike : (xs ys : List Format) → (length xs ≡ length ys → ⊥) → same_shapes (formats_shapes xs) (formats_shapes ys) ≡ false
same_shapes-unlike [] [] h = absurd (h refl)
same_shapes-unlike [] (y ∷ ys) h = refl
same_shapes-unlike (x ∷ xs) [] h = refl
same_shapes-unlike (x ∷ xs) (y ∷ ys) h =
    ap (λ b. same_shape (shape_of x) (shape_of y) && b) (same_shapes-unlike xs ys (λ e. h (omega (arith, e)))) ∙ and-false (same_shape (shape_of x) (shape_of y))

pub same_fields-unlike : (xs ys : List (Named Format)) → (length xs ≡ length ys → ⊥) → same_fields (map field_of xs) (map field_of ys) ≡ false
same_fields-unlike [] [] h = absurd (h refl)
same_fields-unlike [] (y ∷ ys) h = refl
same_fields-unlike (x ∷ xs) [] h = refl
same_fields-unlike (x ∷ xs) (y ∷ ys) h =
    ap (λ b. (bytes_eq (field_of x).0 (field_of y).0 && same_shape (field_of x).1 (field_of y).1) && b) (same_fields-unlike xs ys (λ e. h (omega (arith, e))))
    ∙ and-false (bytes_eq (field_of x).0 (field_of y).0 && same_shape (field_of x).1 (field_of y).1)

-- ---- if the test is true, the two are equal

same_width-true : (v w : Width) → same_width v w ≡ true → v ≡ w
same_width-true w8 w8 h = refl
same_width-true w16 w16 h = refl
same_width-true w32 w32 h = refl
same_width-true w64 w64 h = refl
same_width-true w128 w128 h = refl
same_width-true _ _ h = absurd (false≢true h)

same_unsupported-true : (u v : Unsupported) → same_unsupported u v ≡ true → u ≡ v
same_unsupported-true float32 float32 h = refl
same_unsupported-true float64 float64 h = refl
same_unsupported-true character character h = refl
same_unsupported-true _ _ h = absurd (false≢true h)

mutual
  same_shape-true : (s t : Shape) → same_shape s t ≡ true → s ≡ t
  same_shape-true shape.unit shape.unit h = refl
  same_shape-true shape.truth shape.truth h = refl
  same_shape-true (shape.unsigned v) (shape.unsigned w) h = ap shape.unsigned (same_width-true v w h)
  same_shape-true (shape.signed v) (shape.signed w) h = ap shape.signed (same_width-true v w h)
  same_shape-true (shape.unsupported u) (shape.unsupported v) h = ap shape.unsupported (same_unsupported-true u v h)
  same_shape-true shape.text shape.text h = refl
  same_shape-true shape.bytes shape.bytes h = refl
  same_shape-true (shape.name m) (shape.name n) h = ap shape.name ((bytes_eq-Decides m n).0 h)
  same_shape-true (shape.option s) (shape.option t) h = ap shape.option (same_shape-true s t h)
  same_shape-true (shape.seq s) (shape.seq t) h = ap shape.seq (same_shape-true s t h)
  same_shape-true (shape.map k v) (shape.map l w) h =
      ap (λ s. shape.map s v) (same_shape-true k l (and_parts _ _ h).0) ∙ ap (λ s. shape.map l s) (same_shape-true v w (and_parts (same_shape k l) _ h).1)
  same_shape-true (shape.tuple ss) (shape.tuple ts) h = ap shape.tuple (same_shapes-true ss ts h)
  same_shape-true (shape.array s m) (shape.array t n) h =
      ap (λ k. shape.array s k) ((Decides-eqb m n).0 (and_parts _ _ h).0) ∙ ap (λ u. shape.array u n) (same_shape-true s t (and_parts (m == n) _ h).1)
  same_shape-true _ _ h = absurd (false≢true h)

  same_shapes-true : (ss ts : Shapes) → same_shapes ss ts ≡ true → ss ≡ ts
  same_shapes-true no_shapes no_shapes h = refl
  same_shapes-true (shape s ss) (shape t ts) h =
      ap (λ u. shape u ss) (same_shape-true s t (and_parts _ _ h).0) ∙ ap (λ us. shape t us) (same_shapes-true ss ts (and_parts (same_shape s t) _ h).1)
  same_shapes-true no_shapes (shape t ts) h = absurd (false≢true h)
  same_shapes-true (shape s ss) no_shapes h = absurd (false≢true h)

same_fields-true : (fs gs : List Field) → same_fields fs gs ≡ true → fs ≡ gs
same_fields-true [] [] h = refl
same_fields-true (f ∷ fs) (g ∷ gs) h =
    let both = (and_parts _ _ h).0 in
    let named : f.0 ≡ g.0 = (bytes_eq-Decides f.0 g.0).0 (and_parts _ _ both).0 in
    let shaped : f.1 ≡ g.1 = same_shape-true f.1 g.1 (and_parts (bytes_eq f.0 g.0) _ both).1 in
    let one : f ≡ g = ap (λ n. (n, f.1)) named ∙ ap (λ s. (g.0, s)) shaped in
    ap (λ x. x ∷ fs) one ∙ ap (λ xs. g ∷ xs) (same_fields-true fs gs (and_parts (bytes_eq f.0 g.0 && same_shape f.1 g.1) _ h).1)
same_fields-true [] (g ∷ gs) h = absurd (false≢true h)
same_fields-true (f ∷ fs) [] h = absurd (false≢true h)

same_payload-true : (p q : Payload) → same_payload p q ≡ true → p ≡ q
same_payload-true container.unit container.unit h = refl
same_payload-true (container.newtype s) (container.newtype t) h = ap container.newtype (same_shape-true s t h)
same_payload-true (container.tuple ss) (container.tuple ts) h = ap container.tuple (same_shapes-true ss ts h)
same_payload-true (container.fields fs) (container.fields gs) h = ap container.fields (same_fields-true fs gs h)
same_payload-true _ _ h = absurd (false≢true h)

pub same_variant-true : (v w : List ℕ × Payload) → same_variant v w ≡ true → v ≡ w
same_variant-true v w h =
    let named : v.0 ≡ w.0 = (bytes_eq-Decides v.0 w.0).0 (and_parts _ _ h).0 in
    let paid : v.1 ≡ w.1 = same_payload-true v.1 w.1 (and_parts _ _ h).1 in
    ap (λ n. (n, v.1)) named ∙ ap (λ p. (w.0, p)) paid

pub same_struct-true : (c d : Container) → same_struct c d ≡ true → c ≡ d
same_struct-true container.unit_struct container.unit_struct h = refl
same_struct-true (container.newtype_struct s) (container.newtype_struct t) h = ap container.newtype_struct (same_shape-true s t h)
same_struct-true (container.tuple_struct ss) (container.tuple_struct ts) h = ap container.tuple_struct (same_shapes-true ss ts h)
same_struct-true (container.field_struct fs) (container.field_struct gs) h = ap container.field_struct (same_fields-true fs gs h)
same_struct-true _ _ h = absurd (false≢true h)

-- ---- if the two are equal, the test is true

same_width-refl : (w : Width) → same_width w w ≡ true
same_width-refl w8 = refl
same_width-refl w16 = refl
same_width-refl w32 = refl
same_width-refl w64 = refl
same_width-refl w128 = refl

same_unsupported-refl : (u : Unsupported) → same_unsupported u u ≡ true
same_unsupported-refl float32 = refl
same_unsupported-refl float64 = refl
same_unsupported-refl character = refl

mutual
  pub same_shape-refl : (s : Shape) → same_shape s s ≡ true
  same_shape-refl shape.unit = refl
  same_shape-refl shape.truth = refl
  same_shape-refl (shape.unsigned w) = same_width-refl w
  same_shape-refl (shape.signed w) = same_width-refl w
  same_shape-refl (shape.unsupported u) = same_unsupported-refl u
  same_shape-refl shape.text = refl
  same_shape-refl shape.bytes = refl
  same_shape-refl (shape.name n) = (bytes_eq-Decides n n).1 refl
  same_shape-refl (shape.option s) = same_shape-refl s
  same_shape-refl (shape.seq s) = same_shape-refl s
  same_shape-refl (shape.map k v) = and_from _ _ (same_shape-refl k) (same_shape-refl v)
  same_shape-refl (shape.tuple ss) = same_shapes-refl ss
  same_shape-refl (shape.array s n) = and_from _ _ ((Decides-eqb n n).1 refl) (same_shape-refl s)

  pub same_shapes-refl : (ss : Shapes) → same_shapes ss ss ≡ true
  same_shapes-refl no_shapes = refl
  same_shapes-refl (shape s ss) = and_from _ _ (same_shape-refl s) (same_shapes-refl ss)

pub same_fields-refl : (fs : List Field) → same_fields fs fs ≡ true
same_fields-refl [] = refl
same_fields-refl (f ∷ fs) = and_from _ _ (and_from _ _ ((bytes_eq-Decides f.0 f.0).1 refl) (same_shape-refl f.1)) (same_fields-refl fs)

same_payload-refl : (p : Payload) → same_payload p p ≡ true
same_payload-refl container.unit = refl
same_payload-refl (container.newtype s) = same_shape-refl s
same_payload-refl (container.tuple ss) = same_shapes-refl ss
same_payload-refl (container.fields fs) = same_fields-refl fs

pub same_variant-refl : (v : List ℕ × Payload) → same_variant v v ≡ true
same_variant-refl v = and_from _ _ ((bytes_eq-Decides v.0 v.0).1 refl) (same_payload-refl v.1)
