-- A tree without maps is its own canonical form.
use Rattle.std.proofs.Common.{◌≡◌, Bool, true, false, ◌||◌, refl, sym}
use Rattle.std.proofs.lemmas.Bool.{and_from, false≢true, or_parts}
use Rattle.bcs_registry_model.specs.Container.{Entries, Content, of, one_of, content_at, choice_at}
use Rattle.bcs_registry_model.specs.Shape as shape
use Rattle.bcs_registry_model.specs.Shape.{Shape, Shapes, no_shapes, shape}
use Rattle.bcs_value_model.proofs.Equivalence.{same-refl}
use Rattle.bcs_value_model.specs.Limits.{Bounds}
use Rattle.bcs_value_model.specs.Same.{distinct, all_distinct}
use Rattle.bcs_value_model.specs.Tree as tree
use Rattle.bcs_value_model.specs.Tree.{Tree, Trees, no_trees, tree}
use Rattle.bcs_encode_spec.specs.Canonical.{IsCanonical, AllCanonical, EachCanonical}
use Rattle.bcs_encode_spec.specs.Encodes.{IsForm}
use Rattle.bcs_encode_spec.specs.Refused.{IsSoundBesidesKeys}
use Rattle.bcs_encode_spec.specs.Sound.{IsSound}
use Rattle.bcs_encode.specs.WithoutMaps.{holds_map, any_holds_map}

mutual
  distinct_keys : (t : Tree) → holds_map t ≡ false → distinct t ≡ true
  distinct_keys tree.unit h = refl
  distinct_keys (tree.truth b) h = refl
  distinct_keys (tree.unsigned n) h = refl
  distinct_keys (tree.signed z) h = refl
  distinct_keys (tree.text s) h = refl
  distinct_keys (tree.bytes s) h = refl
  distinct_keys tree.absent h = refl
  distinct_keys (tree.present t) h = distinct_keys t h
  distinct_keys (tree.items ts) h = all_distinct_keys ts h
  distinct_keys (tree.variant n t) h = distinct_keys t h
  distinct_keys (tree.pairs ps) h = absurd (false≢true (sym h))
  distinct_keys (tree.named t) h = distinct_keys t h

  all_distinct_keys : (ts : Trees) → any_holds_map ts ≡ false → all_distinct ts ≡ true
  all_distinct_keys no_trees h = refl
  all_distinct_keys (tree t ts) h =
      let p = or_parts (holds_map t) (any_holds_map ts) h in
      and_from (distinct t) (all_distinct ts) (distinct_keys t p.0) (all_distinct_keys ts p.1)

module _ (registry : Entries) where
  mutual
    canonical : (t : Tree) (f : Content) → holds_map t ≡ false → IsCanonical registry t f
    canonical (tree.present t) (of (shape.option s)) h = canonical t (of s) h
    canonical (tree.items ts) (of (shape.seq s)) h = all_canonical ts s h
    canonical (tree.items ts) (of (shape.tuple ss)) h = each_canonical ts ss h
    canonical (tree.items ts) (of (shape.array s n)) h = all_canonical ts s h
    canonical (tree.pairs ps) f h = absurd (false≢true (sym h))
    canonical (tree.named t) (of (shape.name n)) h = canonical t (content_at n registry) h
    canonical (tree.variant n t) (one_of cs) h = canonical t (choice_at n cs) h
    canonical (tree.variant n t) (of shape.unit) h = tt
    canonical _ _ h = tt

    all_canonical : (ts : Trees) (s : Shape) → any_holds_map ts ≡ false → AllCanonical registry ts s
    all_canonical no_trees s h = tt
    all_canonical (tree t ts) s h =
        let p = or_parts (holds_map t) (any_holds_map ts) h in
        (canonical t (of s) p.0, all_canonical ts s p.1)

    each_canonical : (ts : Trees) (ss : Shapes) → any_holds_map ts ≡ false → EachCanonical registry ts ss
    each_canonical (tree t ts) (shape s ss) h =
        let p = or_parts (holds_map t) (any_holds_map ts) h in
        (canonical t (of s) p.0, each_canonical ts ss p.1)
    each_canonical no_trees ss h = tt
    each_canonical (tree t ts) no_shapes h = tt

-- so a tree that is sound besides its keys is sound, and its own canonical form
pub mapless_sound : (registry : Entries) (limits : Bounds) (s : Shape) (t : Tree) → holds_map t ≡ false → IsSoundBesidesKeys registry limits s t → IsSound registry limits s t
mapless_sound registry limits s t none h = record { fit = h.fit; distinct = distinct_keys t none; depth_holds = h.depth_holds; nodes_hold = h.nodes_hold; lengths = h.lengths }

pub mapless_form : (registry : Entries) (limits : Bounds) (s : Shape) (t : Tree) → holds_map t ≡ false → IsSoundBesidesKeys registry limits s t → IsForm registry (of s) t t
mapless_form registry limits s t none h = record { fit = h.fit; canonical = canonical registry t (of s) none; is_same = same-refl t }
