-- How many nodes are left after a tree, if `depth` more containers may open and `nodes` more nodes may begin; `None` if
-- the tree isn't sound besides its keys within these limits. These functions carry the proof of the recursion. Its
-- public contract names only `IsSoundBesidesKeys`.
use Rattle.std.specs.Prelude.{ℕ, ◌-◌, ◌^◌, Bool, ◌&&◌, ◌==◌, nat_le, nat_lt, if◌then◌else◌, length, Option, Some, None}
use Rattle.std.specs.Option.{option_and_then}
use Rattle.std.specs.Str.{is_utf8}
use Rattle.bcs_num.specs.Le.{holds_unsigned, holds_signed}
use Rattle.bcs_registry_model.specs.Container.{Entries, Content, of, one_of, content_at, choice_at}
use Rattle.bcs_registry_model.specs.Shape as shape
use Rattle.bcs_registry_model.specs.Shape.{Shape, Shapes, no_shapes, shape}
use Rattle.bcs_value_model.specs.Tree as tree
use Rattle.bcs_value_model.specs.Tree.{Tree, Trees, no_trees, tree, Pairs, no_pairs, pair, count, pair_count}
use Rattle.bcs_value_model.specs.Fits.{are_bytes}
use Rattle.bcs_encode_spec.specs.Lengths.{length_limit}

-- `n - k`, or `None` if that is negative
abbrev pub less : ℕ → ℕ → Option ℕ
less k n = if nat_le k n then Some (n - k) else None

-- a tree without parts is one node, if it is good
abbrev pub leaf : Bool → ℕ → Option ℕ
leaf good nodes = if good then less 1 nodes else None

module _ (registry : Entries) where
  abbrev mutual
    pub validated : Tree → Content → ℕ → ℕ → Option ℕ
    validated tree.unit (of shape.unit) depth nodes = less 1 nodes
    validated (tree.truth b) (of shape.truth) depth nodes = less 1 nodes
    validated (tree.unsigned n) (of (shape.unsigned w)) depth nodes = leaf (holds_unsigned w n) nodes
    validated (tree.signed z) (of (shape.signed w)) depth nodes = leaf (holds_signed w z) nodes
    validated (tree.text s) (of shape.text) depth nodes = leaf (is_utf8 s && nat_le (length s) length_limit) nodes
    validated (tree.bytes s) (of shape.bytes) depth nodes = leaf (are_bytes s && nat_le (length s) length_limit) nodes
    validated tree.absent (of (shape.option s)) depth nodes = less 1 nodes
    validated (tree.present t) (of (shape.option s)) depth nodes = option_and_then (validated t (of s) depth) (less 1 nodes)
    validated (tree.items ts) (of (shape.seq s)) depth nodes =
        if nat_le (count ts) length_limit then option_and_then (all_validated ts s depth) (less 1 nodes) else None
    validated (tree.items ts) (of (shape.tuple ss)) depth nodes = option_and_then (each_validated ts ss depth) (less 1 nodes)
    validated (tree.items ts) (of (shape.array s n)) depth nodes =
        if count ts == n then option_and_then (all_validated ts s depth) (less 1 nodes) else None
    validated (tree.pairs ps) (of (shape.map k v)) depth nodes =
        if nat_le (pair_count ps) length_limit then option_and_then (pairs_validated ps k v depth) (less 1 nodes) else None
    validated (tree.named t) (of (shape.name n)) depth nodes =
        option_and_then (λ o. option_and_then (validated t (content_at n registry) o) (less 1 nodes)) (less 1 depth)
    validated (tree.variant n t) (one_of cs) depth nodes =
        if nat_lt n (2 ^ 32) then option_and_then (validated t (choice_at n cs) depth) (less 1 nodes) else None
    validated _ _ depth nodes = None

    -- every tree has the same format
    pub all_validated : Trees → Shape → ℕ → ℕ → Option ℕ
    all_validated no_trees s depth nodes = Some nodes
    all_validated (tree t ts) s depth nodes = option_and_then (all_validated ts s depth) (validated t (of s) depth nodes)

    -- each tree has its own format
    pub each_validated : Trees → Shapes → ℕ → ℕ → Option ℕ
    each_validated no_trees no_shapes depth nodes = Some nodes
    each_validated (tree t ts) (shape s ss) depth nodes = option_and_then (each_validated ts ss depth) (validated t (of s) depth nodes)
    each_validated no_trees (shape s ss) depth nodes = None
    each_validated (tree t ts) no_shapes depth nodes = None

    pub pairs_validated : Pairs → Shape → Shape → ℕ → ℕ → Option ℕ
    pairs_validated no_pairs k v depth nodes = Some nodes
    pairs_validated (pair l w ps) k v depth nodes =
        option_and_then (λ m. option_and_then (pairs_validated ps k v depth) (validated w (of v) depth m)) (validated l (of k) depth nodes)
