-- Which formats reach no map.
use Rattle.std.specs.Prelude.{ℕ, zero, suc, List, Bool, false, true, ◌&&◌}
use Rattle.std.specs.List.{list_all}
use Rattle.bcs_registry_model.specs.Shape.{Shape, name, option, seq, map, tuple, array, Shapes, no_shapes, shape}
use Rattle.bcs_registry_model.specs.Container.{Entries, Content, of, one_of, nothing, content_at, payload_shape}

-- the format contains no map, and neither do its named containers, according to `r`
module _ (r : List ℕ → Bool) where
  abbrev mutual
    pub has_no_map : Shape → Bool
    has_no_map (name n) = r n
    has_no_map (option s) = has_no_map s
    has_no_map (seq s) = has_no_map s
    has_no_map (map k v) = false
    has_no_map (tuple ss) = have_no_map ss
    has_no_map (array s n) = has_no_map s
    has_no_map _ = true

    pub have_no_map : Shapes → Bool
    have_no_map no_shapes = true
    have_no_map (shape s ss) = has_no_map s && have_no_map ss

  -- the contents of a container, in the same sense
  abbrev pub content_has_no_map : Content → Bool
  content_has_no_map (of s) = has_no_map s
  content_has_no_map (one_of cs) = list_all (λ c. has_no_map (payload_shape c.1.1)) cs
  content_has_no_map nothing = true

-- no map can be reached from the container `n` while at most `d` containers are open, including this one
abbrev pub named_reaches_no_map : Entries → ℕ → List ℕ → Bool
named_reaches_no_map registry zero n = true
named_reaches_no_map registry (suc d) n = content_has_no_map (named_reaches_no_map registry d) (content_at n registry)

-- no map can be reached from the format while at most `d` containers are open, directly or through containers
abbrev pub reaches_no_map : Entries → ℕ → Shape → Bool
reaches_no_map registry d s = has_no_map (named_reaches_no_map registry d) s
