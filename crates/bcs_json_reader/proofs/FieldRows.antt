-- The fields of a struct from one on, with the members that are left.
use Rattle.bcs_json_reader.proofs.Prelude.{◌≡◌, ◌∙◌, ◌++◌, ℕ, List, [], ◌∷◌, Ok, Some, map, string_bytes, ap, sym, Data, Members, no_members, get_member, shape_of, field_of, Format, Named, Tree, Trees, tree_of, items_trees, Value, without, Read, follow, read_shape, read_member, read_fields}
use Rattle.bcs_json_reader.proofs.Rows.{joined, joined-none, row_more}

module _ (named : List ℕ → Data → Read Tree) (x : Named Format) (fs gs : List (Named Format)) (here : gs ≡ x ∷ fs) (ms : Members) (vs : List Value) where
  abbrev so_far : List (Named Format) → Read Trees
  so_far hs = follow (read_fields named (map field_of hs) ms) (λ ts. Ok (joined vs ts))

  -- the field's member was read and removed
  pub field_more : (rest : Members) (m : Data) (v : Value) → get_member (string_bytes x.name) ms ≡ Some m → rest ≡ without (string_bytes x.name) ms
      → read_shape named (shape_of x.value) m ≡ Ok (tree_of v)
      → so_far gs ≡ follow (read_fields named (map field_of fs) rest) (λ ts. Ok (joined (vs ++ v ∷ []) ts))
  field_more rest m v found left h =
      ap so_far here
      ∙ row_more vs v (read_member (read_shape named (shape_of x.value)) (get_member (string_bytes x.name) ms)) (read_fields named (map field_of fs) (without (string_bytes x.name) ms))
      (ap (read_member (read_shape named (shape_of x.value))) found ∙ h)
      ∙ ap (λ qs. follow (read_fields named (map field_of fs) qs) (λ ts. Ok (joined (vs ++ v ∷ []) ts))) (sym left)

-- after all fields, no member is left, or one is
module _ (named : List ℕ → Data → Read Tree) (gs : List (Named Format)) (done : gs ≡ []) (vs : List Value) where
  pub fields_done : (ms : Members) → ms ≡ no_members → follow (read_fields named (map field_of gs) ms) (λ ts. Ok (joined vs ts)) ≡ Ok (items_trees vs)
  fields_done ms none =
      ap (λ hs. follow (read_fields named (map field_of hs) ms) (λ ts. Ok (joined vs ts))) done
      ∙ ap (λ qs. follow (read_fields named [] qs) (λ ts. Ok (joined vs ts))) none ∙ ap Ok (joined-none vs)
