-- The shape of each `Format`.
use Rattle.bcs_registry_model.proofs.Prelude.{◌≡◌, ℕ, Box, Vec, Global, ap, ◌∙◌, rules, shape_of, formats_shapes}
use Rattle.bcs_registry_model.specs.Shape as shape
use Rattle.bcs_registry_model.specs.declared.format.Format as format

module _ (f : format.Format) where
  pub shape-Str : f ≡ format.Str → shape_of f ≡ shape.text
  shape-Str h = ap shape_of h ∙ search (rules, format.the_lemmas)

  pub shape-Bytes : f ≡ format.Bytes → shape_of f ≡ shape.bytes
  shape-Bytes h = ap shape_of h ∙ search (rules, format.the_lemmas)

  pub shape-Seq : (o : Box format.Format Global) → f ≡ format.Seq o → shape_of f ≡ shape.seq (shape_of o.value)
  shape-Seq o h = ap shape_of h ∙ search (rules, format.the_lemmas)

  pub shape-Map : (k v : Box format.Format Global) → f ≡ format.Map k v → shape_of f ≡ shape.map (shape_of k.value) (shape_of v.value)
  shape-Map k v h = ap shape_of h ∙ search (rules, format.the_lemmas)

  pub shape-Tuple : (fs : Vec format.Format Global) → f ≡ format.Tuple fs → shape_of f ≡ shape.tuple (formats_shapes fs.items)
  shape-Tuple fs h = ap shape_of h ∙ search (rules, format.the_lemmas)

  pub shape-TupleArray : (o : Box format.Format Global) (n : ℕ) → f ≡ format.TupleArray o n → shape_of f ≡ shape.array (shape_of o.value) n
  shape-TupleArray o n h = ap shape_of h ∙ search (rules, format.the_lemmas)
