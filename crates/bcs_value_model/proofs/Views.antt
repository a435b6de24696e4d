-- The tree of each kind of value.
use Rattle.bcs_value_model.proofs.Prelude.{◌≡◌, ℕ, ℤ, String, string_bytes, Vec, Box, Global, rules, unsigned, signed, text, bytes, present, items, variant, pairs, tree_of, items_trees, entries_pairs, Value, Unsigned, Signed, Text, Present, Items, Variant, the_lemmas}
use Rattle.bcs_value_model.specs.declared.value.Value.{Bytes, Pairs}

pub tree_of_unsigned : (n : ℕ) → tree_of (Unsigned n) ≡ unsigned n
tree_of_unsigned n = search (rules, the_lemmas)

pub tree_of_signed : (z : ℤ) → tree_of (Signed z) ≡ signed z
tree_of_signed z = search (rules, the_lemmas)

pub tree_of_text : (s : String Global) → tree_of (Text s) ≡ text (string_bytes s)
tree_of_text s = search (rules, the_lemmas)

pub tree_of_bytes : (b : Vec ℕ Global) → tree_of (Bytes b) ≡ bytes b.items
tree_of_bytes b = search (rules, the_lemmas)

pub tree_of_present : (inner : Box Value Global) → tree_of (Present inner) ≡ present (tree_of inner.value)
tree_of_present inner = search (rules, the_lemmas)

pub tree_of_items : (vs : Vec Value Global) → tree_of (Items vs) ≡ items (items_trees vs.items)
tree_of_items vs = search (rules, the_lemmas)

pub tree_of_variant : (n : ℕ) (inner : Box Value Global) → tree_of (Variant n inner) ≡ variant n (tree_of inner.value)
tree_of_variant n inner = search (rules, the_lemmas)

pub tree_of_pairs : (ps : Vec (Value × Value) Global) → tree_of (Pairs ps) ≡ pairs (entries_pairs ps.items)
tree_of_pairs ps = search (rules, the_lemmas)
