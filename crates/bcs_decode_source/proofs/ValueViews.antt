-- The trees of values, level by level.
use Rattle.bcs_decode_source.proofs.Prelude.{◌≡◌, ℕ, ℤ, Bool, Vec, Global, String, string_bytes, rules, tree_of, Value, the_lemmas}
use Rattle.bcs_value_model.specs.Tree as tree
use Rattle.bcs_value_model.specs.declared.value.Value as value

pub tree_unit : tree_of value.Unit ≡ tree.unit
tree_unit = search (rules, the_lemmas)

pub tree_truth : (b : Bool) → tree_of (value.Bool b) ≡ tree.truth b
tree_truth b = search (rules, the_lemmas)

pub tree_unsigned : (n : ℕ) → tree_of (value.Unsigned n) ≡ tree.unsigned n
tree_unsigned n = search (rules, the_lemmas)

pub tree_signed : (z : ℤ) → tree_of (value.Signed z) ≡ tree.signed z
tree_signed z = search (rules, the_lemmas)

pub tree_text : (s : String Global) → tree_of (value.Text s) ≡ tree.text (string_bytes s)
tree_text s = search (rules, the_lemmas)

pub tree_bytes : (v : Vec ℕ Global) → tree_of (value.Bytes v) ≡ tree.bytes v.items
tree_bytes v = search (rules, the_lemmas)

pub tree_absent : tree_of value.Absent ≡ tree.absent
tree_absent = search (rules, the_lemmas)
