-- Whether a name is in the map, and in the list of entries that represents it.
use Rattle.bcs_registry_model.proofs.Prelude.{◌≡◌, ℕ, List, String, Global, Option, Some, None, option_map, is_some, Bool, true, ◌&&◌, string_bytes, refl, sym, ap, ◌∙◌, rules, nat_cmp, slice_cmp, lookup, is_at, Shape, name, Entries, container_at, shape_of, container_of, entries_of, has_few_levels, is_known, admits, Format, TypeName, the_lemmas}
use Rattle.bcs_registry_model.specs.declared.container.Container as declared
use Rattle.bcs_registry_model.proofs.Lookup.{find-container}

is_some-map : {A B : Type 0} (f : A → B) (o : Option A) → is_some (option_map f o) ≡ is_some o
is_some-map f None = refl
is_some-map f (Some x) = refl

pub knows_name : (n : List ℕ) (es : List (String Global × declared.Container)) → is_some (lookup (is_at (λ k. slice_cmp nat_cmp n (string_bytes k))) es) ≡ is_some (container_at n (entries_of es))
knows_name n es = sym (ap is_some (find-container n es) ∙ is_some-map container_of (lookup (is_at (λ k. slice_cmp nat_cmp n (string_bytes k))) es))

shape_of-TypeName : (n : String Global) → shape_of (TypeName n) ≡ name (string_bytes n)
shape_of-TypeName n = search (rules, the_lemmas)

-- a name is known if `contains_key` returns true
pub is_known-name : (f : Format) (n : String Global) (s : List ℕ) (es : List (String Global × declared.Container)) (b : Bool) → f ≡ TypeName n → s ≡ string_bytes n
    → b ≡ is_some (container_at s (entries_of es)) → b ≡ is_known (entries_of es) (shape_of f)
is_known-name f n s es b e t h = h ∙ rw (e, t, shape_of-TypeName n) refl

-- the same for a registry that is equal to the entries
pub is_known_there : (s : Shape) (es registry : Entries) (b : Bool) → b ≡ is_known es s → es ≡ registry → b ≡ is_known registry s
is_known_there s es registry b h e = h ∙ ap (λ r. is_known r s) e

pub admits_both : (s : Shape) (registry : Entries) (b c : Bool) → b ≡ has_few_levels s → b ≡ true → c ≡ is_known registry s → c ≡ admits registry s
admits_both s registry b c h e k = k ∙ ap (λ t. t && is_known registry s) (sym e ∙ h)
