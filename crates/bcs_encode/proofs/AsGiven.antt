-- A value whose maps were written as given, with ascending keys, is its own canonical form.
use Rattle.std.proofs.Common.{◌≡◌, ◌∙◌, ℕ, List, [], ◌++◌, Ok, true, ap, subst, sym}
use Rattle.bcs_registry_model.specs.Container.{Entries, of}
use Rattle.bcs_registry_model.specs.Shape.{Shape}
use Rattle.bcs_value_model.specs.Limits.{Bounds}
use Rattle.bcs_value_model.specs.Tree.{Tree}
use Rattle.bcs_encode_spec.proofs.FormLaws.{plain_is_prefix_free}
use Rattle.bcs_encode_spec.specs.Encodes.{Encodes, IsForm}
use Rattle.bcs_encode_spec.specs.Plain.{plain}
use Rattle.bcs_encode_spec.specs.Refused.{IsSoundBesidesKeys}
use Rattle.bcs_encode_spec.specs.Sound.{IsSound}
use Rattle.bcs_encode_impl.specs.Appends.{Appends, Gives, is_complete}
use Rattle.bcs_encode_impl.specs.Writing.{written}
use Rattle.bcs_encode_impl.specs.declared.output.Output.{Output}
use Rattle.bcs_encode_impl.specs.declared.output.Extent.TheVariants.{Rising}
use Rattle.bcs_encode_impl.proofs.AppendsLaws.{is_whole_told, whole_written}
use Rattle.bcs_encode.proofs.Outcomes.{written_encodes}

-- if the bytes of the tree as given are its encoding, it is its own canonical form
own_form : (registry : Entries) (limits : Bounds) (s : Shape) (t : Tree) (b : List ℕ) → Encodes registry limits s t b → plain registry t (of s) ≡ b → IsForm registry (of s) t t
own_form registry limits s t b e same =
    let is : t ≡ e.form = (plain_is_prefix_free registry (of s) t e.form [] [] e.sound.fit e.is_form.fit (ap (λ (c : List ℕ). c ++ []) (same ∙ sym e.bytes))).0 in
    subst (λ (c : Tree). IsForm registry (of s) t c) (sym is) e.is_form

module _ (registry : Entries) (limits : Bounds) (s : Shape) (t : Tree) (old new : Output) (sound : IsSoundBesidesKeys registry limits s t) (none : old.bytes.items ≡ []) (rising : old.extent ≡ Rising)
    (appended : Appends old new (written registry t (of s))) (given : Gives old new (plain registry t (of s))) (whole : is_complete new.extent ≡ true) where
  encodes : Encodes registry limits s t new.bytes.items
  encodes =
      written_encodes registry limits s t new.bytes.items sound
      (ap (λ (b : List ℕ). written registry t (of s) b) (sym none) ∙ whole_written old new (written registry t (of s)) appended whole)

  pub rising_sound : IsSound registry limits s t
  rising_sound = encodes.sound

  pub rising_form : IsForm registry (of s) t t
  rising_form =
      let still : new.extent ≡ Rising = ((appended (is_whole_told new whole)).1.1 whole).0 ∙ rising in
      own_form registry limits s t new.bytes.items encodes (sym ((given still).1 ∙ ap (λ (b : List ℕ). b ++ plain registry t (of s)) none))
