-- An injective encoding of shapes as trees of numbers, which the model of `Registry` requires.
use Rattle.std.specs.Prelude.{◌≡◌, ℕ, zero, suc, List, [], ◌∷◌, refl}
use Rattle.std.proofs.Common.{sym, ap, ◌∙◌, unwrap_or}
use base.Stored.{Coded, Gv, gnil, gnum, gcons, num}
use Rattle.bcs_registry_model.specs.Shape.{Shape, Shapes, unit, name, option, seq, map, tuple, array, no_shapes, shape}
use Rattle.bcs_registry_model.specs.Words.{format_named, word_of}
use Rattle.bcs_registry_model.proofs.WordsBack.{word_named}

abbrev word : List ℕ → Gv
word [] = gnil
word (c ∷ cs) = gcons (gnum c) (word cs)

abbrev unword : Gv → List ℕ
unword gnil = []
unword (gnum n) = []
unword (gcons c cs) = num c ∷ unword cs

unword-word : (s : List ℕ) → unword (word s) ≡ s
unword-word [] = refl
unword-word (c ∷ cs) = ap (λ r. c ∷ r) (unword-word cs)

abbrev node : ℕ → Gv → Gv → Gv
node k a b = gcons (gnum k) (gcons a b)

abbrev mutual
  code : Shape → Gv
  code (name n) = node 1 (word n) gnil
  code (option s) = node 2 (code s) gnil
  code (seq s) = node 3 (code s) gnil
  code (map k v) = node 4 (code k) (code v)
  code (tuple ss) = node 5 (codes ss) gnil
  code (array s n) = node 6 (code s) (gnum n)
  -- a format without parts
  code s = node 0 (word (word_of s)) gnil

  codes : Shapes → Gv
  codes no_shapes = gnil
  codes (shape s ss) = gcons (code s) (codes ss)

-- a shape of kind k: a and b are its two encoded parts; s, t and ss are these parts decoded as shapes and as a list
abbrev make : ℕ → Gv → Gv → Shape → Shape → Shapes → Shape
make zero a b s t ss = unwrap_or (format_named (unword a)) unit
make (suc zero) a b s t ss = name (unword a)
make (suc (suc zero)) a b s t ss = option s
make (suc (suc (suc zero))) a b s t ss = seq s
make (suc (suc (suc (suc zero)))) a b s t ss = map s t
make (suc (suc (suc (suc (suc zero))))) a b s t ss = tuple ss
make (suc (suc (suc (suc (suc (suc zero)))))) a b s t ss = array s (num b)
make _ a b s t ss = unit

abbrev mutual
  decode : Gv → Shape
  decode (gcons k (gcons a b)) = make (num k) a b (decode a) (decode b) (decodes a)
  decode _ = unit

  decodes : Gv → Shapes
  decodes (gcons s ss) = shape (decode s) (decodes ss)
  decodes _ = no_shapes

mutual
  back : (s : Shape) → decode (code s) ≡ s
  back (name n) = ap name (unword-word n)
  back (option s) = ap option (back s)
  back (seq s) = ap seq (back s)
  back (map k v) = ap (λ s. map s (decode (code v))) (back k) ∙ ap (λ s. map k s) (back v)
  back (tuple ss) = ap tuple (backs ss)
  back (array s n) = ap (λ t. array t n) (back s)
  back s = ap (λ w. unwrap_or (format_named w) unit) (unword-word (word_of s)) ∙ ap (λ o. unwrap_or o unit) (word_named s refl)

  backs : (ss : Shapes) → decodes (codes ss) ≡ ss
  backs no_shapes = refl
  backs (shape s ss) = ap (λ t. shape t (decodes (codes ss))) (back s) ∙ ap (λ r. shape s r) (backs ss)

pub shape_coded : Coded Shape
shape_coded = record { code = code; inj = λ x y e. sym (back x) ∙ ap decode e ∙ back y }

pub shapes_coded : Coded Shapes
shapes_coded = record { code = codes; inj = λ x y e. sym (backs x) ∙ ap decodes e ∙ backs y }
