use Rattle.bcs_tool_command_line.proofs.Prelude.{◌≡◌, ◌∙◌, ◌++◌, [], ◌∷◌, ap, refl, map, option_map, unwrap_or, Bor, List, ℕ, Option, Some, None, IfOk-weaker, Text, asked_of, found_of, raw_values-rows, rows_of, ViewKind}
use Rattle.clap.specs.Words.{all_of}
use Rattle.bcs_tool_command_line.proofs.views.add_views_by.Goals as goal

abbrev by : ViewKind → Text → ViewKind × Text
by kind text = (kind, text)

-- the texts of an option, or none
texts_of : (kind : ViewKind) (o : Option (Bor (List (Bor (List ℕ))))) (none : Bor (List (Bor (List ℕ)))) (texts : Option (List Text))
    → option_map (λ s. map (λ t. t.now) s.now) o ≡ texts → none.now ≡ []
    → map (λ t. by kind t.now) (unwrap_or o none).now ≡ map (by kind) (unwrap_or texts [])
texts_of kind None none texts is empty = ap (map (λ t. by kind t.now)) empty ∙ ap (λ (o : Option (List Text)). map (by kind) (unwrap_or o [])) is
texts_of kind (Some s) none texts is empty = pairs s.now ∙ ap (λ (o : Option (List Text)). map (by kind) (unwrap_or o [])) is
  where
    pairs : (ts : List (Bor (List ℕ))) → map (λ t. by kind t.now) ts ≡ map (by kind) (map (λ t. t.now) ts)
    pairs [] = refl
    pairs (t ∷ ts) = ap (λ (xs : List (ViewKind × Text)). by kind t.now ∷ xs) (pairs ts)

pub returns : goal.returns
returns c =
    let is = c.get_strs.ensures ∙ raw_values-rows (found_of c.args.given.now) c.name.result.now in
    IfOk-weaker c.add_views.result _ _
    (λ r h. h ∙ ap (λ (xs : List (ViewKind × Text)). map asked_of c.args.views.now.items ++ xs)
    (ap (λ (s : Bor (List (Bor (List ℕ)))). map (λ t. by c.args.kind t.now) s.now) c.unwrap_or-texts.ensures
    ∙ (texts_of c.args.kind c.get_strs.result _ _ is refl
    ∙ ap (λ (name : Text). map (by c.args.kind) (unwrap_or (all_of name (rows_of (found_of c.args.given.now))) [])) c.name.ensures)))
    c.add_views.ensures
