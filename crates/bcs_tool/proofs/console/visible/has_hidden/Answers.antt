use Rattle.bcs_tool.proofs.Prelude.{◌≡◌, ◌∙◌, ◌++◌, ℕ, List, [], IsUtf8, ap, append_assoc, chars, flat_map, rules, subst, sym, chars_rest, IsUtf8-past_char, visible_char}
use Rattle.bcs_tool.proofs.Showing.{left_visible, none_hidden, one_more, shown_plain}
use Rattle.bcs_tool.proofs.console.visible.has_hidden.Goals as goal

pub loop-character-init : goal.loop-character-init
loop-character-init c =
    let whole : chars_rest c.into_iter-character-iterator.result ≡ c.args.text.now = search rules in (
      subst IsUtf8 (sym whole) c.utf8.text,
      ([], whole, ap (λ (bs : List ℕ). flat_map (visible_char c.args.keeps_lines) (chars bs)) whole ∙ left_visible c.args.keeps_lines c.args.text.now),
    )

pub loop-character-preserved : goal.loop-character-preserved
loop-character-preserved c =
    let keeps = c.args.keeps_lines in
    let before = chars_rest c.loop-character.character-iterator in
    let after = chars_rest c.next.new.self in
    let utf8 = c.loop-character.invariant.0 in
    let done = c.loop-character.invariant.1.0 in
    let begins = c.in-Some.ensures.steps.0 in
    let plain = shown_plain keeps c.in-Some.character (sym c.is_hidden.ensures ∙ c.if-is_hidden.false) in (
      IsUtf8-past_char before after c.in-Some.character utf8 begins,
      (
        done ++ visible_char keeps c.in-Some.character,
        append_assoc done _ after ∙ ap (λ (bs : List ℕ). done ++ (bs ++ after)) plain ∙ ap (λ (bs : List ℕ). done ++ bs) (sym begins) ∙ c.loop-character.invariant.1.1,
        one_more keeps c.args.text.now done before after c.in-Some.character utf8 begins c.loop-character.invariant.1.2,
      ),
    )

pub returns : goal.returns
returns c = λ _.
    none_hidden c.args.keeps_lines c.args.text.now c.loop-character.invariant.1.0 (chars_rest c.loop-character.character-iterator)
    c.in-None.ensures.steps.0.0 c.loop-character.invariant.1.1 c.loop-character.invariant.1.2
