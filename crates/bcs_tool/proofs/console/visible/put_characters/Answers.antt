use Rattle.bcs_tool.proofs.Prelude.{◌≡◌, ◌∙◌, ◌++◌, ℕ, List, [], IsUtf8, ap, chars, flat_map, rules, subst, sym, chars_rest, IsUtf8-past_char, Took, Took-nothing, Took-then, PutFront, visible_char, visible}
use Rattle.bcs_tool.proofs.EndingLemmas.{front_of_more}
use Rattle.bcs_tool.proofs.Showing.{all_put, front_then, left_visible, one_more}
use Rattle.bcs_tool.proofs.console.visible.put_characters.Goals as goal

pub loop-character-init : goal.loop-character-init
loop-character-init g c =
    let whole : chars_rest c.into_iter-character-iterator.result ≡ c.args.text.now = search rules in (
      subst IsUtf8 (sym whole) c.utf8.text,
      (
        [],
        Took-nothing g.E.ByteSink.taken g.E.ByteSink.is_failed c.args.errors.now,
        ap (λ (bs : List ℕ). flat_map (visible_char c.args.keeps_lines) (chars bs)) whole ∙ left_visible c.args.keeps_lines c.args.text.now,
      ),
    )

pub loop-character-preserved : goal.loop-character-preserved
loop-character-preserved g c =
    let keeps = c.args.keeps_lines in
    let before = chars_rest c.loop-character.character-iterator in
    let after = chars_rest c.next.new.self in
    let utf8 = c.loop-character.invariant.0 in
    let done = c.loop-character.invariant.1.0 in
    let begins = c.in-Some.ensures.steps.0 in (
      IsUtf8-past_char before after c.in-Some.character utf8 begins,
      (
        done ++ visible_char keeps c.in-Some.character,
        Took-then g.E.ByteSink.taken g.E.ByteSink.is_failed c.args.errors.now c.loop-character.errors c.put_character.new.errors done (visible_char keeps c.in-Some.character)
            c.loop-character.invariant.1.1 c.in_ok-put_character.ensures.whole,
        one_more keeps c.args.text.now done before after c.in-Some.character utf8 begins c.loop-character.invariant.1.2,
      ),
    )

pub returns-in_err-put_character-clause-part : goal.returns-in_err-put_character-clause-part
returns-in_err-put_character-clause-part g c =
    let keeps = c.args.keeps_lines in
    let before = chars_rest c.loop-character.character-iterator in
    let after = chars_rest c.next.new.self in
    let done = c.loop-character.invariant.1.0 in
    let P : List ℕ → Type 0 = λ text. PutFront g.E.ByteSink.taken g.E.ByteSink.is_failed c.args.errors.now c.put_character.new.errors text in
    let whole = one_more keeps c.args.text.now done before after c.in-Some.character c.loop-character.invariant.0 c.in-Some.ensures.steps.0 c.loop-character.invariant.1.2 in
    let front : PutFront g.E.ByteSink.taken g.E.ByteSink.is_failed c.args.errors.now c.put_character.new.errors (visible keeps c.args.text.now) =
    subst P whole
    (front_of_more g.E.ByteSink.taken g.E.ByteSink.is_failed _ _ (done ++ visible_char keeps c.in-Some.character) (flat_map (visible_char keeps) (chars after))
    (front_then g.E.ByteSink.taken g.E.ByteSink.is_failed _ c.loop-character.errors _ done (visible_char keeps c.in-Some.character) c.loop-character.invariant.1.1 c.in_err-put_character.ensures.part)) in
    search rules

pub returns-clause-whole : goal.returns-clause-whole
returns-clause-whole g c =
    let P : List ℕ → Type 0 = λ text. Took g.E.ByteSink.taken g.E.ByteSink.is_failed c.args.errors.now c.loop-character.errors text in
    subst P
    (all_put c.args.keeps_lines c.args.text.now c.loop-character.invariant.1.0 (chars_rest c.loop-character.character-iterator) c.in-None.ensures.steps.0.0 c.loop-character.invariant.1.2)
    c.loop-character.invariant.1.1
