use Rattle.bcs_registry_json.proofs.Prelude.{◌≡◌, ◌∙◌, [], ◌∷◌, ap, arith, refl, rules, sym, tokens, Token, entries_of, shown_registry}
use Rattle.bcs_registry_json.proofs.OneByOne.{text_spelled}
use Rattle.bcs_registry_json.proofs.one_by_one.containers_one_by_one.Goals as goal

pub returns : goal.returns
returns c =
    let registry = entries_of c.in_ok-containers.containers.entries in
    let begins : tokens c.in-Ok.text.now ≡ Token.begin_object ∷ c.next.new.self = grind arith in
    let none : c.next_containers.new.reader ≡ [] = search rules in
    let utf8 = c.in-Ok.ensures.cases in
    let text : tokens c.args.text.now ≡ Token.begin_object ∷ c.next.new.self = ap tokens (sym utf8.0) ∙ begins in
    record {
      ok = (
        shown_registry registry,
        (utf8.1, text_spelled c.args.text.now c.next.new.self c.next_containers.new.reader registry text c.in_ok-containers.ensures.is none),
        record { is = refl; orderly = c.in_ok-containers.ensures.orderly },
      );
    }
