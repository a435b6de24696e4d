use Rattle.bcs_json_passing.proofs.Prelude.{◌≡◌, ◌∙◌, Some, false, map, string_bytes, list_any, bytes_eq, sym, arith, read_key, read_key-shorter}
use Rattle.bcs_json_passing.proofs.Turns.{passed_shorter}
use Rattle.bcs_json_passing.proofs.OtherMembers.{others_none, others_next, others_all}
use Rattle.bcs_json_passing.proofs.others.pass_others.Goals as goal

pub members-init : goal.members-init
members-init c = others_none (map (λ f. string_bytes f.name) c.args.known.now) c.args.depth c.args.reader.now

pub members-smaller : goal.members-smaller
members-smaller c =
    let l = c.members in
    let name = c.in-Some.name.now in
    let key : read_key l.reader ≡ Some (Some name, c.next_member.new.reader) = grind arith in
    let first = read_key-shorter l.reader (Some name) c.next_member.new.reader key in
    let second = passed_shorter c.args.depth c.next_member.new.reader c.pass_value.new.reader c.in_ok-pass_value.ensures.ok in
    omega (arith, first, second)

pub members-preserved : goal.members-preserved
members-preserved c =
    let l = c.members in
    let name = c.in-Some.name.now in
    let known = map (λ f. string_bytes f.name) c.args.known.now in
    let key : read_key l.reader ≡ Some (Some name, c.next_member.new.reader) = grind arith in
    let new : list_any (bytes_eq name) known ≡ false = sym c.is_known.ensures ∙ c.if-is_known.false in
    others_next known c.args.depth c.args.reader.now l.reader c.next_member.new.reader c.pass_value.new.reader name new l.invariant key c.in_ok-pass_value.ensures.ok

pub returns-clause-ok : goal.returns-clause-ok
returns-clause-ok c = others_all (map (λ f. string_bytes f.name) c.args.known.now) c.args.depth c.args.reader.now c.members.reader c.next_member.new.reader c.members.invariant (grind arith)
