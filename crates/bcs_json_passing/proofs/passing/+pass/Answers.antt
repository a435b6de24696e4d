use Rattle.bcs_json_passing.proofs.Prelude.{◌≡◌, Some, None, length, refl, ap, subst, arith, after_end_array, read_key, read_key-shorter, token_of, Token, string, boolean, null, IsPassed}
use Rattle.bcs_json_passing.proofs.Turns.{ok_on, passed_shorter, alone_passed, array_passed, object_passed, items_none, items_next, items_all, members_none, members_next, members_all}
use Rattle.bcs_json_passing.proofs.passing.+pass.Goals as goal

pub pass_items-items-init : goal.pass_items-items-init
pass_items-items-init t c = items_none c.args.depth c.args.reader.now

pub pass_items-items-smaller : goal.pass_items-items-smaller
pass_items-items-smaller t c =
    let going : (after_end_array c.items.reader ≡ None) × (c.take_end_array.new.self ≡ c.items.reader) = grind arith in
    let less = passed_shorter c.args.depth c.take_end_array.new.self c.pass_value.new.reader c.in_ok-pass_value.ensures.ok in
    let same = ap length going.1 in
    omega (arith, less, same)

pub pass_items-items-preserved : goal.pass_items-items-preserved
pass_items-items-preserved t c =
    let l = c.items in
    let going : (after_end_array l.reader ≡ None) × (c.take_end_array.new.self ≡ l.reader) = grind arith in
    items_next c.args.depth c.args.reader.now l.reader c.pass_value.new.reader l.count c.in_ok-count.count (omega (arith, c.in_ok-count.ensures.ok)) l.invariant
    (subst (λ ts. IsPassed c.args.depth ts c.pass_value.new.reader) going.1 c.in_ok-pass_value.ensures.ok)

pub pass_items-returns-clause-ok : goal.pass_items-returns-clause-ok
pass_items-returns-clause-ok t c = items_all c.args.depth c.args.reader.now c.items.reader c.take_end_array.new.self c.items.count c.items.invariant (grind arith)

pub pass_members-members-init : goal.pass_members-members-init
pass_members-members-init t c = members_none c.args.depth c.args.reader.now

pub pass_members-members-smaller : goal.pass_members-members-smaller
pass_members-members-smaller t c =
    let l = c.members in
    let name = c.in-Some.field-0.now in
    let key : read_key l.reader ≡ Some (Some name, c.next_member.new.reader) = grind arith in
    let first = read_key-shorter l.reader (Some name) c.next_member.new.reader key in
    let second = passed_shorter c.args.depth c.next_member.new.reader c.pass_value.new.reader c.in_ok-pass_value.ensures.ok in
    omega (arith, first, second)

pub pass_members-members-preserved : goal.pass_members-members-preserved
pass_members-members-preserved t c =
    let l = c.members in
    let name = c.in-Some.field-0.now in
    let key : read_key l.reader ≡ Some (Some name, c.next_member.new.reader) = grind arith in
    members_next c.args.depth c.args.reader.now l.reader c.next_member.new.reader c.pass_value.new.reader name l.invariant key c.in_ok-pass_value.ensures.ok

pub pass_members-returns-clause-ok : goal.pass_members-returns-clause-ok
pass_members-returns-clause-ok t c = members_all c.args.depth c.args.reader.now c.members.reader c.next_member.new.reader c.members.invariant (grind arith)

pub pass_rest-returns-in-Null-clause-ok : goal.pass_rest-returns-in-Null-clause-ok
pass_rest-returns-in-Null-clause-ok t c = alone_passed (token_of c.args.token) Token.null c.args.depth c.args.reader.now null (ap token_of c.in-Null.is) refl

pub pass_rest-returns-in-Bool-clause-ok : goal.pass_rest-returns-in-Bool-clause-ok
pass_rest-returns-in-Bool-clause-ok t c = alone_passed (token_of c.args.token) (Token.boolean c.in-Bool.field-0) c.args.depth c.args.reader.now (boolean c.in-Bool.field-0) (ap token_of c.in-Bool.is) refl

pub pass_rest-returns-in-String-clause-ok : goal.pass_rest-returns-in-String-clause-ok
pass_rest-returns-in-String-clause-ok t c = alone_passed (token_of c.args.token) (Token.string c.in-String.field-0.now) c.args.depth c.args.reader.now (string c.in-String.field-0.now) (ap token_of c.in-String.is) refl

pub pass_rest-returns-in-Number-clause-ok : goal.pass_rest-returns-in-Number-clause-ok
pass_rest-returns-in-Number-clause-ok t c =
    ok_on _ _ c.pass_number.result (λ h. alone_passed (token_of c.args.token) (Token.number c.in-Number.text.now) c.args.depth c.args.reader.now h.0 (ap token_of c.in-Number.is) h.1) c.pass_number.ensures.ok

pub pass_rest-returns-in_ok-pass_items-in-BeginArray-clause-ok :
    goal.pass_rest-returns-in_ok-pass_items-in-BeginArray-clause-ok
pass_rest-returns-in_ok-pass_items-in-BeginArray-clause-ok t c =
    array_passed (token_of c.args.token) c.args.depth c.in_ok-inner-in-BeginArray.inner c.args.reader.now c.pass_items.new.reader c.in_ok-pass_items-in-BeginArray.field-0
    (ap token_of c.in-BeginArray.is) c.in_ok-inner-in-BeginArray.ensures.ok c.in_ok-pass_items-in-BeginArray.ensures.ok

pub pass_rest-returns-in_ok-inner-in-BeginObject-clause-ok :
    goal.pass_rest-returns-in_ok-inner-in-BeginObject-clause-ok
pass_rest-returns-in_ok-inner-in-BeginObject-clause-ok t c =
    ok_on _ _ c.pass_members.result (λ h. object_passed (token_of c.args.token) c.args.depth c.in_ok-inner-in-BeginObject.inner c.args.reader.now c.pass_members.new.reader (ap token_of c.in-BeginObject.is)
    c.in_ok-inner-in-BeginObject.ensures.ok h) c.pass_members.ensures.ok
