use Rattle.bcs_registry_json.proofs.Prelude.{◌≡◌, Some, arith, rules, string_bytes, read_key}
use Rattle.bcs_registry_json.proofs.OneByOne.{all_spelled, none_spelled, one_spelled, spelled_orderly}
use Rattle.bcs_registry_json.proofs.one_by_one.next_containers.Goals as goal

pub members-init : goal.members-init
members-init c = none_spelled c.args.reader.now c.new-containers.result.entries c.new-containers.ensures.empty c.new-containers.ensures.ordered

pub members-preserved : goal.members-preserved
members-preserved c =
    let l = c.members in
    let name = c.in-Some.name.now in
    let s = c.next_name.new.reader in
    let named : read_key l.reader ≡ Some (Some name, s) = grind arith in
    let copied : string_bytes c.in_ok-name-2.name ≡ name = search rules in
    let done = c.in_ok-container.ensures in
    one_spelled c.args.reader.now l.reader s c.next_container.new.reader l.containers.entries c.insert.new.self.entries name c.in_ok-name-2.name c.in_ok-container.container
    l.invariant named copied done.is done.shorter done.range c.in_ok-insert.ensures.entries c.insert.ensures.ordered

pub returns-clause-is : goal.returns-clause-is
returns-clause-is c = all_spelled c.args.reader.now c.members.reader c.next_name.new.reader c.members.containers.entries c.members.invariant (grind arith)

pub returns-clause-orderly : goal.returns-clause-orderly
returns-clause-orderly c = spelled_orderly c.args.reader.now c.members.reader c.members.containers.entries c.members.invariant
