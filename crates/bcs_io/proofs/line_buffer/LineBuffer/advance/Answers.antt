use Rattle.bcs_io.proofs.Prelude.{◌≡◌, ◌+◌, ◌≤◌, true, take, Err, sym, subst, ◌∙◌, arith, rules, take-take, HasNoLineFeed, OutOfMemory}
use Rattle.bcs_io.proofs.Ahead.{searched_front}
use Rattle.bcs_io.proofs.Searching.{plain-take}
use Rattle.bcs_io.proofs.Reading.{Reads-last, Reads-line, Reads-runs_out, Reads-then, Reads-too_long}
use Rattle.bcs_io.proofs.line_buffer.LineBuffer.advance.Goals as goal

pub loop-count-preserved : goal.loop-count-preserved
loop-count-preserved g c =
    let l = c.loop-count in
    let plain : HasNoLineFeed l.self.rest = search rules in
    let gives = c.in_ok-read_block.ensures in
    let front = searched_front l.self.rest gives.given c.read_block.new.self.rest c.rest_len-searched.result gives.rest c.rest_len-searched.ensures plain in
    record {
      within = front.0;
      plain = front.1;
      reads = Reads-then g.S.ByteSource.content g.S.ByteSource.is_failed g.S.ByteSource.allowance c.args.source.now l.source c.read_block.new.source
          c.args.self.now.rest l.self.rest c.read_block.new.self.rest c.in_ok-read_block.field-0 l.invariant.reads c.in_ok-read_block.ensures plain;
    }

pub returns-in-Some-clause-line : goal.returns-in-Some-clause-line
returns-in-Some-clause-line g c _ =
    Reads-line g.S.ByteSource.content g.S.ByteSource.is_failed g.S.ByteSource.allowance c.args.limit c.args.source.now c.loop-count.source
    c.args.self.now c.loop-count.self c.take_line.new.self c.in-Some.count c.loop-count.invariant.reads c.in-Some.ensures (omega arith) c.take_line.ensures

-- the first line feed comes after more bytes than the limit
pub returns-then-limit-count-clause-too_long : goal.returns-then-limit-count-clause-too_long
returns-then-limit-count-clause-too_long g c _ =
    let found = c.in-Some.ensures in
    let rest = c.loop-count.self.rest in
    let more : c.args.limit + 1 ≤ c.in-Some.count = omega arith in
    Reads-too_long g.S.ByteSource.content g.S.ByteSource.is_failed g.S.ByteSource.allowance c.args.limit c.args.source.now c.loop-count.source c.args.self.now c.loop-count.self
    c.loop-count.invariant.reads (omega (arith, found.inside))
    (subst HasNoLineFeed (take-take (c.args.limit + 1) c.in-Some.count rest more) (plain-take (c.args.limit + 1) (take c.in-Some.count rest) found.before))

pub returns-then-limit-searched-clause-too_long : goal.returns-then-limit-searched-clause-too_long
returns-then-limit-searched-clause-too_long g c _ =
    let plain : HasNoLineFeed c.loop-count.self.rest = search rules in
    Reads-too_long g.S.ByteSource.content g.S.ByteSource.is_failed g.S.ByteSource.allowance c.args.limit c.args.source.now c.loop-count.source c.args.self.now c.loop-count.self
    c.loop-count.invariant.reads (omega arith) (plain-take (c.args.limit + 1) c.loop-count.self.rest plain)

pub returns-in_err-read_block-clause-memory : goal.returns-in_err-read_block-clause-memory
returns-in_err-read_block-clause-memory g c is =
    let same : c.read_block.result ≡ Err OutOfMemory = search rules in
    let plain : HasNoLineFeed c.loop-count.self.rest = search rules in
    Reads-runs_out g.S.ByteSource.content g.S.ByteSource.is_failed g.S.ByteSource.allowance c.args.source.now c.loop-count.source c.read_block.new.source
    c.args.self.now c.loop-count.self c.read_block.new.self.rest c.read_block.result c.loop-count.invariant.reads c.read_block.ensures same plain

pub returns-then-branch-eq0-clause-line : goal.returns-then-branch-eq0-clause-line
returns-then-branch-eq0-clause-line g c is =
    let plain : HasNoLineFeed c.loop-count.self.rest = search rules in
    let some : c.take_rest.result ≡ true = cc in
    Reads-last g.S.ByteSource.content g.S.ByteSource.is_failed g.S.ByteSource.allowance c.args.limit c.args.source.now c.loop-count.source c.read_block.new.source
    c.args.self.now c.loop-count.self c.read_block.new.self c.take_rest.new.self c.in_ok-read_block.field-0
    c.loop-count.invariant.reads c.in_ok-read_block.ensures (search rules) plain (omega arith) c.take_rest.ensures.after (sym c.take_rest.ensures.some ∙ some)
