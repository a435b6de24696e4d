use Rattle.bcs_tool_command_line.proofs.Prelude.{arith, subst, sym, ℕ, ExplainsUnsignedError, HasUnsignedDigitsIfOk, ParsesUnsigned, found_of, rows_of, WritesLimit}
use Rattle.clap.specs.Words.{one_of}
use Rattle.bcs_tool_command_line.proofs.LimitLemmas.{read_limit}
use Rattle.bcs_tool_command_line.proofs.arguments.number_of.Goals as goal

pub returns : goal.returns
returns c =
    let most = c.args.standard in
    let found = found_of c.args.given.now in
    let name = c.args.option.now in
    subst (λ (n : ℕ). WritesLimit most (one_of name (rows_of found)) n) (sym c.unwrap_or.ensures)
    (read_limit (λ bs r. ParsesUnsigned 32 10 bs r × ExplainsUnsignedError 10 bs r × HasUnsignedDigitsIfOk bs r) (λ u x g. g.0)
    most (omega arith) found name c.get_one.result c.get_one.ensures.none c.get_one.ensures.value c.requires.0 c.requires.1)
