use Rattle.bcs_json_reader.proofs.Prelude.{rules, read_hex}
use Rattle.bcs_json_reader.proofs.hexadecimal.read_hex.Goals as goal

pub returns-in-Err : goal.returns-in-Err
unfolding read_hex
returns-in-Err c = search rules
