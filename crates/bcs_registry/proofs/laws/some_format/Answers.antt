use Rattle.bcs_registry.proofs.SomeText.{format_written}
use Rattle.bcs_registry.proofs.laws.some_format.Goals as goal

pub returns : goal.returns
returns c = format_written
