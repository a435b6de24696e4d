use Rattle.bcs_calls.specs.NamedParts.{no_value}
use Rattle.bcs_calls.proofs.named_parts.led_path.Goals as goal

pub returns-in-Err-scan-clause-err : goal.returns-in-Err-scan-clause-err
returns-in-Err-scan-clause-err c = no_value (rw c.in-Ok-Some.field-0-is at c.in-Ok-Some.ensures.some) c.in-Err-scan.stop.reason c.in-Err-scan.stop.place c.in-Err-scan.ensures.stops c.stopped.ensures
