-- The parts of a `WriteSink`, for contracts.
use Rattle.std.specs.Prelude.{Bool}
use Rattle.bcs_io.specs.declared.write_sink.WriteSink.{WriteSink}

abbrev pub writer_of : {W : Type 0} → WriteSink W → W
writer_of sink = sink.writer

-- `sink.failed()`
abbrev pub failed : {W : Type 0} → WriteSink W → Bool
failed sink = sink.has_failed
