-- The parts of a `ReadSource`, for contracts.
use Rattle.std.specs.Prelude.{ℕ, ◌-◌, ◌^◌, Bool}
use Rattle.bcs_io.specs.declared.read_source.ReadSource.{ReadSource}

abbrev pub reader_of : {R : Type 0} → ReadSource R → R
reader_of source = source.reader

-- the number of bytes that it can still return
abbrev pub allowance_of : {R : Type 0} → ReadSource R → ℕ
allowance_of source = 2 ^ 64 - 1 - source.given

-- `source.failed()`
abbrev pub failed : {R : Type 0} → ReadSource R → Bool
failed source = source.has_failed
