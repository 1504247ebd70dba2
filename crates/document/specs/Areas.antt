-- "The target's memory is lent at each call and is exactly 16,384 bytes. Address a means byte a."
use Rattle.std.specs.Prelude.{Bool, List, ℕ, ◌+◌, take, drop, leb}

-- "0 to 8,191 variables": the first byte behind them
abbrev pub variables_end : ℕ
variables_end = 8192

-- "8,192 to 12,287 calibration": the first byte behind it, below which all that is kept there ends, registered tables too
abbrev pub calibration_end : ℕ
calibration_end = 12288

-- "12,288 to 16,383 recorder buffer": where it begins
abbrev pub buffer_begin : ℕ
buffer_begin = 12288

-- "exactly 16,384 bytes"
abbrev pub memory_end : ℕ
memory_end = 16384

-- "Recorded variables and trigger must end at or below 12,288."
abbrev pub recorded_end : ℕ
recorded_end = 12288

-- "Read over the port": all three areas
abbrev pub may_be_read : ℕ → ℕ → Bool
may_be_read address size = leb (address + size) memory_end

abbrev pub may_be_recorded : ℕ → ℕ → Bool
may_be_recorded address size = leb (address + size) recorded_end

-- the bytes of a range
abbrev pub bytes_at : List ℕ → ℕ → ℕ → List ℕ
bytes_at memory address size = take size (drop address memory)
