-- A frame of the second port (2026-07), "whole frames marked off by the gate": its fields, and when it gets silence.
use Rattle.std.specs.Prelude.{Bool, not, ◌&&◌, ◌||◌, List, ℕ, ◌+◌, ◌*◌, eqb, ltb, leb, length, get_or}
use Rattle.document.specs.CheckSum.{is_check_sum_right}

-- "RTU framing": the station, the function, the fields of the function, the check sum
abbrev pub station_in : List ℕ → ℕ
station_in frame = get_or frame 0 0

abbrev pub function_byte : List ℕ → ℕ
function_byte frame = get_or frame 1 0

-- a number takes two bytes, high byte first
abbrev pub word_in : List ℕ → ℕ → ℕ
word_in frame place = 256 * get_or frame place 0 + get_or frame (place + 1) 0

-- every function begins with the register where it begins
abbrev pub first_in : List ℕ → ℕ
first_in frame = word_in frame 2

-- and the reading and writing of several goes on with their number
abbrev pub quantity_in : List ℕ → ℕ
quantity_in frame = word_in frame 4

abbrev pub byte_count_in : List ℕ → ℕ
byte_count_in frame = get_or frame 6 0

-- not "an own station outside 1 to 247"
abbrev pub is_station : ℕ → Bool
is_station station = leb 1 station && leb station 247

-- "a broadcast"
abbrev pub broadcast : ℕ
broadcast = 0

-- "A frame below 4 or above 256 bytes, a wrong check sum, another station, a broadcast or a function byte above 127 gets silence"
unfoldable pub is_silenced : ℕ → List ℕ → Bool
is_silenced station frame =
    ltb (length frame) 4
    || ltb 256 (length frame)
    || not (is_check_sum_right frame)
    || not (eqb (station_in frame) station)
    || eqb (station_in frame) broadcast
    || ltb 127 (function_byte frame)
