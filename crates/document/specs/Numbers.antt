-- The numbers that go over the wire as a status, and those with which a call refuses.
use Rattle.std.specs.Prelude.{Bool, false, ◌||◌, List, [], ◌∷◌, ℕ, eqb, leb}

abbrev pub is_in : ℕ → List ℕ → Bool
is_in x [] = false
is_in x (y ∷ ys) = eqb x y || is_in x ys

-- "A data part holds at most 64 bytes, either way."
abbrev pub most_data : ℕ
most_data = 64

-- "The buffer lent for an answer holds at least 132 bytes: start, status, and 65 bytes that may all be doubled."
abbrev pub answer_room : ℕ
answer_room = 132

-- "A success not named otherwise is 0x00"
abbrev pub done : ℕ
done = 0x00

-- "0xC1: running answers 0x01"
abbrev pub recorder_runs : ℕ
recorder_runs = 0x01

-- "0xC2: stopped answers 0x02"
abbrev pub recorder_stopped : ℕ
recorder_stopped = 0x02

-- "the command is not one of those below"
abbrev pub not_served : ℕ
not_served = 0x81

-- "the sum is not 0 modulo 256"
abbrev pub sum_wrong : ℕ
sum_wrong = 0x82

-- "the length byte is above 64"
abbrev pub message_too_long : ℕ
message_too_long = 0x83

-- "the answer's data would exceed 64 bytes"
abbrev pub answer_too_long : ℕ
answer_too_long = 0x84

-- "a data length that is not the one its fields give .., a trigger mode above 2, or .. a sign field above 1"
abbrev pub layout_wrong : ℕ
layout_wrong = 0x85

-- "a size of 0; a variable count of 0 or above 8; .."
abbrev pub size_wrong : ℕ
size_wrong = 0x86

-- "recorder setup or buffer query while the recorder runs"
abbrev pub busy : ℕ
busy = 0x87

-- "with no accepted recorder setup since reset; .. with no accepted scope setup"
abbrev pub not_set_up : ℕ
not_set_up = 0x88

-- "an address range not wholly where that command may go"
abbrev pub range_wrong : ℕ
range_wrong = 0x89

-- "00 to 02 and 81 to 89"
abbrev pub is_status : ℕ → Bool
is_status s = leb s recorder_stopped || is_in s errors
  where
    errors : List ℕ
    errors = not_served ∷ sum_wrong ∷ message_too_long ∷ answer_too_long ∷ layout_wrong ∷ size_wrong ∷ busy ∷ not_set_up ∷ range_wrong ∷ []

-- "A status with its top bit set"
abbrev pub is_error : ℕ → Bool
is_error s = leb 0x80 s

-- a call that does not refuse
abbrev pub taken : ℕ
taken = 0

-- "1 a state outside the bounds listed in docs/"
abbrev pub state_refused : ℕ
state_refused = 1

-- "2 memory of another length"
abbrev pub memory_refused : ℕ
memory_refused = 2

-- "3 a lent output buffer too short"
abbrev pub room_refused : ℕ
room_refused = 3

-- "4 a message that can't be formed"
abbrev pub form_refused : ℕ
form_refused = 4

-- "5 an expected length above 64"
abbrev pub expected_refused : ℕ
expected_refused = 5

-- "6 a finished answer whose sum is wrong"
abbrev pub sum_refused : ℕ
sum_refused = 6

-- "call number 7 for a result above 0xFD or with no collected command pending, after 6" (2026-01)
abbrev pub result_refused : ℕ
result_refused = 7

-- "call number 8 for a bad list, nothing registered, after 7" (2026-03)
abbrev pub list_refused : ℕ
list_refused = 8

-- "9 for an own station outside 1 to 247, after 8" (2026-07)
abbrev pub station_refused : ℕ
station_refused = 9
