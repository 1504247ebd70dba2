-- Rows for the second port (2026-07): frames with their answers and what they leave, all bytes written out, check sums too. A check
-- sum is slow to compute, so these are few: the others stand in crates/document_worked.
use Rattle.std.specs.Prelude.{cond, List, [], ◌∷◌, ◌++◌, map, ℕ, replicate}
use Prim.Native.String.{String}
use Rattle.document.specs.Hex.{hex}
use Rattle.document.specs.CheckSum.{with_check_sum, is_check_sum_right}
use Rattle.document.specs.Frames.{station_in, function_byte, word_in, first_in, quantity_in, byte_count_in, is_station, is_silenced}
use Rattle.document.specs.Modbus.{function_of, is_other, exception_to, carried_out, function_data, modbus_answer, modbus_memory, modbus_refusal, modbus_buffer}
use Rattle.document.specs.declared.Function.TheVariants.{ReadRegisters, WriteRegister, WriteRegisters, MaskRegister, Other}
use Rattle.document.specs.Gate.{fresh}
use Rattle.document.specs.Asides.Aside.{frames}
use Rattle.document.specs.Happenings.{after_all, from_reset}
use Rattle.document.specs.Happenings.Happening.{byte, aside}
use Rattle.document.specs.Blocks.{answers_on_wire}
use Rattle.document.specs.Rows.{zeros}
use Rattle.document.specs.CallRows.{Line, line, lent, below}

-- ---- the check sum: known values, as they are sent

abbrev pub summed : String → String → Line
summed bytes with_sum = line (with_check_sum (hex bytes)) (hex with_sum)

abbrev right : String → ℕ
right frame = cond (is_check_sum_right (hex frame)) 1 0

unfoldable pub check_sum_rows : List Line
check_sum_rows =
    summed "01 03 0000 0001" "01 03 0000 0001 840A"
    ∷ summed "" "FFFF"
    -- right; a flipped bit in front, in the middle, in the sum; the sum's bytes swapped
    ∷ line (map right ("01 03 0000 0001 840A" ∷ "00 03 0000 0001 840A" ∷ "01 03 0000 0101 840A" ∷ "01 03 0000 0001 850A" ∷ "01 03 0000 0001 0A84" ∷ [])) (1 ∷ 0 ∷ 0 ∷ 0 ∷ 0 ∷ [])
    ∷ []

-- ---- the fields of a frame; a number takes two bytes, high byte first

abbrev frame : List ℕ
frame = hex "11 10 1234 5678 9ABC DEF0"

unfoldable pub field_rows : List Line
field_rows =
    line (station_in frame ∷ function_byte frame ∷ first_in frame ∷ quantity_in frame ∷ byte_count_in frame ∷ []) (0x11 ∷ 0x10 ∷ 0x1234 ∷ 0x5678 ∷ 0x9A ∷ [])
    ∷ line (map (word_in frame) (hex "06 08")) (0x9ABC ∷ 0xDEF0 ∷ [])
    -- "an own station outside 1 to 247"
    ∷ line (map (λ (s : ℕ). cond (is_station s) 1 0) (0 ∷ 1 ∷ 17 ∷ 247 ∷ 248 ∷ 255 ∷ 257 ∷ [])) (hex "00 01 01 01 00 00 00")
    ∷ []

-- ---- frames for station 17 over four registers: 0x0201, 0x0403, 0x0012, 0xFFFE

abbrev pub four : List ℕ
four = hex "0102 0304 1200 FEFF"

abbrev pub answers : String → String → Line
answers frame answer = line (modbus_answer 0x11 (hex frame) four) (hex answer)

abbrev pub leaves : String → String → Line
leaves frame memory = line (modbus_memory 0x11 (hex frame) four) (hex memory)

-- neither an answer nor a change
abbrev pub silent : List ℕ → Line
silent frame = line (modbus_answer 0x11 frame four ++ modbus_memory 0x11 frame four) four

-- an exception, and no change
abbrev pub excepts : List ℕ → String → Line
excepts frame answer = line (modbus_answer 0x11 frame four ++ modbus_memory 0x11 frame four) (hex answer ++ four)

-- "A frame below 4 or above 256 bytes, a wrong check sum, another station, a broadcast or a function byte above 127"
unfoldable pub silence_rows : List Line
silence_rows =
    -- below 4 bytes; of 4 and of 256, which are not silenced; of 257
    silent []
    ∷ silent (hex "11 7F4C")
    ∷ line (map (λ (f : List ℕ). cond (is_silenced 0x11 f) 1 0) (hex "11 04 0C23" ∷ (hex "11 03" ++ replicate 252 0 ++ hex "1CCE") ∷ [])) (hex "00 00")
    ∷ silent (hex "11 03" ++ replicate 253 0 ++ hex "CFC9")
    -- a wrong check sum: functions 6, 16 and 22
    ∷ silent (hex "11 06 0001 0003 9A9A")
    ∷ silent (hex "11 10 0001 0002 04 ABCD 5678 E8FB")
    ∷ silent (hex "11 16 0002 00F2 0025 EEE3")
    -- another station, and a broadcast
    ∷ silent (hex "10 06 0001 0003 9B4A")
    ∷ silent (hex "00 06 0001 0003 99DA")
    -- a broadcast is nobody's own
    ∷ line (modbus_answer 0 (hex "00 03 0000 0001 85DB") four) []
    -- a function byte of 127, and of 128
    ∷ excepts (hex "11 7F 0000 0001 D750") "11 FF 01 A1F5"
    ∷ silent (hex "11 80 0000 0001 C344")
    -- the first and the last station; nobody's are 248 to 255
    ∷ line (modbus_answer 1 (hex "01 03 0000 0001 840A") four) (hex "01 03 02 0201 78E4")
    ∷ line (modbus_answer 247 (hex "F7 03 0000 0001 909C") four) (hex "F7 03 02 0201 B0F1")
    ∷ line (heard_by 247 ("F8 06 0001 0003 8C62" ∷ "F9 06 0001 0003 8DB3" ∷ "FA 06 0001 0003 8D80" ∷ "FB 06 0001 0003 8C51" ∷ [])) []
    ∷ line (heard_by 247 ("FC 06 0001 0003 8DE6" ∷ "FD 06 0001 0003 8C37" ∷ "FE 06 0001 0003 8C04" ∷ "FF 06 0001 0003 8DD5" ∷ [])) []
    ∷ []
  where
    heard_by : ℕ → List String → List ℕ
    heard_by station [] = []
    heard_by station (f ∷ fs) = modbus_answer station (hex f) four ++ heard_by station fs

-- ---- "Serve functions 3, 6, 16 and 22"

unfoldable pub function_rows : List Line
function_rows =
    line (others (below 128)) (hex "03 06 10 16")
    -- 3 reads, "low byte first in memory"
    ∷ answers "11 03 0001 0003 569B" "11 03 06 0403 0012 FFFE C944"
    -- 6 writes one register
    ∷ answers "11 06 0001 ABCD 643F" "11 06 0001 ABCD 643F"
    ∷ leaves "11 06 0001 ABCD 643F" "0102 CDAB 1200 FEFF"
    -- 16 writes several
    ∷ leaves "11 10 0001 0002 04 ABCD 5678 E8FA" "0102 CDAB 7856 FEFF"
    -- 22 masks one: the old 0x12 with the masks 0xF2 and 0x25 gives 0x17
    ∷ leaves "11 16 0002 00F2 0025 EEE2" "0102 0304 1700 FEFF"
    -- a read changes nothing, nor does another function; what 16 and 22 are told by
    ∷ line (carried_out ReadRegisters (hex "11 03 0001 0003 569B") four ++ carried_out Other (hex "11 04 0C23") four) (four ++ four)
    ∷ line (function_data WriteRegisters (hex "11 10 0001 0002 04 ABCD 5678 E8FA") four) (hex "0001 0002")
    ∷ line (function_data MaskRegister (hex "11 16 0002 00F2 0025 EEE2") four) (hex "0002 00F2 0025")
    ∷ []
  where
    others : List ℕ → List ℕ
    others [] = []
    others (f ∷ fs) = cond (is_other (function_of f)) (others fs) (f ∷ others fs)

-- ---- many registers at once: "1 to 125 (read)", "1 to 123 (write)"

-- every byte of them is 0x55
unfoldable pub many_rows : List Line
many_rows =
    line (function_data ReadRegisters (hex "11 03 0000 007D 877B") (replicate 252 0x55)) (hex "FA" ++ replicate 250 0x55)
    ∷ line (carried_out WriteRegisters (hex "11 10 0000 007B F6" ++ replicate 246 0x55 ++ hex "D431") (replicate 248 0)) (replicate 246 0x55 ++ hex "0000")
    -- 125 and 126; 123 and 124, which would make a frame of 257 bytes
    ∷ line (exception_to ReadRegisters (hex "11 03 0000 007D 877B") [] ∷ exception_to ReadRegisters (hex "11 03 0000 007E C77A") [] ∷ []) (hex "00 03")
    ∷ line (exception_to WriteRegisters (hex "11 10 0000 007B F6" ++ replicate 248 0) [] ∷ exception_to WriteRegisters (hex "11 10 0000 007C F8" ++ replicate 250 0) [] ∷ []) (hex "00 03")
    ∷ []

-- ---- "exception 1 for another function, then 3 .., then 2 for an address"

-- 2: reads up to byte 16,383, writes up to 8,191, and no address comes round
unfoldable pub address_rows : List Line
address_rows =
    line (exception_to ReadRegisters (hex "11 03 1FFF 0001 B17E") [] ∷ exception_to ReadRegisters (hex "11 03 1FFF 0002 F17F") [] ∷ exception_to ReadRegisters (hex "11 03 FFFF 0002 C6BF") [] ∷ []) (hex "00 02 02")
    ∷ line (exception_to ReadRegisters (hex "11 03 0FFF 0002 F5BF") [] ∷ exception_to WriteRegister (hex "11 06 0FFF 0102 382F") [] ∷ exception_to WriteRegister (hex "11 06 1000 0102 0FCB") [] ∷ []) (hex "00 00 02")
    ∷ line (exception_to WriteRegisters (hex "11 10 0FFE 0002 04 0102 0304 C958") [] ∷ exception_to WriteRegisters (hex "11 10 0FFF 0002 04 0102 0304 0894") [] ∷ []) (hex "00 02")
    ∷ line (exception_to MaskRegister (hex "11 16 0FFF 0000 0102 63B0") [] ∷ exception_to MaskRegister (hex "11 16 1000 0000 0102 75CB") [] ∷ []) (hex "00 02")
    ∷ []

-- 3: a byte count that does not fit the frame, or the quantity; a frame of function 22 that is too short
unfoldable pub length_rows : List Line
length_rows =
    line (map (λ (f : List ℕ). exception_to WriteRegisters f []) (hex "11 10 0000 0001 02 000000 D1EF" ∷ hex "11 10 0000 0001 02 00 C1AA" ∷ hex "11 10 0000 0001 03 000000 D013" ∷ [])) (hex "03 03 03")
    ∷ line (exception_to MaskRegister (hex "11 16 0000 0000 00 18F7") [] ∷ []) (hex "03")
    ∷ []

-- 3 before 2, and 1 before both
unfoldable pub order_rows : List Line
order_rows =
    excepts (hex "11 03 2000 0000 4C9A") "11 83 03 00F4"
    ∷ excepts (hex "11 06 1000 0000 00 DBA4") "11 86 03 03A4"
    ∷ excepts (hex "11 04 FFFF 0001 337E") "11 84 01 8305"
    ∷ []

-- ---- the call: "3 for an output below 256 bytes, 9 for an own station outside 1 to 247"; "Lowest number first"

unfoldable pub refusal_rows : List Line
refusal_rows =
    line (modbus_refusal 247 (lent 16384) (lent 256) ∷ modbus_refusal 247 (lent 16384) (lent 255) ∷ modbus_refusal 248 (lent 16384) (lent 256) ∷ modbus_refusal 248 (lent 16384) (lent 255) ∷ modbus_refusal 248 [] [] ∷ []) (hex "00 03 09 03 02")
    -- "Bytes of it behind the answer keep their values; without an answer, all do."
    ∷ line (modbus_buffer 0x11 (hex "11 04 0C23") four (lent 7)) (hex "11 84 01 8305 AAAA")
    ∷ line (modbus_buffer 0x11 (hex "11 03 0001 0003 569B") four (lent 12)) (hex "11 03 06 0403 0012 FFFE C944 AA")
    ∷ line (modbus_buffer 0x11 (hex "10 04 0DB3") four (lent 2)) (hex "AAAA")
    ∷ []

-- ---- both ports: "Demand 3 reads the memory as both ports left it."

-- what the service port says when this frame comes between the bytes of its line
abbrev between : String → String → String → List ℕ
between before frame behind =
    answers_on_wire (after_all (from_reset (fresh zeros)) (map byte (hex before) ++ (aside (frames 17 (hex frame)) ∷ map byte (hex behind)))).answers

-- register 1 is written in the midst of a message that reads bytes 2 and 3, or not, with a wrong check sum
unfoldable pub both_ports_rows : List Line
both_ports_rows =
    line (between "2BD102" "1106 0001 0003 9A9B" "002D") (hex "2B00 0300 FD")
    ∷ line (between "2BD102" "1106 0001 0003 9A9C" "002D") (hex "2B00 0000 00")
    ∷ []
