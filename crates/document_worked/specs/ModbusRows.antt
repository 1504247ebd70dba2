-- Further rows for the second port (2026-07), with those that are slow to compute: the longest frames, every exception, and where the memory and
-- its variables end.
use Rattle.std.specs.Prelude.{List, [], ◌∷◌, ◌++◌, map, ℕ, replicate}
use Prim.Native.String.{String}
use Rattle.document.specs.Hex.{hex}
use Rattle.document.specs.Areas.{bytes_at}
use Rattle.document.specs.Modbus.{modbus_answer, modbus_memory, modbus_refusal}
use Rattle.document.specs.Rows.{zeros}
use Rattle.document.specs.CallRows.{Line, line, lent}
use Rattle.document.specs.ModbusRows.{summed, four, answers, leaves, silent, excepts}

-- the check sum: known values
unfoldable pub check_sum_rows : List Line
check_sum_rows =
    -- the nine characters "123456789" give 0x4B37
    summed "313233343536373839" "313233343536373839 374B"
    ∷ summed "11 03 006B 0003" "11 03 006B 0003 7687"
    ∷ summed "11 06 0001 0003" "11 06 0001 0003 9A9B"
    ∷ []

-- "A frame below 4 or above 256 bytes, a wrong check sum, another station, a broadcast or a function byte above 127"
unfoldable pub silence_rows : List Line
silence_rows =
    excepts (hex "11 03 4DE1") "11 83 03 00F4"
    ∷ silent (hex "11 06 0001 0003 9B9A")
    ∷ silent (hex "12 03 0000 0001 86A9")
    ∷ silent (hex "00 10 0000 0001 02 0003 EBC1")
    ∷ silent (hex "11 83 0000 0001 8744")
    ∷ silent (hex "11 FF 0000 0001 D68E")
    ∷ []

-- the longest: of 256 bytes, and of 255
unfoldable pub long_rows : List Line
long_rows =
    line (modbus_answer 0x11 (hex "11 03" ++ replicate 252 0 ++ hex "1CCE") four) (hex "11 83 03 00F4")
    -- the most registers that are read and written at once: 125 in an answer of 255 bytes, 123 in a frame of 255
    ∷ line (modbus_answer 0x11 (hex "11 03 0000 007D 877B") (replicate 252 0x55)) (hex "11 03 FA" ++ replicate 250 0x55 ++ hex "15D6")
    ∷ line (modbus_answer 0x11 many (replicate 248 0) ++ modbus_memory 0x11 many (replicate 248 0)) (hex "11 10 0000 007B 82BA" ++ replicate 246 0x55 ++ hex "0000")
    ∷ []
  where
    many : List ℕ
    many = hex "11 10 0000 007B F6" ++ replicate 246 0x55 ++ hex "D431"

-- "Serve functions 3, 6, 16 and 22"
unfoldable pub function_rows : List Line
function_rows =
    answers "11 03 0000 0001 869A" "11 03 02 0201 B927"
    ∷ leaves "11 03 0001 0003 569B" "0102 0304 1200 FEFF"
    ∷ answers "11 10 0001 0002 04 ABCD 5678 E8FA" "11 10 0001 0002 1298"
    ∷ leaves "11 10 0003 0001 02 000A EBA4" "0102 0304 1200 0A00"
    ∷ answers "11 16 0002 00F2 0025 EEE2" "11 16 0002 00F2 0025 EEE2"
    -- the first mask of 22 keeps bits, its second sets only those that are not kept
    ∷ leaves "11 16 0003 FFFF 0001 72EE" "0102 0304 1200 FEFF"
    ∷ leaves "11 16 0003 0000 1234 BE7D" "0102 0304 1200 3412"
    ∷ leaves "11 16 0000 0F00 F0F0 B05A" "F0F2 0304 1200 FEFF"
    ∷ []

-- ---- "exception 1 for another function, then 3 .., then 2 for an address"

unfoldable pub exception_rows : List Line
exception_rows =
    -- 1, whatever follows
    excepts (hex "11 00 0000 0001 C29A") "11 80 01 81C5"
    ∷ excepts (hex "11 01 0000 0001 FF5A") "11 81 01 8055"
    -- and so before 3
    ∷ excepts (hex "11 04 0C23") "11 84 01 8305"
    -- 3, "a quantity outside 1 to 125 (read)"
    ∷ excepts (hex "11 03 0000 0000 475A") "11 83 03 00F4"
    ∷ excepts (hex "11 03 0000 007E C77A") "11 83 03 00F4"
    ∷ excepts (hex "11 03 0000 0101 870A") "11 83 03 00F4"
    -- "or 1 to 123 (write)"
    ∷ excepts (hex "11 10 0000 0000 00 1891") "11 90 03 0DC4"
    ∷ excepts (hex "11 10 0000 007C F8 0000 53CD") "11 90 03 0DC4"
    -- "a byte count .. that doesn't fit" the quantity
    ∷ excepts (hex "11 10 0000 0002 02 0000 6BD4") "11 90 03 0DC4"
    -- 258 is no byte count: 2 in its place does not fit 129 registers
    ∷ excepts (hex "11 10 0000 0081 02 0000 4250") "11 90 03 0DC4"
    -- "or frame length that doesn't fit"
    ∷ excepts (hex "11 03 0000 00 D847") "11 83 03 00F4"
    ∷ excepts (hex "11 03 0000 0001 00 1BA2") "11 83 03 00F4"
    ∷ excepts (hex "11 06 0000 00 D88B") "11 86 03 03A4"
    ∷ excepts (hex "11 06 0000 0001 00 1BF7") "11 86 03 03A4"
    ∷ excepts (hex "11 10 0000 04DD") "11 90 03 0DC4"
    ∷ excepts (hex "11 16 0000 0000 00 18F7") "11 96 03 0E64"
    ∷ excepts (hex "11 16 0000 0000 0000 00 4B86") "11 96 03 0E64"
    -- 3 before 2
    ∷ excepts (hex "11 10 1000 0001 03 0000 2B91") "11 90 03 0DC4"
    ∷ excepts (hex "11 16 1000 0000 4E59") "11 96 03 0E64"
    -- 2: "reads up to byte 16,383"
    ∷ excepts (hex "11 03 2000 0001 8D5A") "11 83 02 C134"
    ∷ excepts (hex "11 03 1FFF 0002 F17F") "11 83 02 C134"
    -- "writes up to 8,191"
    ∷ excepts (hex "11 06 1000 0102 0FCB") "11 86 02 C264"
    ∷ excepts (hex "11 10 0FFF 0002 04 0102 0304 0894") "11 90 02 CC04"
    ∷ excepts (hex "11 10 1000 0001 02 0102 FA00") "11 90 02 CC04"
    ∷ excepts (hex "11 16 1000 0000 0102 75CB") "11 96 02 CFA4"
    -- an address that would come round
    ∷ excepts (hex "11 03 FFFF 0002 C6BF") "11 83 02 C134"
    ∷ excepts (hex "11 10 FFFF 0002 04 0102 0304 0C90") "11 90 02 CC04"
    ∷ excepts (hex "11 06 8000 0102 22CB") "11 86 02 C264"
    ∷ []

-- what the last four variables are then, and the first byte behind them
abbrev lasts : String → String → Line
lasts frame last = line (bytes_at (modbus_memory 0x11 (hex frame) (replicate 8193 0)) 8188 5) (hex last)

-- the same where the memory ends, and where its variables do
unfoldable pub end_rows : List Line
end_rows =
    line (modbus_answer 0x11 (hex "11 03 1FFF 0001 B17E") zeros) (hex "11 03 02 0000 7987")
    -- a read from the variables on into the calibration area
    ∷ line (modbus_answer 0x11 (hex "11 03 0FFF 0002 F5BF") (replicate 8190 0 ++ hex "A1A2 B1B2")) (hex "11 03 04 A2A1 B2B1 2D7C")
    ∷ lasts "11 06 0FFF 0102 382F" "0000 0201 00"
    ∷ lasts "11 10 0FFE 0002 04 0102 0304 C958" "0201 0403 00"
    ∷ lasts "11 10 0FFF 0002 04 0102 0304 0894" "0000 0000 00"
    ∷ lasts "11 16 0FFF 0000 0102 63B0" "0000 0201 00"
    ∷ []

-- ---- the call: "3 for an output below 256 bytes, 9 for an own station outside 1 to 247"; "Lowest number first"

unfoldable pub modbus_call_rows : List Line
modbus_call_rows =
    line (map (λ (s : ℕ). modbus_refusal s (lent 16384) (lent 256)) (0 ∷ 1 ∷ 17 ∷ 247 ∷ 248 ∷ 255 ∷ 257 ∷ [])) (hex "09 00 00 00 09 09 09")
    ∷ line (modbus_refusal 1 (lent 16384) (lent 255) ∷ modbus_refusal 1 (lent 16383) (lent 256) ∷ modbus_refusal 1 (lent 16385) (lent 256) ∷ []) (hex "03 02 02")
    ∷ line (modbus_refusal 0 [] [] ∷ modbus_refusal 0 (lent 16384) [] ∷ []) (hex "02 03")
    ∷ []
