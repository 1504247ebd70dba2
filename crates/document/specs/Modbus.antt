-- Modbus on the second port (2026-07): "Serve functions 3, 6, 16 and 22 on whole frames marked off by the gate."
use Rattle.std.specs.Prelude.{Bool, true, false, cond, not, ◌||◌, List, [], ◌∷◌, ℕ, ◌+◌, ◌*◌, eqb, ltb, length}
use Rattle.std.proofs.lemmas.List.Edits.{sets}
use Rattle.document.specs.Numbers.{done, taken, memory_refused, room_refused, station_refused}
use Rattle.document.specs.Areas.{memory_end, bytes_at}
use Rattle.document.specs.Refusals.{when, first_of}
use Rattle.document.specs.CheckSum.{with_check_sum}
use Rattle.document.specs.Frames.{function_byte, word_in, first_in, quantity_in, byte_count_in, is_station, is_silenced}
use Rattle.document.specs.Registers.{registers_at, registers_stored, register_masked, may_read_registers, may_write_registers}
use Rattle.document.specs.declared.Function.{Function}
use Rattle.document.specs.declared.Function.TheVariants.{ReadRegisters, WriteRegister, WriteRegisters, MaskRegister, Other}

abbrev pub function_of : ℕ → Function
function_of byte =
    cond (eqb byte 3) ReadRegisters
    (cond (eqb byte 6) WriteRegister (cond (eqb byte 16) WriteRegisters (cond (eqb byte 22) MaskRegister Other)))

abbrev pub function_in : List ℕ → Function
function_in frame = function_of (function_byte frame)

-- ---- exceptions

-- "exception 1 for another function"
abbrev pub is_other : Function → Bool
is_other ReadRegisters = false
is_other WriteRegister = false
is_other WriteRegisters = false
is_other MaskRegister = false
is_other Other = true

-- "a quantity outside 1 to 125 (read) or 1 to 123 (write)"
abbrev pub is_quantity_wrong : ℕ → List ℕ → Bool
is_quantity_wrong most frame = ltb (quantity_in frame) 1 || ltb most (quantity_in frame)

abbrev pub is_length_wrong : ℕ → List ℕ → Bool
is_length_wrong right frame = not (eqb (length frame) right)

-- "then 3 for a quantity .. or a byte count or frame length that doesn't fit"
abbrev pub is_value_wrong : Function → List ℕ → Bool
is_value_wrong ReadRegisters frame = is_length_wrong 8 frame || is_quantity_wrong 125 frame
is_value_wrong WriteRegister frame = is_length_wrong 8 frame
is_value_wrong WriteRegisters frame =
    is_length_wrong (9 + byte_count_in frame) frame
    || is_quantity_wrong 123 frame
    || not (eqb (byte_count_in frame) (2 * quantity_in frame))
is_value_wrong MaskRegister frame = is_length_wrong 10 frame
is_value_wrong Other frame = false

-- "then 2 for an address"
abbrev pub is_address_wrong : Function → List ℕ → List ℕ → Bool
is_address_wrong ReadRegisters frame memory = not (may_read_registers (first_in frame) (quantity_in frame))
is_address_wrong WriteRegister frame memory = not (may_write_registers memory (first_in frame) 1)
is_address_wrong WriteRegisters frame memory = not (may_write_registers memory (first_in frame) (quantity_in frame))
is_address_wrong MaskRegister frame memory = not (may_write_registers memory (first_in frame) 1)
is_address_wrong Other frame memory = false

-- the first that applies; `done` where none does
unfoldable pub exception_to : Function → List ℕ → List ℕ → ℕ
exception_to function frame memory =
    first_of
    (when 1 (is_other function)
    ∷ when 3 (is_value_wrong function frame)
    ∷ when 2 (is_address_wrong function frame memory)
    ∷ [])

-- ---- what a function does, and what it answers behind station and function byte

abbrev pub carried_out : Function → List ℕ → List ℕ → List ℕ
carried_out ReadRegisters frame memory = memory
carried_out WriteRegister frame memory = registers_stored memory (first_in frame) (bytes_at frame 4 2)
carried_out WriteRegisters frame memory = registers_stored memory (first_in frame) (bytes_at frame 7 (2 * quantity_in frame))
carried_out MaskRegister frame memory = register_masked memory (first_in frame) (word_in frame 4) (word_in frame 6)
carried_out Other frame memory = memory

-- the registers behind the count of their bytes; a write is told by the fields that it began with
abbrev pub function_data : Function → List ℕ → List ℕ → List ℕ
function_data ReadRegisters frame memory = 2 * quantity_in frame ∷ registers_at memory (first_in frame) (quantity_in frame)
function_data WriteRegister frame memory = bytes_at frame 2 4
function_data WriteRegisters frame memory = bytes_at frame 2 4
function_data MaskRegister frame memory = bytes_at frame 2 6
function_data Other frame memory = []

-- ---- a frame

-- an exception has the top bit of the function byte set
abbrev pub answer_to : ℕ → List ℕ → List ℕ → List ℕ
answer_to exception frame memory =
    cond (eqb exception done) (function_byte frame ∷ function_data (function_in frame) frame memory)
    ((128 + function_byte frame) ∷ exception ∷ [])

-- no bytes are silence
unfoldable pub modbus_answer : ℕ → List ℕ → List ℕ → List ℕ
modbus_answer station frame memory =
    cond (is_silenced station frame) []
    (with_check_sum (station ∷ answer_to (exception_to (function_in frame) frame memory) frame memory))

-- "silence and no change", and none with an exception
unfoldable pub modbus_memory : ℕ → List ℕ → List ℕ → List ℕ
modbus_memory station frame memory =
    cond (is_silenced station frame) memory
    (cond (eqb (exception_to (function_in frame) frame memory) done) (carried_out (function_in frame) frame memory) memory)

-- ---- the call

abbrev pub modbus_room : ℕ
modbus_room = 256

-- "call number 3 for an output below 256 bytes, 9 for an own station outside 1 to 247", and 2 as ever; "Lowest number first"
abbrev pub modbus_refusal : ℕ → List ℕ → List ℕ → ℕ
modbus_refusal station memory out =
    cond (not (eqb (length memory) memory_end)) memory_refused
    (cond (ltb (length out) modbus_room) room_refused (cond (not (is_station station)) station_refused taken))

-- "Bytes of it behind the answer keep their values; without an answer, all do."
abbrev pub modbus_buffer : ℕ → List ℕ → List ℕ → List ℕ → List ℕ
modbus_buffer station frame memory out = sets out 0 (modbus_answer station frame memory)
