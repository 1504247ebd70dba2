-- Document 01 as definitions, in its order, and rows that are proved of them. docs/PROMISES.md lists what else a reader must believe.

-- "What the build holds"
pub mod Bytes
pub mod Areas
pub mod Values
pub mod Stores
-- "The line"
pub mod Sum
pub mod Doubling
pub mod Pairing
pub mod Message
pub mod Answer
-- "Numbers that refuse"
pub mod Numbers
pub mod Refusals
pub mod Calls
pub mod AnswerWriter
pub mod CommandWriter
pub mod AnswerReader
-- "Commands"
pub mod Services
pub mod Kinds
pub mod Fields
pub mod Variables
pub mod Scope
pub mod Application
pub mod BaseTypes
pub mod Strings
pub mod Tables
pub mod Gate
pub mod Permission
pub mod Commands
-- "The recorder"
pub mod Plan
pub mod Trigger
pub mod Run
pub mod Recorder
pub mod Sets
-- "Modbus on the second port" (2026-07)
pub mod CheckSum
pub mod Frames
pub mod Registers
pub mod Modbus
-- since reset
pub mod Panel
pub mod Asides
pub mod Happenings
pub mod Blocks
-- rows that are quick to compute: how they are written, then by subject. crates/document_worked has the staples and what wants a whole memory.
pub mod Hex
pub mod Rows
pub mod QuickRows
pub mod LineRows
pub mod RefusalPairs
pub mod CallRows
pub mod ReaderRows
pub mod KindRows
pub mod ReadRows
pub mod WriteRows
pub mod ScopeRows
pub mod SetupRows
pub mod RecorderRows
pub mod EdgeRows
pub mod LevelRows
pub mod TriggerRows
pub mod ApplicationRows
pub mod TableRows
pub mod BlockRows
pub mod PanelRows
pub mod ModbusRows
pub mod SetRows
pub mod StayRows
