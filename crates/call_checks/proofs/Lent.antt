-- What is lent where a byte is not refused: a long enough block whose state is within its bounds, the memory, and room for an answer.
use mathlib.Core.Path.{◌≡◌}
use mathlib.Core.List.{List}
use Prim.Native.Nat.{ℕ, ◌<◌, ◌≤◌}
use lib.ListN.{length, get_or}
use Rattle.document.specs.Numbers.{answer_room, taken}
use Rattle.document.proofs.Bytes.{all_of_bytes}
use Rattle.state_parts.specs.Within.{Within}
use Rattle.state_block.specs.Places.{state_length}
use Rattle.state_block.specs.Layout.{decoded}
use Rattle.state_block.proofs.Lent.{lent_within}
use Rattle.call_checks.specs.Promises.{block_sound, byte_number}
use Rattle.call_checks.proofs.Numbers.{byte_known}
use Rattle.call_checks.proofs.Settled.{block_known}

pub lent_known : (block memory buffer : List ℕ) → ((i : ℕ) → get_or block i 0 < 256) → ((i : ℕ) → get_or memory i 0 < 256) → byte_number block memory buffer ≡ taken
    → (state_length ≤ length block) × Within (decoded block) memory × (answer_room ≤ length buffer)
lent_known block memory buffer small bytes fine =
    let known = byte_known (block_sound block) memory buffer fine in
    let state = block_known block known.0 in
    (state.0, lent_within block state.0 small memory state.1 (record { size = known.1; bytes = all_of_bytes memory bytes }), known.2)
