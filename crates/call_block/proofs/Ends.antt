-- The loop keeps where its walk ends, and comes there: no byte is left, or no room.
use mathlib.Core.Path.{◌≡◌, sym, ap, ◌∙◌}
use mathlib.Core.List.{List, [], ◌∷◌}
use Prim.Native.Nat.{ℕ, ◌-◌, ◌<◌, ◌≤◌}
use lib.ListN.{length, drop, drop_of_length-le}
use lib.Seq.{sets}
use Rattle.document.specs.Numbers.{answer_room}
use Rattle.state_parts.specs.Within.{Within}
use Rattle.state_parts.proofs.Keeps.{within_fits}
use Rattle.state_byte.specs.Walk.{Walk, room, walked}
use Rattle.state_byte.proofs.Walks.{walked_all, walked_short}
use Rattle.state_block.specs.Places.{state_length}
use Rattle.state_block.specs.Layout.{decoded, encoded}
use Rattle.call_byte.proofs.Stores.{target_over}
use Rattle.call_block.specs.Going.{walk_at, walk, Gone}

-- ---- a turn

pub stored_on : (first block after memory left : List ℕ) → state_length ≤ length first → Within (decoded block) memory → Within (decoded after) left
    → block ≡ sets first 0 (encoded (decoded block)) → after ≡ sets block 0 (encoded (decoded after)) → after ≡ sets first 0 (encoded (decoded after))
stored_on first block after memory left long before behind stored again =
    again
    ∙ ap (λ (l : List ℕ). sets l 0 (encoded (decoded after))) stored
    ∙ target_over first (decoded block) (decoded after) long (within_fits (decoded block) memory before) (within_fits (decoded after) left behind)

-- ---- the end

ends_short : (w : Walk) (bs : List ℕ) → room w < answer_room → walked w bs ≡ w
ends_short w [] short = walked_all w
ends_short w (b ∷ bs) short = walked_short w b bs short

module _ (bytes : List ℕ) (taken written : ℕ) (first memory buffer block left told : List ℕ)
    (goes : walk first bytes memory buffer ≡ walked (walk_at taken written block left told) (drop taken bytes)) (stored : block ≡ sets first 0 (encoded (decoded block))) where
  gone : walked (walk_at taken written block left told) (drop taken bytes) ≡ walk_at taken written block left told
      → Gone bytes (record { taken = taken; written = written }) first memory buffer block left told
  gone end =
      let is : walk_at taken written block left told ≡ walk first bytes memory buffer = sym (goes ∙ end) in
      record {
        taken = ap (λ (w : Walk). w.taken) is;
        written = ap (λ (w : Walk). w.written) is;
        state = stored ∙ ap (λ (w : Walk). sets first 0 (encoded w.next)) is;
        memory_left = ap (λ (w : Walk). w.memory) is;
        buffer_told = ap (λ (w : Walk). w.buffer) is;
      }

  pub gone_all : length bytes ≤ taken → Gone bytes (record { taken = taken; written = written }) first memory buffer block left told
  gone_all all =
      gone (ap (walked (walk_at taken written block left told)) (drop_of_length-le bytes all) ∙ walked_all (walk_at taken written block left told))

  pub gone_short : length told - written < answer_room → Gone bytes (record { taken = taken; written = written }) first memory buffer block left told
  gone_short short = gone (ends_short (walk_at taken written block left told) (drop taken bytes) short)
