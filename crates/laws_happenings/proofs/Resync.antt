-- Demand 3 of the definition: resynchronising after even and odd runs of 0x2B, and nothing by half.
use mathlib.Core.Path.{◌≡◌, refl, sym, ap, ◌∙◌}
use mathlib.Core.Bool.{true, false}
use mathlib.Core.List.{List, [], ◌∷◌, ◌++◌, append_assoc, append-nil}
use Prim.Native.Nat.{ℕ, ◌<◌}
use lib.ListN.{get_or}
use Rattle.document.specs.Message.{Message, well_formed, on_wire, finished_by}
use Rattle.document.specs.Happenings.{Happening, Since, after_messages, after, after_all}
use Rattle.document.specs.Happenings.Happening.{byte, aside}
use Rattle.line_receiver.specs.Runs.{odd_run}
use Rattle.line_receiver.proofs.Runs.{waits_odd}
use Rattle.line_receiver.proofs.Demands.{finishes_whole}
use Rattle.line_wire.proofs.Pairing.{waits_after}
use Rattle.line_wire.proofs.Resync.{message_settled}
use Rattle.laws_happenings.specs.Bytes.{with_byte, bytes_of}
use Rattle.laws_happenings.specs.Resync.{Resynchronised, ByHalf}
use Rattle.laws_happenings.specs.Resync.ByHalf.{nothing, whole}
use Rattle.laws_happenings.proofs.Happened.{before_last, at_last}

settled_answered : (m : Message) (s : Since) (hs : List Happening) (b : ℕ) → well_formed m ≡ true → waits_after s.bytes ≡ false
    → on_wire m ≡ bytes_of hs ++ (b ∷ []) → Resynchronised s hs b m
settled_answered m s hs b formed settled e =
    record {
      quiet = ap (λ (r : Since). r.answers) (before_last m formed s settled hs b e);
      untouched = ap (λ (r : Since). r.gate) (before_last m formed s settled hs b e);
      told = ap (λ (r : Since). r.answers) (at_last m formed s settled hs b e);
      left = ap (λ (r : Since). r.gate) (at_last m formed s settled hs b e);
    }

-- "with an even (or no) run of 0x2B just before"
pub resync_even : (m : Message) (s : Since) (hs : List Happening) (b : ℕ) → well_formed m ≡ true → odd_run s.bytes ≡ false
    → on_wire m ≡ bytes_of hs ++ (b ∷ []) → Resynchronised s hs b m
resync_even m s hs b formed even e = settled_answered m s hs b formed (waits_odd s.bytes ∙ even) e

-- the bytes since reset grow by those that came
pub told_bytes : (ms : List Message) (s : Since) → (after_messages s ms).bytes ≡ s.bytes
told_bytes [] s = refl
told_bytes (m ∷ ms) s = refl

pub bytes_after : (hs : List Happening) (s : Since) → (after_all s hs).bytes ≡ s.bytes ++ bytes_of hs
bytes_after [] s = sym (append-nil s.bytes)
bytes_after (byte b ∷ hs) s =
    bytes_after hs (after s (byte b))
    ∙ ap (λ (bs : List ℕ). bs ++ bytes_of hs) (told_bytes (finished_by s.bytes b) (with_byte s b))
    ∙ append_assoc s.bytes (b ∷ []) (bytes_of hs)
bytes_after (aside a ∷ hs) s = bytes_after hs (after s (aside a))

-- "After an odd run, that holds for the next message sent directly behind.": behind any well-formed message, whatever was before it
pub resync_next : (m next : Message) (s : Since) (first hs : List Happening) (b : ℕ) → well_formed m ≡ true → well_formed next ≡ true
    → on_wire m ≡ bytes_of first → on_wire next ≡ bytes_of hs ++ (b ∷ []) → Resynchronised (after_all s first) hs b next
resync_next m next s first hs b formed formed' sent e =
    settled_answered next (after_all s first) hs b formed'
    (ap waits_after (bytes_after first s ∙ ap (λ (bs : List ℕ). s.bytes ++ bs) (sym sent)) ∙ message_settled m formed s.bytes)
    e

-- nothing by half, whatever came before
pub nothing_by_half : (s : Since) (b : ℕ) → ((i : ℕ) → get_or (s.bytes ++ (b ∷ [])) i 0 < 256) → ByHalf s b
nothing_by_half s b bytes = by (finished_by s.bytes b) refl
  where
    grown : Since
    grown = with_byte s b

    by : (ms : List Message) → finished_by s.bytes b ≡ ms → ByHalf s b
    by [] e = nothing (ap (λ (l : List Message). (after_messages grown l).answers) e) (ap (λ (l : List Message). (after_messages grown l).gate) e)
    by (m ∷ more) e =
        whole m (finishes_whole s.bytes b bytes m more e).0
        (ap (λ (l : List Message). (after_messages grown l).answers) e)
        (ap (λ (l : List Message). (after_messages grown l).gate) e)
