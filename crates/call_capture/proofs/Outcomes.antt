-- What a capture comes to, by whether the list has room for all of it.
use mathlib.Core.Path.{refl, ap, ◌∙◌}
use mathlib.Core.List.{List}
use Prim.Native.Nat.{ℕ, ◌<◌, ◌≤◌}
use native.Mathlib.Omega.{arith}
use borrow.Author.Tests.{lt-ltb, le-ltb}
use lib.ListN.{length}
use Rattle.document.specs.Numbers.{taken, room_refused}
use Rattle.document_captures.specs.Captures.{captured, entry_room, capture_refusal, capture_count, capture_list}
use Rattle.line_captures.specs.Walk.{Walked}
use Rattle.line_captures.proofs.Lists.{put_all_lem}
use Rattle.call_capture.specs.Promises.{CaptureDone}

module _ (bytes list : List ℕ) where
  pub refused : entry_room list < length (captured bytes) → CaptureDone bytes list (record { refusal = room_refused; count = 0 }) list
  unfolding capture_refusal capture_count capture_list
  refused more =
      let yes = lt-ltb (entry_room list) (length (captured bytes)) more in
      record { result = rw yes refl; list = rw yes refl }

  pub listed : (r : ℕ) (after : List ℕ) → length (captured bytes) ≤ entry_room list → Walked bytes list r after
      → CaptureDone bytes list (record { refusal = taken; count = r }) after
  unfolding capture_refusal capture_count capture_list
  listed r after room walked =
      let no = le-ltb (entry_room list) (length (captured bytes)) room in
      record {
        result = rw no (ap (λ (n : ℕ). record { refusal = taken; count = n }) walked.count);
        list = rw no (walked.list ∙ put_all_lem (captured bytes) list 0 (omega (arith, room)));
      }
