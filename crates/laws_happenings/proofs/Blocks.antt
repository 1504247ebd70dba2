-- A block at once is its bytes one by one, while there is room: what has come, what is on the wire, and where it stops.
use mathlib.Core.Path.{◌≡◌, refl, sym, ap, ◌∙◌}
use mathlib.Core.List.{List, [], ◌∷◌, ◌++◌, map, append-nil, append_assoc}
use Prim.Native.Nat.{ℕ, suc, ◌+◌, ◌-◌, ◌≤◌}
use native.Mathlib.Omega.{arith}
use borrow.Author.Tests.{ltb-true}
use lib.Dec.{ltb}
use lib.ListN.{length, take, drop, length-append}
use lib.Seq.{drop-append_seam}
use Rattle.document.specs.Numbers.{answer_room}
use Rattle.document.specs.Message.{Message, finished_by}
use Rattle.document.specs.Answer.{Answer, answer_on_wire}
use Rattle.document.specs.Gate.{Gate}
use Rattle.document.specs.Commands.{answered}
use Rattle.document.specs.Happenings.{Since, after_messages, after, after_all}
use Rattle.document.specs.Happenings.Happening.{byte}
use Rattle.document.specs.Blocks.{answers_on_wire, brought_by, block_after}
use Rattle.document.proofs.Cases.{split}
use Rattle.laws_happenings.specs.Bytes.{with_byte}

-- ---- on the wire

pub wire_append : (first rest : List Answer) → answers_on_wire (first ++ rest) ≡ answers_on_wire first ++ answers_on_wire rest
wire_append [] rest = refl
wire_append (a ∷ first) rest =
    ap (λ (l : List ℕ). answer_on_wire a ++ l) (wire_append first rest) ∙ sym (append_assoc (answer_on_wire a) (answers_on_wire first) (answers_on_wire rest))

pub wire_one : (first : List Answer) (a : Answer) → answers_on_wire (first ++ (a ∷ [])) ≡ answers_on_wire first ++ answer_on_wire a
wire_one first a = wire_append first (a ∷ []) ∙ ap (λ (l : List ℕ). answers_on_wire first ++ l) (append-nil (answer_on_wire a))

-- what the messages that a byte finishes are told
abbrev pub answers_to : Gate → List Message → List Answer
answers_to g [] = []
answers_to g (m ∷ ms) = (answered g m).answer ∷ []

pub told_answers : (s : Since) (ms : List Message) → (after_messages s ms).answers ≡ s.answers ++ answers_to s.gate ms
told_answers s [] = sym (append-nil s.answers)
told_answers s (m ∷ ms) = refl

-- what a byte brings to the wire is the answer to the message that it finishes
pub brought_told : (s : Since) (b : ℕ) → brought_by s b ≡ answers_on_wire (answers_to s.gate (finished_by s.bytes b))
brought_told s b =
    let ms = finished_by s.bytes b in
    ap (λ (l : List Answer). answers_on_wire (drop (length s.answers) l)) (told_answers (with_byte s b) ms)
    ∙ ap answers_on_wire (drop-append_seam s.answers (answers_to s.gate ms))

-- ---- what has come

-- "State, memory and answers equal those of giving the same bytes singly."
pub block_came : (bs : List ℕ) (s : Since) (room : ℕ) → (block_after s room bs).since ≡ after_all s (map byte (take (block_after s room bs).taken bs))
block_came [] s room = refl
block_came (b ∷ bs) s room =
    split (ltb room answer_room) (λ short. rw short refl) (λ long. rw long (block_came bs (after s (byte b)) (room - length (brought_by s b))))

-- it takes all of them, unless the room that is left is too short for another
pub block_stops : (bs : List ℕ) (s : Since) (room : ℕ) → answer_room ≤ room - length (block_after s room bs).written → (block_after s room bs).taken ≡ length bs
block_stops [] s room enough = refl
block_stops (b ∷ bs) s room enough =
    split (ltb room answer_room)
    (λ short. let z : ⊥ = omega (arith, ltb-true room answer_room short, rw short at enough) in absurd z)
    (λ long.
    let rest : List ℕ = (block_after (after s (byte b)) (room - length (brought_by s b)) bs).written in
    let longer : length (brought_by s b ++ rest) ≡ length (brought_by s b) + length rest = length-append (brought_by s b) rest in
    rw long (ap suc (block_stops bs (after s (byte b)) (room - length (brought_by s b)) (omega (arith, longer, rw long at enough)))))
