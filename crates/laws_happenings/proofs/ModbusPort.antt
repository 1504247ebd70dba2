-- "a Modbus answer depends on service traffic only through those bytes and the recorder buffer": the second port's answers can be
-- replayed from what its frames found alone, since nothing but the gate's own program writes the calibration.
use mathlib.Core.Path.{◌≡◌, refl, sym, ap, ◌∙◌}
use mathlib.Core.Bool.{false, cond}
use mathlib.Core.List.{List, [], ◌∷◌, ◌++◌}
use Prim.Native.Nat.{ℕ, ◌-◌}
use native.Mathlib.Omega.{arith}
use lib.Dec.{eqb}
use lib.ListN.{take, drop, take-append-drop}
use lib.Seq.{drop-drop}
use Rattle.document.specs.Areas.{variables_end, calibration_end, buffer_begin}
use Rattle.document.specs.Message.{Message, finished_by}
use Rattle.document.specs.Run.{memory_after_tick, place_begins, set_of}
use Rattle.document.specs.Recorder.{Recorder, ticked_memory}
use Rattle.document.specs.Recorder.Recorder.{absent, planned}
use Rattle.document.specs.Gate.{Gate, with_memory}
use Rattle.document.specs.Commands.{answered}
use Rattle.document.specs.Asides.{Aside, beside}
use Rattle.document.specs.Happenings.{Happening, Since, after_messages, after}
use Rattle.document.specs.Happenings.Happening.{byte, aside}
use Rattle.document.proofs.Cases.{split}
use Rattle.laws_happenings.specs.Bytes.{with_byte}
use Rattle.memory_ranges.proofs.Stored.{bytes_before}
use Rattle.laws_happenings.specs.Asides.{Side, is_program, is_controller, if_any, row, is_tick, is_own, is_frame}
use Rattle.laws_happenings.specs.Asides.Side.{program, controller}
use Rattle.laws_happenings.specs.Ports.{modbus_of, without_service, Shared, shared_in, shared, calibration_in}
use Rattle.laws_happenings.proofs.Recording.{message_leaves}
use Rattle.laws_happenings.proofs.Asides.{by_side, leaves}

-- ---- who keeps the calibration

rest_keeps : (l m : List ℕ) → drop variables_end l ≡ drop variables_end m → calibration_in l ≡ calibration_in m
rest_keeps l m e = ap (take (calibration_end - variables_end)) e

-- a set lies behind it
tick_keeps : (r : Recorder) (m : List ℕ) → calibration_in (ticked_memory r m) ≡ calibration_in m
unfolding memory_after_tick
tick_keeps absent m = refl
tick_keeps (planned p r) m =
    split r.running
    (λ runs. split (eqb r.wait 0)
    (λ due. rw (runs, due) (bytes_before (set_of p m) m (place_begins p r.place) variables_end (calibration_end - variables_end) (omega arith)))
    (λ waits. rw (runs, waits) refl))
    (λ still. rw still refl)

byte_keeps : (s : Since) (b : ℕ) → calibration_in (after s (byte b)).gate.memory ≡ calibration_in s.gate.memory
byte_keeps s b = by (finished_by s.bytes b)
  where
    by : (ms : List Message)
        → calibration_in (after_messages (with_byte s b) ms).gate.memory ≡ calibration_in s.gate.memory
    by [] = refl
    by (m ∷ ms) = rest_keeps (answered s.gate m).gate.memory s.gate.memory (message_leaves s.gate m).1

-- ---- a replay

-- variables and buffer as a frame found them, around the calibration that this gate has
abbrev joined : Gate → Shared → Gate
joined g seen = with_memory g (seen.variables ++ (calibration_in g.memory ++ seen.buffer))

abbrev first : List Shared → Shared
first [] = record { variables = []; buffer = [] }
first (x ∷ xs) = x

abbrev rest : List Shared → List Shared
rest [] = []
rest (x ∷ xs) = xs

abbrev replayed : Gate → List Happening → List Shared → List (List ℕ)
replayed g [] seen = []
replayed g (byte b ∷ hs) seen = replayed g hs seen
replayed g (aside a ∷ hs) seen =
    cond (is_frame a) (if_any ((row a).answer (joined g (first seen)).memory) ++ replayed g hs (rest seen)) (replayed (beside g a) hs seen)

-- the three areas are the memory
whole_again : (m k : List ℕ) → calibration_in m ≡ calibration_in k
    → m ≡ (shared_in m).variables ++ (calibration_in k ++ (shared_in m).buffer)
whole_again m k e =
    let behind : List ℕ = drop variables_end m in
    let parts : behind ≡ calibration_in k ++ drop buffer_begin m =
    sym (take-append-drop (calibration_end - variables_end) behind)
    ∙ (λ j. e j ++ drop-drop (calibration_end - variables_end) variables_end m j) in
    sym (take-append-drop variables_end m) ∙ ap (λ (l : List ℕ). take variables_end m ++ l) parts

-- neither the service port's side nor the second port writes the calibration
service_keeps : (s : Since) (a : Aside) → is_own a ≡ false → calibration_in (beside s.gate a).memory ≡ calibration_in s.gate.memory
service_keeps s a other =
    split (is_tick a)
    (λ is. ap calibration_in ((leaves s.gate a).ticked_memory_lem is) ∙ tick_keeps s.gate.recorder s.gate.memory)
    (λ still. rest_keeps (beside s.gate a).memory s.gate.memory ((leaves s.gate a).rest other still))

-- but for a frame there is no answer
unanswered : (s : Since) (a : Aside) (hs : List Happening) → is_frame a ≡ false → modbus_of s (aside a ∷ hs) ≡ modbus_of (after s (aside a)) hs
unanswered s a hs other = ap (λ (l : List ℕ). if_any l ++ modbus_of (after s (aside a)) hs) ((leaves s.gate a).silent other s.gate.memory)

-- and a frame is answered over what it found
frame_again : (s : Since) (g : Gate) → calibration_in s.gate.memory ≡ calibration_in g.memory → (a : Aside)
    → (row a).answer s.gate.memory ≡ (row a).answer (joined g (shared_in s.gate.memory)).memory
frame_again s g e a = ap (row a).answer (whole_again s.gate.memory g.memory e)

module _ (g : Gate) (a : Aside) (hs : List Happening) where
  abbrev replay : List Shared → Side → List (List ℕ)
  replay seen o =
      cond (is_controller o) (if_any ((row a).answer (joined g (first seen)).memory) ++ replayed g hs (rest seen)) (replayed (beside g a) hs seen)

  replay_own : (seen : List Shared) → (row a).side ≡ program → replayed (beside g a) hs seen ≡ replayed g (aside a ∷ hs) seen
  replay_own seen own = ap (replay seen) (sym own)

  replay_frame : (x : Shared) (seen : List Shared) → (row a).side ≡ controller
      → if_any ((row a).answer (joined g x).memory) ++ replayed g hs seen ≡ replayed g (aside a ∷ hs) (x ∷ seen)
  replay_frame x seen frame = ap (replay (x ∷ seen)) (sym frame)

replay_agrees : (hs : List Happening) (s : Since) (g : Gate) → calibration_in s.gate.memory ≡ calibration_in g.memory
    → modbus_of s hs ≡ replayed g (without_service hs) (shared s hs)
replay_agrees [] s g e = refl
replay_agrees (byte b ∷ hs) s g e = replay_agrees hs (after s (byte b)) g (byte_keeps s b ∙ e)
replay_agrees (aside a ∷ hs) s g e =
    by_side (row a).side
    (λ own.
    rw own
    (unanswered s a hs (ap is_controller own)
    ∙ replay_agrees hs (after s (aside a)) (beside g a) (((leaves s.gate a).own (ap is_program own) g).calibration e)
    ∙ replay_own g a (without_service hs) (shared (after s (aside a)) hs) own))
    (λ service.
    rw service
    (unanswered s a hs (ap is_controller service)
    ∙ replay_agrees hs (after s (aside a)) g (service_keeps s a (ap is_program service) ∙ e)))
    (λ frame.
    rw frame
    ((λ j. if_any (frame_again s g e a j) ++ replay_agrees hs (after s (aside a)) g (service_keeps s a (ap is_program frame) ∙ e) j)
    ∙ replay_frame g a (without_service hs) (shared_in s.gate.memory) (shared (after s (aside a)) hs) frame))

-- two that are the same but for service traffic, and whose frames found the same, get the same answers one by one
pub modbus_same : (hs ks : List Happening) (s t : Since) → calibration_in s.gate.memory ≡ calibration_in t.gate.memory
    → without_service hs ≡ without_service ks → shared s hs ≡ shared t ks → modbus_of s hs ≡ modbus_of t ks
modbus_same hs ks s t e happened seen =
    replay_agrees hs s t.gate e ∙ (λ j. replayed t.gate (happened j) (seen j)) ∙ sym (replay_agrees ks t t.gate refl)
