-- The ticks among the recorder's events are those among what happens.
use mathlib.Core.Path.{◌≡◌, refl, ◌∙◌}
use mathlib.Core.Bool.{cond}
use mathlib.Core.List.{List, [], ◌∷◌, ◌++◌}
use Prim.Native.Nat.{◌+◌}
use native.Mathlib.Omega.{arith}
use Rattle.document.specs.Message.{Message, finished_by}
use Rattle.document.specs.Gate.{Gate}
use Rattle.document.specs.Asides.{Aside}
use Rattle.document.specs.Happenings.{Happening, Since, after}
use Rattle.document.specs.Happenings.Happening.{byte, aside}
use Rattle.document.proofs.Cases.{split}
use Rattle.recorder_history.specs.History.{Event, ticks}
use Rattle.recorder_history.specs.History.Event.{tick as ticked, others, stop}
use Rattle.document_outcomes.specs.Starts.{is_stop}
use Rattle.laws_happenings.specs.Recording.{events_of, events_beside, events_at, events, ticks_of}
use Rattle.laws_happenings.specs.Asides.{row, is_tick}

ticks_append : (es fs : List Event) → ticks (es ++ fs) ≡ ticks es + ticks fs
ticks_append [] fs = omega arith
ticks_append (ticked ∷ es) fs = omega (arith, ticks_append es fs)
ticks_append (others memory ∷ es) fs = ticks_append es fs
ticks_append (stop ∷ es) fs = ticks_append es fs

no_message_ticks : (g : Gate) (ms : List Message) → ticks (events_of g ms) ≡ 0
no_message_ticks g [] = refl
no_message_ticks g (m ∷ ms) = split (is_stop g m) (λ t. rw t refl) (λ f. rw f refl)

aside_ticks : (g : Gate) (a : Aside) → ticks (events_beside g a) ≡ cond (is_tick a) 1 0
aside_ticks g a =
    split (is_tick a) (λ is. rw is refl)
    (λ still. split (row a).stores (λ some. rw (still, some) refl) (λ none. rw (still, none) refl))

pub ticks_counted : (hs : List Happening) (s : Since) → ticks (events s hs) ≡ ticks_of hs
ticks_counted [] s = refl
ticks_counted (byte b ∷ hs) s =
    ticks_append (events_at s (byte b)) (events (after s (byte b)) hs)
    ∙ omega (arith, no_message_ticks s.gate (finished_by s.bytes b), ticks_counted hs (after s (byte b)))
ticks_counted (aside a ∷ hs) s =
    ticks_append (events_at s (aside a)) (events (after s (aside a)) hs)
    ∙ omega (arith, aside_ticks s.gate a, ticks_counted hs (after s (aside a)))
