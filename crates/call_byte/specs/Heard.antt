-- What a byte brought, and the turn that it makes.
use Rattle.std.specs.Prelude.{◌≡◌, Bool, true, List, ℕ, Option, None, Some}
use Rattle.std.proofs.lemmas.List.Edits.{sets}
use Rattle.document.specs.Message.{length_fits}
use Rattle.line_receiver.specs.declared.Event.{Event}
use Rattle.line_receiver.specs.declared.Event.TheVariants.{Nothing, Keep, Whole}
use Rattle.line_receiver.specs.Step.{stepped}
use Rattle.state_parts.specs.State.{Target}
use Rattle.state_byte.specs.Turn.{Turn, hearing, silent, answering}
use Rattle.state_block.specs.Layout.{decoded, decoded_receiver, encoded}
use Rattle.serve_message.specs.declared.Whole.{Whole as Message}

abbrev pub heard_of : Event → Option Message
heard_of Nothing = None
heard_of (Keep at b) = None
heard_of (Whole command n sum) = Some (record { command = command; length = n; sum = sum })

abbrev pub answered_by : Target → Option Message → List ℕ → List ℕ → Turn
answered_by t None memory buffer = silent t memory buffer
answered_by t (Some m) memory buffer = answering t m.command m.length m.sum memory buffer

-- a byte is heard: what it brought, and the block with the receiver behind it
pub record Hears (block : List ℕ) (b : ℕ) (heard : Option Message) (after : List ℕ) : Type 0 where
  pub brought : heard ≡ heard_of (stepped (decoded_receiver block) b).event
  pub state : after ≡ sets block 0 (encoded (hearing (decoded block) b))

-- a message has the length that its command gives
abbrev pub is_framed : Option Message → Bool
is_framed None = true
is_framed (Some m) = length_fits m.command m.length
