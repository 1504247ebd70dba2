-- A byte keeps everything within bounds and widths, so that a call over many bytes need look at the state once.
use mathlib.Core.Path.{◌≡◌, refl, sym, subst, ◌∙◌}
use mathlib.Core.List.{List}
use Prim.Native.Nat.{ℕ, ◌<◌, ◌≤◌}
use native.Mathlib.Omega.{arith}
use lib.ListN.{length, length-set, length-take}
use Rattle.document.specs.Numbers.{most_data}
use Rattle.document.specs.Bytes.{AllBytes}
use Rattle.line_receiver.specs.declared.Event.{Event}
use Rattle.line_receiver.specs.declared.Event.TheVariants.{Nothing, Keep, Whole}
use Rattle.line_receiver.specs.Step.{stepped}
use Rattle.line_receiver.specs.Report.{HeldMessage}
use Rattle.line_receiver.proofs.Sound.{step_sound}
use Rattle.line_receiver.proofs.Events.{kept_byte, command_byte}
use Rattle.state_parts.specs.State.{Target, gate_of}
use Rattle.state_parts.specs.Within.{TablesWithin, LinkWithin, Within}
use Rattle.state_parts.proofs.ByteLaws.{all_set, all_take}
use Rattle.state_byte.proofs.HeldLaws.{scope_within, recorder_within, application_within, tables_held, memory_within}
use Rattle.state_byte.specs.Turn.{Turn, held_by, turn}
use Rattle.state_byte.proofs.TurnLaws.{next_of, by_event}

module _ (t : Target) (memory buffer : List ℕ) (w : Within t memory) (b : ℕ) (small : b < 256) where
  abbrev next : Target
  next = next_of t b memory buffer

  link_next : LinkWithin (next_of t b memory buffer)
  link_next =
      record {
        receiver = step_sound t.receiver b w.link_part.receiver;
        command = command_byte t.receiver b w.link_part.command small;
        size = w.link_part.size;
        body = w.link_part.body;
      }

  pub byte_keeps : Within (turn t b memory buffer).next (turn t b memory buffer).memory
  byte_keeps = by (stepped t.receiver b).event refl
    where
      by : (e : Event) → (stepped t.receiver b).event ≡ e → Within (turn t b memory buffer).next (turn t b memory buffer).memory
      by Nothing e =
          subst (λ (u : Turn). Within u.next u.memory) (sym (by_event t b memory buffer Nothing e))
          (record { link_part = link_next; scope_part = w.scope_part; recorder_part = w.recorder_part; application_part = w.application_part; tables_part = w.tables_part; memory_part = w.memory_part })
      by (Keep at v) e =
          subst (λ (u : Turn). Within u.next u.memory) (sym (by_event t b memory buffer (Keep at v) e))
          (record {
            link_part =
                record {
                  receiver = link_next.receiver;
                  command = link_next.command;
                  size = length-set t.body at v ∙ w.link_part.size;
                  body = all_set t.body at v w.link_part.body (subst (λ (k : ℕ). k < 256) (sym (kept_byte t.receiver b at v e)) small);
                };
            scope_part = w.scope_part;
            recorder_part = w.recorder_part;
            application_part = w.application_part;
            tables_part = w.tables_part;
            memory_part = w.memory_part;
          })
      by (Whole c n sum) e =
          let H : HeldMessage = held_by next c n sum in
          let all : AllBytes H.kept = all_take n t.body w.link_part.body in
          let few : length H.kept ≤ most_data = simp length-take (omega (arith, w.link_part.size)) in
          subst (λ (u : Turn). Within u.next u.memory) (sym (by_event t b memory buffer (Whole c n sum) e))
          (record {
            link_part = record { receiver = link_next.receiver; command = link_next.command; size = link_next.size; body = link_next.body };
            scope_part = scope_within t.instruments H all w.scope_part;
            recorder_part = recorder_within t.instruments H all w.recorder_part;
            application_part = application_within t.instruments H all few w.application_part;
            tables_part = subst TablesWithin (sym (tables_held t.instruments H)) w.tables_part;
            memory_part = memory_within (gate_of t.instruments memory) H all w.memory_part;
          })
