-- Nothing is new, or the command is copied out and its phase moves on.
use mathlib.Core.Path.{◌≡◌, sym, ap, ◌∙◌}
use Prim.Native.Nat.{ℕ, ◌+◌, ◌-◌, ◌≤◌}
use native.Mathlib.Omega.{arith}
use lib.ListN.{length, take, drop, length-take}
use lib.Seq.{sets, take-take}
use Rattle.document.specs.Numbers.{most_data}
use Rattle.document.specs.Areas.{bytes_at}
use Rattle.document.specs.Application.{new_command}
use Rattle.application_state.specs.State.{is_waiting, is_collected, Command, application_of, collected_command}
use Rattle.application_state.proofs.Means.{nothing_new, new_waits, collected_none, collected_some, waiting_few}
use Rattle.bytes_fields.proofs.Ranges.{bytes_length}
use Rattle.state_parts.specs.State.{with_application}
use Rattle.state_block.specs.Places.{command_place, scope_place}
use Rattle.state_block.specs.Layout.{decoded_application, encoded_application, encoded_instruments, decoded_instruments}
use Rattle.state_block.proofs.Stored.{same_instruments, head_stored}
use borrow.Author.Rules.{rules}
use Rattle.application_block.proofs.collect.Goals as goal

pub returns-then-state-ne-WAITING : goal.returns-then-state-ne-WAITING
unfolding decoded_application
returns-then-state-ne-WAITING c =
    let block = c.args.state.now in
    let buffer = c.args.out.now in
    let none-new = nothing_new (decoded_application c.args.state.now) c.if-state-ne-WAITING.true in
    record {
      result = sym (ap length none-new);
      state =
          sym
          (ap (λ (d : Command). sets block scope_place (encoded_instruments (with_application (decoded_instruments block) d)))
          (collected_none (decoded_application c.args.state.now) c.if-state-ne-WAITING.true)
          ∙ same_instruments block c.requires.0 (λ i. (c.slice_known-1.given i).fits));
      buffer_told = sym (ap (sets buffer 0) none-new);
    }

pub slice_bounds-copy_in-end : goal.slice_bounds-copy_in-end
unfolding decoded_application
slice_bounds-copy_in-end c =
    let waits : (decoded_application c.args.state.now).phase ≡ is_waiting = c.if-state-ne-WAITING.false in
    let counted : c.from-count.result ≡ (decoded_application c.args.state.now).count = c.from-count.ensures in
    let few : c.from-count.result ≤ most_data = omega (arith, counted, waiting_few (decoded_application c.args.state.now) c.requires.1 waits) in
    search (rules, few)

pub copy_in-requires : goal.copy_in-requires
unfolding decoded_application
copy_in-requires c =
    let waits : (decoded_application c.args.state.now).phase ≡ is_waiting = c.if-state-ne-WAITING.false in
    let counted : c.from-count.result ≡ (decoded_application c.args.state.now).count = c.from-count.ensures in
    let few : c.from-count.result ≤ most_data = omega (arith, counted, waiting_few (decoded_application c.args.state.now) c.requires.1 waits) in
    omega (arith, length-take c.from-count.result (drop command_place c.args.state.now), few, c.requires.2)

pub returns : goal.returns
unfolding encoded_application decoded_application
returns c =
    let waits : (decoded_application c.args.state.now).phase ≡ is_waiting = c.if-state-ne-WAITING.false in
    let counted : c.from-count.result ≡ (decoded_application c.args.state.now).count = c.from-count.ensures in
    let few : c.from-count.result ≤ most_data = omega (arith, counted, waiting_few (decoded_application c.args.state.now) c.requires.1 waits) in
    let block = c.args.state.now in
    -- what is copied out is what is new
    let copied_new : new_command (application_of (decoded_application block)) ≡ bytes_at block command_place c.from-count.result =
    new_waits (decoded_application block) waits
    ∙ ap (λ (n : ℕ). take n (bytes_at block command_place most_data)) (sym counted)
    ∙ take-take c.from-count.result most_data (drop command_place block) few in
    let count : ℕ = c.from-count.result in
    let length_back : command_place + count - command_place ≡ count = omega arith in
    record {
      result =
          sym
          (ap length copied_new
          ∙ bytes_length block command_place count (omega (arith, c.requires.0, few)));
      state =
          head_stored block c.requires.0 (λ i. (c.slice_known-1.given i).fits) 0 is_collected (collected_command (decoded_application c.args.state.now)) (omega arith)
          (ap encoded_application (sym (collected_some (decoded_application c.args.state.now) waits)));
      buffer_told =
          c.copy_in.ensures
          ∙ ap (λ (n : ℕ). sets c.args.out.now 0 (bytes_at block command_place n)) length_back
          ∙ ap (sets c.args.out.now 0) (sym copied_new);
    }
