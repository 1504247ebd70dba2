-- Demand 3 of the definition and of the receiver, over any bytes since reset: resynchronising, nothing by half, and
-- that what the command writer writes is taken as that message.
use Prim.Native.Nat.{ℕ, ◌<◌}
use mathlib.Core.Path.{◌≡◌, refl, sym, ◌∙◌, ap}
use mathlib.Core.List.{List, [], ◌∷◌, ◌++◌, map, nil≢cons, head-eq_of_cons-eq, tail-eq_of_cons-eq}
use mathlib.Core.Bool.{true, false}
use lib.ListN.{length, take, get_or}
use Rattle.document.specs.Message.{Message, length_part, well_formed, on_wire, summed, finished_by}
use Rattle.line_wire.proofs.RightSum.{sum_right_lem}
use Rattle.line_wire.proofs.Resync.{message_last, message_before, message_settled}
use Rattle.line_wire.proofs.Half.{EndsWith, whole_on_wire, no_other}
use Rattle.line_receiver.specs.Report.{HeldMessage, held, reporting}
use Rattle.line_receiver.specs.Runs.{odd_run}
use Rattle.line_receiver.specs.Demands.{OnlyAtLast, EndIn, ReportOfWhole}
use Rattle.line_receiver.proofs.Runs.{waits_odd}
use Rattle.line_receiver.proofs.Reports.{reports}

-- ---- the definition
-- Behind an even run or none, a well-formed message is found at its last byte.
pub found_after_even : (bs : List ℕ) (m : Message) → odd_run bs ≡ false → well_formed m ≡ true →
    OnlyAtLast finished_by bs (on_wire m) m
found_after_even bs m even formed =
    record {
      last = message_last m formed bs (waits_odd bs ∙ even);
      before = message_before m formed bs (waits_odd bs ∙ even);
    }

-- Behind any run, so also behind an odd one, the next message sent directly behind the first is.
pub found_next : (bs : List ℕ) (m next : Message) → well_formed m ≡ true → well_formed next ≡ true →
    OnlyAtLast finished_by (bs ++ on_wire m) (on_wire next) next
found_next bs m next formed formed' =
    found_after_even (bs ++ on_wire m) next (sym (waits_odd (bs ++ on_wire m)) ∙ message_settled m formed bs) formed'

-- A byte that finishes a message ends exactly that message, and finishes no other.
pub finishes_whole : (bs : List ℕ) (b : ℕ) → ((i : ℕ) → get_or (bs ++ (b ∷ [])) i 0 < 256) →
    (m : Message) (more : List Message) →
    finished_by bs b ≡ m ∷ more → EndIn (bs ++ (b ∷ [])) m × (more ≡ [])
finishes_whole bs b bytes m more finished =
    let whole : EndsWith (bs ++ (b ∷ [])) m = whole_on_wire bs b bytes m more finished in (
      record {
        before = whole.before;
        even_run = sym (waits_odd whole.before) ∙ whole.settled;
        sent = whole.there;
        formed = whole.formed;
      },
      no_other bs b bytes m more finished,
    )

-- ---- the receiver, whatever the 64 bytes beside it held at reset
module _ (body : List ℕ) (full : length body ≡ 64) where
  reported_too : (bs sent : List ℕ) (m : Message) → OnlyAtLast finished_by bs sent m →
      OnlyAtLast (reporting body) bs sent (held m)
  reported_too bs sent m found =
      record {
        last =
            λ front b e. reports body full (bs ++ front) b ∙ ap (λ (ms : List Message). map held ms)
            (found.last front b e);
        before =
            λ front b next rest e. reports body full (bs ++ front) b ∙ ap (λ (ms : List Message). map held ms)
            (found.before front b next rest e);
      }

  pub resync_after_even : (bs : List ℕ) (m : Message) → odd_run bs ≡ false → well_formed m ≡ true →
      OnlyAtLast (reporting body) bs (on_wire m) (held m)
  resync_after_even bs m even formed = reported_too bs (on_wire m) m (found_after_even bs m even formed)

  pub resync_next : (bs : List ℕ) (m next : Message) → well_formed m ≡ true → well_formed next ≡ true →
      OnlyAtLast (reporting body) (bs ++ on_wire m) (on_wire next) (held next)
  resync_next bs m next formed formed' =
      reported_too (bs ++ on_wire m) (on_wire next) next (found_next bs m next formed formed')

  -- What the command writer writes is reported as that message, its sum right.
  pub command_reported : (bs : List ℕ) (c : ℕ) (data' : List ℕ) → odd_run bs ≡ false →
      well_formed (summed c data') ≡ true →
      OnlyAtLast (reporting body) bs (on_wire (summed c data'))
      (record { command = c; length = length data'; kept = take 64 data'; sum = 0 })
  command_reported bs c data' even formed =
      rw (sum_right_lem (c ∷ length_part c data' ++ data')) at (resync_after_even bs (summed c data') even formed)

  -- Nothing by half: a report is of a whole message that ends with this byte, and there is one at most.
  of_whole : (bs : List ℕ) (b : ℕ) → ((i : ℕ) → get_or (bs ++ (b ∷ [])) i 0 < 256) →
      (report : HeldMessage) (more : List HeldMessage) (ms : List Message) →
      finished_by bs b ≡ ms → map held ms ≡ report ∷ more → ReportOfWhole (bs ++ (b ∷ [])) report × (more ≡ [])
  of_whole bs b bytes report more [] finished e = absurd (nil≢cons e)
  of_whole bs b bytes report more (m ∷ ms) finished e =
      let whole : EndIn (bs ++ (b ∷ [])) m × (ms ≡ []) = finishes_whole bs b bytes m ms finished in (
        record { message = m; shown = head-eq_of_cons-eq e; sent = whole.0 },
        sym (rw whole.1 at (tail-eq_of_cons-eq e)),
      )

  pub nothing_by_half : (bs : List ℕ) (b : ℕ) → ((i : ℕ) → get_or (bs ++ (b ∷ [])) i 0 < 256) →
      (report : HeldMessage) (more : List HeldMessage) →
      reporting body bs b ≡ report ∷ more → ReportOfWhole (bs ++ (b ∷ [])) report × (more ≡ [])
  nothing_by_half bs b bytes report more e =
      of_whole bs b bytes report more (finished_by bs b) refl (sym (reports body full bs b) ∙ e)
