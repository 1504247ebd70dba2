-- The result of an application command, told until the next is sent; and the buffer behind a collected one.
use mathlib.Core.Path.{◌≡◌, refl, sym, ap, ◌∙◌}
use mathlib.Core.Bool.{true}
use mathlib.Core.List.{List, [], ◌∷◌, ◌++◌}
use Prim.Native.Nat.{ℕ, ◌<◌}
use native.Mathlib.Omega.{arith}
use Rattle.document.specs.Numbers.{done}
use Rattle.document.specs.Message.{Message, finished_by}
use Rattle.document.specs.Application.{Application, is_collected, result_byte, after_report}
use Rattle.document.specs.Application.Application.{none, waiting, collected, ended}
use Rattle.document.specs.Gate.{Gate, says}
use Rattle.document.specs.Asides.{beside}
use Rattle.document.specs.Asides.Aside.{reports}
use Rattle.document.specs.Happenings.{Happening, Since, after, after_all}
use Rattle.document.specs.Happenings.Happening.{byte, aside}
use Rattle.document.proofs.Cases.{neither}
use Rattle.laws_happenings.specs.Bytes.{AreBytes, bytes_of}
use Rattle.laws_happenings.specs.Applying.{sent_of}
use Rattle.laws_happenings.proofs.Resync.{bytes_after}
use Rattle.laws_happenings.proofs.Applying.{result_kept, result_asked}
use Rattle.demands.specs.Board.{Board, gate_in}
use Rattle.demands.specs.Run.{Step, Run}
use Rattle.demands.specs.Applying.{TellsResult}
use Rattle.demands.proofs.Reached.{Reached}
use Rattle.demands.proofs.Besides.{report_taken}
use Rattle.demands.proofs.Runs.{reached_step}
use Rattle.demands.proofs.Blocks.{reached_run}
use Rattle.demands.proofs.Applying.{only_said}

-- ---- a result that was reported

report_ends : (result : ℕ) (a : Application) → is_collected a ≡ true → after_report result a ≡ ended result
report_ends result none is = neither is
report_ends result (waiting command) is = neither is
report_ends result collected is = refl
report_ends result (ended before) is = neither is

module _ (h : Board) (s : Since) (r : Reached h s) (result : ℕ) (reported : Board) (report : Step h (aside (reports result)) reported) where
  reached_reported : Reached reported (after s (aside (reports result)))
  reached_reported = reached_step h s r (aside (reports result)) reported (omega (arith, (report_taken h s r result reported report).0), tt) report

  is_in_lem : (after s (aside (reports result))).gate.application ≡ ended result
  unfolding beside
  is_in_lem =
      report_ends result s.gate.application (ap (λ (g : Gate). is_collected g.application) (sym r.stands.gate) ∙ (report_taken h s r result reported report).1)

  module _ (hs : List Happening) (before : Board) (are : AreBytes hs) (on : Run reported hs before) (unsent : sent_of (after s (aside (reports result))) hs ≡ []) where
    then : Reached before (after_all (after s (aside (reports result))) hs)
    then = reached_run reported before hs on (after s (aside (reports result))) are reached_reported

    pub told_result : (b : ℕ) (last : Board) → b < 256 → Step before (byte b) last → (m : Message) (more : List Message)
        → finished_by (s.bytes ++ bytes_of hs) b ≡ m ∷ more → TellsResult result m before last
    told_result b last small step m more finished is so_far =
        let t : Since = after_all (after s (aside (reports result))) hs in
        let end = reached_step before t then (byte b) last small step in
        let command : (gate_in before).application ≡ ended result =
        ap (λ (g : Gate). g.application) then.stands.gate ∙ result_kept hs (after s (aside (reports result))) result unsent is_in_lem in
        only_said before last t then.stands b end.stands m more
        (ap (λ (l : List ℕ). finished_by l b) (bytes_after hs (after s (aside (reports result)))) ∙ finished)
        done (result ∷ [])
        (result_asked (gate_in before) m is so_far ∙ ap (λ (a : Application). says (gate_in before) done (result_byte a ∷ [])) command)
