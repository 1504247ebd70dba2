-- What the bytes of a message do to a gate while it ticks and its own program writes: nothing before the last, and
-- then what the definition says.
use mathlib.Core.Path.{◌≡◌, refl, sym, ap, subst, ◌∙◌}
use mathlib.Core.Bool.{true, false}
use mathlib.Core.List.{List, [], ◌∷◌, ◌++◌, append_assoc, append-nil}
use Prim.Native.Nat.{ℕ}
use Rattle.document.specs.Message.{Message, well_formed, on_wire, finished_by}
use Rattle.document.specs.Commands.{answered}
use Rattle.document.specs.Happenings.{Happening, Since, after_messages, after, after_all}
use Rattle.document.specs.Happenings.Happening.{byte, aside}
use Rattle.line_wire.proofs.Pairing.{waits_after}
use Rattle.line_wire.proofs.Resync.{message_last, message_before}
use Rattle.laws_happenings.specs.Bytes.{bytes_of, beside_bytes}

-- none of the bytes finishes a message behind the bytes bs
abbrev Quiet : List ℕ → List ℕ → Type 0
Quiet bs [] = Unit {0}
Quiet bs (b ∷ rest) = (finished_by bs b ≡ []) × Quiet (bs ++ (b ∷ [])) rest

-- the same since reset, with these bytes
abbrev with_bytes : Since → List ℕ → Since
with_bytes s bs = record { bytes = bs; gate = s.gate; answers = s.answers }

-- what happens beside bytes leaves the bytes and the answers as they are
beside_bytes_lem : (hs : List Happening) (s : Since) (bs : List ℕ) →
    ((after_all (with_bytes s bs) (beside_bytes hs)).gate ≡ (after_all s (beside_bytes hs)).gate)
    × ((after_all s (beside_bytes hs)).bytes ≡ s.bytes)
    × ((after_all s (beside_bytes hs)).answers ≡ s.answers)
beside_bytes_lem [] s bs = (refl, refl, refl)
beside_bytes_lem (byte b ∷ hs) s bs = beside_bytes_lem hs s bs
beside_bytes_lem (aside a ∷ hs) s bs = beside_bytes_lem hs (after s (aside a)) bs

-- a byte that finishes nothing is only remembered
byte_quiet : (s : Since) (b : ℕ) → finished_by s.bytes b ≡ [] → after s (byte b) ≡ with_bytes s (s.bytes ++ (b ∷ []))
byte_quiet s b q = ap (λ (ms : List Message). after_messages (with_bytes s (s.bytes ++ (b ∷ []))) ms) q

pub happened_quiet : (hs : List Happening) (s : Since) → Quiet s.bytes (bytes_of hs) →
    after_all s hs ≡ record { bytes = s.bytes ++ bytes_of hs; gate = (after_all s (beside_bytes hs)).gate; answers = s.answers }
happened_quiet [] s q = ap (λ (bs : List ℕ). with_bytes s bs) (sym (append-nil s.bytes))
happened_quiet (byte b ∷ hs) s q =
    let bs : List ℕ = s.bytes ++ (b ∷ []) in
    let bytes : bs ++ bytes_of hs ≡ s.bytes ++ (b ∷ bytes_of hs) = append_assoc s.bytes (b ∷ []) (bytes_of hs) in
    let gate : (after_all (with_bytes s bs) (beside_bytes hs)).gate ≡ (after_all s (beside_bytes hs)).gate = (beside_bytes_lem hs s bs).0 in
    ap (λ (t : Since). after_all t hs) (byte_quiet s b q.0)
    ∙ happened_quiet hs (with_bytes s bs) q.1
    ∙ (λ i. record { bytes = bytes i; gate = gate i; answers = s.answers })
happened_quiet (aside a ∷ hs) s q = happened_quiet hs (after s (aside a)) q

-- ---- a well-formed message, behind bytes that leave no 0x2B waiting
module _ (m : Message) (formed : well_formed m ≡ true) (s : Since) (settled : waits_after s.bytes ≡ false) where
  quiet_before : (rest front : List ℕ) (b : ℕ) → on_wire m ≡ front ++ (rest ++ (b ∷ [])) → Quiet (s.bytes ++ front) rest
  quiet_before [] front b e = tt
  quiet_before (d ∷ []) front b e = (message_before m formed s.bytes settled front d b [] e, tt)
  quiet_before (d ∷ (r ∷ rest)) front b e =
      let next : on_wire m ≡ (front ++ (d ∷ [])) ++ ((r ∷ rest) ++ (b ∷ [])) =
      e ∙ sym (append_assoc front (d ∷ []) ((r ∷ rest) ++ (b ∷ []))) in (
        message_before m formed s.bytes settled front d r (rest ++ (b ∷ [])) e,
        subst (λ (bs : List ℕ). Quiet bs (r ∷ rest)) (sym (append_assoc s.bytes front (d ∷ [])))
            (quiet_before (r ∷ rest) (front ++ (d ∷ [])) b next),
      )

  -- before its last byte, the message's bytes change nothing and get no answer
  pub before_last : (hs : List Happening) (b : ℕ) → on_wire m ≡ bytes_of hs ++ (b ∷ []) →
      after_all s hs ≡ record { bytes = s.bytes ++ bytes_of hs; gate = (after_all s (beside_bytes hs)).gate; answers = s.answers }
  before_last hs b e =
      happened_quiet hs s (subst (λ (bs : List ℕ). Quiet bs (bytes_of hs)) (append-nil s.bytes) (quiet_before (bytes_of hs) [] b e))

  -- its last byte gets the definition's answer, over the gate as it stands then
  pub at_last : (hs : List Happening) (b : ℕ) → on_wire m ≡ bytes_of hs ++ (b ∷ []) →
      after (after_all s hs) (byte b)
      ≡ record {
        bytes = s.bytes ++ on_wire m;
        gate = (answered (after_all s hs).gate m).gate;
        answers = s.answers ++ ((answered (after_all s hs).gate m).answer ∷ []);
      }
  at_last hs b e =
      let t : Since = after_all s hs in
      let bytes : t.bytes ≡ s.bytes ++ bytes_of hs = ap (λ (r : Since). r.bytes) (before_last hs b e) in
      let answers : t.answers ≡ s.answers = ap (λ (r : Since). r.answers) (before_last hs b e) in
      let finished : finished_by t.bytes b ≡ m ∷ [] =
      ap (λ (bs : List ℕ). finished_by bs b) bytes ∙ message_last m formed s.bytes settled (bytes_of hs) b e in
      let all : t.bytes ++ (b ∷ []) ≡ s.bytes ++ on_wire m =
      ap (λ (bs : List ℕ). bs ++ (b ∷ [])) bytes
      ∙ append_assoc s.bytes (bytes_of hs) (b ∷ [])
      ∙ ap (λ (bs : List ℕ). s.bytes ++ bs) (sym e) in
      ap (λ (ms : List Message). after_messages (with_bytes t (t.bytes ++ (b ∷ []))) ms) finished
      ∙ (λ i.
      record {
        bytes = all i;
        gate = (answered t.gate m).gate;
        answers = answers i ++ ((answered t.gate m).answer ∷ []);
      })
