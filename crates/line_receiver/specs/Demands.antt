-- What demand 3 says of bytes, in its words: a thing that comes with its last byte, once, and bytes that end in a
-- whole message.
use Rattle.std.specs.Prelude.{ℕ, ◌≡◌, List, [], ◌∷◌, ◌++◌, true, false}
use Rattle.document.specs.Message.{Message, well_formed, on_wire}
use Rattle.line_receiver.specs.Runs.{odd_run}
use Rattle.line_receiver.specs.Report.{HeldMessage, held}

-- Where `brings bs b` is what the byte b brings behind the bytes bs: of `sent`, behind bs, the last byte brings just a,
-- and no byte before it brings anything.
pub record OnlyAtLast {A : Type 0} (brings : List ℕ → ℕ → List A) (bs sent : List ℕ) (a : A) : Type 0 where
  pub last : (front : List ℕ) (b : ℕ) → sent ≡ front ++ (b ∷ []) → brings (bs ++ front) b ≡ a ∷ []
  pub before : (front : List ℕ) (b next : ℕ) (rest : List ℕ) → sent ≡ front ++ (b ∷ next ∷ rest) →
      brings (bs ++ front) b ≡ []

-- These bytes end in a start and exactly one stuffed, well-formed message. An even run before its start byte makes that
-- a start in the pairing of them all.
pub record EndIn (bytes : List ℕ) (m : Message) : Type 0 where
  pub before : List ℕ
  pub even_run : odd_run before ≡ false
  pub sent : bytes ≡ before ++ on_wire m
  pub formed : well_formed m ≡ true

-- what is reported is all of such a message
pub record ReportOfWhole (bytes : List ℕ) (report : HeldMessage) : Type 0 where
  pub message : Message
  pub shown : held message ≡ report
  pub sent : EndIn bytes message
