-- A byte for the answer reader: with which number it is refused, and what it comes to.
use mathlib.Core.Path.{◌≡◌, refl, sym, ap, ◌∙◌}
use mathlib.Core.Bool.{true, false}
use mathlib.Core.List.{List}
use Prim.Native.Nat.{ℕ, ◌+◌, ◌<◌, ◌≤◌}
use native.Mathlib.Omega.{arith}
use lib.Dec.{leb, ltb}
use lib.ListN.{length, set, take, drop}
use lib.Seq.{sets, length-sets, take-take, length-take-le}
use borrow.Author.Tests.{le-leb, lt-leb, leb-true, lt-ltb, le-ltb, ltb-false}
use Rattle.document.specs.Numbers.{most_data, taken, state_refused, room_refused, sum_refused}
use Rattle.document.specs.Areas.{bytes_at}
use Rattle.document.specs.AnswerReader.{read_buffer, read_room_refusal}
use Rattle.document.proofs.Cases.{split}
use Rattle.memory_ranges.proofs.Stored.{bytes_behind}
use Rattle.line_reader.specs.declared.head.Asked.{Asked}
use Rattle.line_reader.specs.declared.head.Head.{Head}
use Rattle.line_reader.specs.declared.head.Stepped.{Stepped}
use Rattle.line_reader.specs.Reader.{Step}
use Rattle.line_reader.specs.Head.{with_body, body_after, bringing, head_step}
use Rattle.call_reader.specs.Layout.{body_place, body_length, reader_length, decoded_reader, encoded_head, encoded_reader}
use Rattle.bytes_fields.proofs.Ranges.{bytes_length, sets_same, sets_set}
use Rattle.line_reader.specs.declared.head.Asked.TheVariants as asked
use Rattle.line_reader.specs.Reader as host
use Rattle.call_reader.specs.declared.calls.ReadByte.{ReadByte}
use Rattle.call_reader.specs.Promises.{read_number, without, read_of, ByteRead}

-- ---- the numbers of a byte

module _ (block buffer : List ℕ) where
  pub number_short : length block < reader_length → state_refused ≡ read_number block buffer
  number_short h = sym (rw (lt-leb reader_length (length block) h) refl)

  module _ (long : reader_length ≤ length block) where
    pub number_outside : host.sound (decoded_reader block) ≡ false → state_refused ≡ read_number block buffer
    number_outside e = sym (rw (le-leb reader_length (length block) long, e) refl)

    module _ (ok : host.sound (decoded_reader block) ≡ true) where
      pub number_room : length buffer < most_data → room_refused ≡ read_number block buffer
      unfolding read_room_refusal
      number_room h = sym (rw (le-leb reader_length (length block) long, ok, lt-ltb (length buffer) most_data h) refl)

      pub number_taken : most_data ≤ length buffer → taken ≡ read_number block buffer
      unfolding read_room_refusal
      number_taken h = sym (rw (le-leb reader_length (length block) long, ok, le-ltb (length buffer) most_data h) refl)

  -- and back
  pub number_known : read_number block buffer ≡ taken → (reader_length ≤ length block) × (host.sound (decoded_reader block) ≡ true) × (most_data ≤ length buffer)
  unfolding read_room_refusal
  number_known fine =
      split (leb reader_length (length block))
      (λ long. split (host.sound (decoded_reader block))
      (λ ok. split (ltb (length buffer) most_data)
      (λ less. let e : ◌≡◌ {A = ℕ} room_refused taken = rw (long, ok, less) at fine in absurd (omega arith))
      (λ room. (leb-true reader_length (length block) long, ok, ltb-false (length buffer) most_data room)))
      (λ bad. let e : ◌≡◌ {A = ℕ} state_refused taken = rw (long, bad) at fine in absurd (omega arith)))
      (λ short. let e : ◌≡◌ {A = ℕ} state_refused taken = rw short at fine in absurd (omega arith))

-- ---- a byte, by what it asks for

-- the head and the data behind it
module _ (block : List ℕ) (long : reader_length ≤ length block) (h : Head) where
  abbrev headed : List ℕ
  headed = sets block 0 (encoded_head h)

  headed_body : bytes_at headed body_place body_length ≡ bytes_at block body_place body_length
  headed_body = bytes_behind (encoded_head h) block 0 body_place body_length (omega arith)

  pub head_stored : headed ≡ sets block 0 (encoded_reader (with_body h (bytes_at block body_place body_length)))
  unfolding encoded_reader
  head_stored =
      sym (ap (sets headed body_place) (sym headed_body) ∙ sets_same body_length headed body_place (omega (arith, length-sets block 0 (encoded_head h))))

  pub data_stored : (at b : ℕ) → at < most_data → set headed (body_place + at) b ≡ sets block 0 (encoded_reader (with_body h (set (bytes_at block body_place body_length) at b)))
  unfolding encoded_reader
  data_stored at b k =
      sym
      (ap (λ (l : List ℕ). sets headed body_place (set l at b)) (sym headed_body)
      ∙ sets_set body_length headed body_place at b k (omega (arith, length-sets block 0 (encoded_head h))))

  -- the first data, read behind the head that was stored
  pub data_there : (n : ℕ) → n ≤ most_data → take n (drop body_place headed) ≡ take n (bytes_at block body_place body_length)
  data_there n k = sym (take-take n body_length (drop body_place headed) k) ∙ ap (take n) headed_body

module _ (block : List ℕ) (long : reader_length ≤ length block) (s : Step) (t : Stepped) (e : s ≡ head_step t (bytes_at block body_place body_length)) (buffer : List ℕ) (r : ReadByte) where
  read : (a : Asked) (after told : List ℕ) → t.asks ≡ a
      → r ≡ read_of (bringing a (bytes_at block body_place body_length))
      → after ≡ sets block 0 (encoded_reader (with_body t.next (body_after a (bytes_at block body_place body_length))))
      → told ≡ read_buffer (bringing a (bytes_at block body_place body_length)) buffer → ByteRead s block buffer r after told
  read a after told n h stored told-by = answered
    where
      stepped : Asked → Step
      stepped k = record { next = with_body t.next (body_after k (bytes_at block body_place body_length)); brings = bringing k (bytes_at block body_place body_length) }

      same : s ≡ stepped a
      same = e ∙ ap stepped n

      answered : ByteRead s block buffer r after told
      answered =
          record {
            result = h ∙ ap (λ (q : Step). read_of q.brings) (sym same);
            reader = stored ∙ ap (λ (q : Step). sets block 0 (encoded_reader q.next)) (sym same);
            buffer_told = told-by ∙ ap (λ (q : Step). read_buffer q.brings buffer) (sym same);
          }

  pub read_nothing : (after : List ℕ) → t.asks ≡ asked.Nothing → r ≡ without taken
      → after ≡ sets block 0 (encoded_head t.next) → ByteRead s block buffer r after buffer
  read_nothing after n h a = read asked.Nothing after buffer n h (a ∙ head_stored block long t.next) refl

  pub read_keep : (at b : ℕ) (after : List ℕ) → t.asks ≡ asked.Keep at b → at < most_data → r ≡ without taken
      → after ≡ set (sets block 0 (encoded_head t.next)) (body_place + at) b → ByteRead s block buffer r after buffer
  read_keep at b after n k h a = read (asked.Keep at b) after buffer n h (a ∙ data_stored block long t.next at b k) refl

  pub read_right : (status n : ℕ) (after told : List ℕ) → t.asks ≡ asked.Right status n → n ≤ most_data
      → r ≡ record { refusal = taken; whole = 1; status = status; length = n } → after ≡ sets block 0 (encoded_head t.next)
      → told ≡ sets buffer 0 (take n (drop body_place (sets block 0 (encoded_head t.next)))) → ByteRead s block buffer r after told
  read_right status n after told a few h stored told-by =
      read (asked.Right status n) after told a
      (h ∙ ap (λ (k : ℕ). record { refusal = taken; whole = 1; status = status; length = k }) (sym counted))
      (stored ∙ head_stored block long t.next)
      (told-by ∙ ap (sets buffer 0) (data_there block long t.next n few))
    where
      counted : length (take n (bytes_at block body_place body_length)) ≡ n
      counted = length-take-le n (bytes_at block body_place body_length) (omega (arith, bytes_length block body_place body_length long))

  pub read_wrong : (after : List ℕ) → t.asks ≡ asked.Wrong → r ≡ without sum_refused
      → after ≡ sets block 0 (encoded_head t.next) → ByteRead s block buffer r after buffer
  read_wrong after n h a = read asked.Wrong after buffer n h (a ∙ head_stored block long t.next) refl
