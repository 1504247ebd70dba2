-- Since a reading began, whatever calls were made: a byte with room gives what the document says of it behind the bytes taken.
use mathlib.Core.Path.{◌≡◌, refl, sym, ap, subst, ◌∙◌}
use mathlib.Core.Bool.{true}
use mathlib.Core.List.{List, [], ◌∷◌, ◌++◌, foldl-append, append_assoc, append-nil}
use Prim.Native.Nat.{ℕ, ◌<◌, ◌≤◌}
use native.Mathlib.Omega.{arith}
use borrow.Author.Tests.{le-leb, le-ltb, lt-ltb, ltb-true, ltb-false, leb-true}
use lib.Dec.{leb, ltb}
use lib.ListN.{length}
use lib.Seq.{sets, length-sets}
use Rattle.document.specs.Numbers.{most_data, taken, room_refused, sum_refused}
use Rattle.document.specs.Answer.{Reading, reading_right, answer_finished_by}
use Rattle.document.specs.AnswerReader.{Brought, brought_by, brought, read_room_refusal, read_refusal, read_buffer}
use Rattle.document.proofs.Cases.{split}
use Rattle.line_reader.specs.Reader.{AnswerReader, Step, sound, fresh, stepped, reader_after}
use Rattle.line_reader.proofs.Reading.{reader_brings, reader_within}
use Rattle.line_reader.proofs.Idle.{wrong_idle, after_size}
use Rattle.call_reader.specs.Layout.{reader_length, decoded_reader, encoded_reader}
use Rattle.call_reader.specs.Promises.{begin_number, BeginDone, read_number, without, read_of}
use Rattle.call_reader.proofs.Back.{stored_reader}
use Rattle.call_reader.specs.declared.calls.ReadByte.{ReadByte}
use Rattle.laws_ends.specs.Readings.{ByRead, Readings, Reads, FinishedWrong, SixExactly}
use Rattle.laws_ends.specs.Readings.Readings.{ends, reads, refuses}
use Rattle.laws_ends.proofs.ByNumber.{where_taken, where_refused}

-- the block holds the reader after these bytes
record Holds (n : ℕ) (bs block : List ℕ) : Type 0 where
  long : reader_length ≤ length block
  reader : decoded_reader block ≡ reader_after n bs

holds_stored : (n : ℕ) (bs block : List ℕ) (r : AnswerReader) → reader_length ≤ length block → r ≡ reader_after n bs → Holds n bs (sets block 0 (encoded_reader r))
holds_stored n bs block r long e =
    record {
      long = omega (arith, long, length-sets block 0 (encoded_reader r));
      reader = stored_reader block r long (ap (λ (q : AnswerReader). length q.body) e ∙ after_size n bs) ∙ e;
    }

after_one : (n : ℕ) (bs : List ℕ) (b : ℕ) → (stepped (reader_after n bs) b).next ≡ reader_after n (bs ++ (b ∷ []))
unfolding reader_after
after_one n bs b = sym (foldl-append (λ (r : AnswerReader) (c : ℕ). (stepped r c).next) (fresh n) bs (b ∷ []))

module _ (n : ℕ) (few : n ≤ most_data) (bs block : List ℕ) (h : Holds n bs block) (b : ℕ) where
  within : sound (decoded_reader block) ≡ true
  within = ap sound h.reader ∙ reader_within n bs few

  brings : (stepped (decoded_reader block) b).brings ≡ brought n bs b
  brings = ap (λ (r : AnswerReader). (stepped r b).brings) h.reader ∙ reader_brings n bs b few

  has_room : (buffer : List ℕ) → most_data ≤ length buffer → read_number block buffer ≡ taken
  unfolding read_room_refusal
  has_room buffer room = rw (le-leb reader_length (length block) h.long, within, le-ltb (length buffer) most_data room) refl

  no_room : (buffer : List ℕ) → length buffer < most_data → read_number block buffer ≡ room_refused
  unfolding read_room_refusal
  no_room buffer short = rw (le-leb reader_length (length block) h.long, within, lt-ltb (length buffer) most_data short) refl

  module _ (next : List ℕ) (c : ByRead block b next) where
    abbrev step : Step
    step = stepped (decoded_reader block) b

    abbrev number : ℕ
    number = read_number block c.buffer

    next_holds : most_data ≤ length c.buffer → Holds n (bs ++ (b ∷ [])) next
    next_holds room =
        subst (λ (l : List ℕ). Holds n (bs ++ (b ∷ [])) l)
        (sym (where_taken number next (sets block 0 (encoded_reader step.next)) block (has_room c.buffer room) c.promised.reader))
        (holds_stored n (bs ++ (b ∷ [])) block step.next h.long (ap (λ (r : AnswerReader). (stepped r b).next) h.reader ∙ after_one n bs b))

    same_holds : length c.buffer < most_data → Holds n bs next
    same_holds short =
        subst (λ (l : List ℕ). Holds n bs l)
        (sym (where_refused number next (sets block 0 (encoded_reader step.next)) block (λ e. absurd (omega (arith, no_room c.buffer short, e))) c.promised.reader))
        h

    read_gives : most_data ≤ length c.buffer → Reads n bs b c.buffer c.result next c.told
    read_gives room =
        let fine = has_room c.buffer room in
        record {
          result = where_taken number c.result (read_of step.brings) (without number) fine c.promised.result ∙ ap read_of brings;
          buffer_told =
              where_taken number c.told (read_buffer step.brings c.buffer) c.buffer fine c.promised.buffer_told
              ∙ ap (λ (k : Brought). read_buffer k c.buffer) brings;
          idle_after = λ bad.
              ap (λ (r : AnswerReader). r.phase) ((next_holds room).reader ∙ sym (ap (λ (r : AnswerReader). (stepped r b).next) h.reader ∙ after_one n bs b))
              ∙ wrong_idle (decoded_reader block) b (brings ∙ bad);
        }

    -- without room the number is 3
    short_number : length c.buffer < most_data → c.result.refusal ≡ room_refused
    short_number short =
        let no = no_room c.buffer short in
        ap (λ (r : ReadByte). r.refusal)
        (where_refused number c.result (read_of step.brings) (without number) (λ e. absurd (omega (arith, no, e))) c.promised.result)
        ∙ no

-- ---- 6, by what the byte finishes

number_of : (k : Brought) → (read_of k).refusal ≡ read_refusal k
number_of Brought.nothing = refl
number_of (Brought.answer a) = refl
number_of Brought.wrong = refl

module _ (n : ℕ) (bs : List ℕ) (b : ℕ) where
  wrong_only : read_refusal (brought n bs b) ≡ sum_refused → FinishedWrong n bs b
  unfolding brought
  wrong_only six = by (answer_finished_by n bs b) refl
    where
      by : (rs : List Reading) → answer_finished_by n bs b ≡ rs → FinishedWrong n bs b
      by [] e = let z : ⊥ = omega (arith, rw e at six) in absurd z
      by (r ∷ rs) e =
          split (reading_right r)
          (λ right. let z : ⊥ = omega (arith, rw (e, right) at six) in absurd z)
          (λ wrong. record { reading = r; others = rs; finished = e; wrong = wrong })

  wrong_always : FinishedWrong n bs b → read_refusal (brought n bs b) ≡ sum_refused
  unfolding brought
  wrong_always f = ap (λ (rs : List Reading). read_refusal (brought_by rs)) f.finished ∙ rw f.wrong refl

holds_after : (n : ℕ) → n ≤ most_data → (bs more block last : List ℕ) → Readings block more last → Holds n bs block → Holds n (bs ++ more) last
holds_after n few bs more block last (ends _) h = subst (λ (l : List ℕ). Holds n l block) (sym (append-nil bs)) h
holds_after n few bs more block last (reads _ next _ b rest call room run) h =
    subst (λ (l : List ℕ). Holds n l last) (append_assoc bs (b ∷ []) rest)
    (holds_after n few (bs ++ (b ∷ [])) rest next last run (next_holds n few bs block h b next call room))
holds_after n few bs more block last (refuses _ next _ b _ call short run) h =
    holds_after n few bs more next last run (same_holds n few bs block h b next call short)

-- ---- since a beginning that is taken

begun_known : (block : List ℕ) (n : ℕ) → begin_number block n ≡ taken → (reader_length ≤ length block) × (n ≤ most_data)
begun_known block n fine =
    split (leb reader_length (length block))
    (λ long. split (ltb most_data n)
    (λ many. absurd (omega (arith, rw (long, many) at fine)))
    (λ few. (leb-true reader_length (length block) long, ltb-false most_data n few)))
    (λ short. absurd (omega (arith, rw short at fine)))

module _ (block : List ℕ) (n r : ℕ) (begun : List ℕ) (begin : BeginDone block n r begun) (fine : r ≡ taken) (bs last : List ℕ) (run : Readings begun bs last) where
  known : (reader_length ≤ length block) × (n ≤ most_data)
  known = begun_known block n (sym begin.result ∙ fine)

  holds : Holds n bs last
  unfolding reader_after
  holds =
      holds_after n known.1 [] bs begun last run
      (subst (λ (l : List ℕ). Holds n [] l)
      (sym (where_taken (begin_number block n) begun (sets block 0 (encoded_reader (fresh n))) block (sym begin.result ∙ fine) begin.reader))
      (holds_stored n [] block (fresh n) known.0 refl))

  pub readings_give : (b : ℕ) (next : List ℕ) (call : ByRead last b next) → most_data ≤ length call.buffer
      → Reads n bs b call.buffer call.result next call.told
  readings_give b next call room = read_gives n known.1 bs last holds b next call room

  -- "6 a finished answer whose sum is wrong"
  pub six_exactly : (b : ℕ) (next : List ℕ) (call : ByRead last b next) → SixExactly n bs b call.buffer call.result
  six_exactly b next call =
      let refusal : most_data ≤ length call.buffer → call.result.refusal ≡ read_refusal (brought n bs b) =
      λ room. ap (λ (q : ReadByte). q.refusal) (readings_give b next call room).result ∙ number_of (brought n bs b) in
      record {
        only = λ six.
            split (ltb (length call.buffer) most_data)
            (λ less.
            let z : ⊥ = omega (arith, six, short_number n known.1 bs last holds b next call (ltb-true (length call.buffer) most_data less)) in absurd z)
            (λ enough.
            let room = ltb-false (length call.buffer) most_data enough in
            (room, wrong_only n bs b (sym (refusal room) ∙ six)));
        always = λ room wrong. refusal room ∙ wrong_always n bs b wrong;
      }
