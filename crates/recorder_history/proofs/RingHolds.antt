-- The ring between events: each of the last 'samples' sets stands at its number modulo 'samples', so reading round from the
-- start index gives them in order.
use mathlib.Core.Path.{◌≡◌, refl, sym, ap, ◌∙◌}
use mathlib.Core.Bool.{Bool, false, cond}
use mathlib.Core.List.{List, [], ◌∷◌, ◌++◌, append_assoc, append-nil}
use Prim.Native.Nat.{ℕ, zero, suc, min, ◌+◌, ◌-◌, ◌*◌, ◌%◌, ◌<◌, ◌≤◌}
use native.Mathlib.Nat.{mod-lt, zero-mod, mod-eq-sub-mod}
use native.Mathlib.Numerals.{add-one}
use native.Mathlib.Omega.{arith}
use lib.Dec.{eqb, leb}
use lib.ListN.{length, get_or, take, drop, length-append, length-drop, get_or-append}
use lib.Seq.{sets, length-sets, drop-cons, drop-drop, take_all, get_or-append_seam}
use borrow.Author.Tests.{eqb-true, eqb-false, leb-true, leb-false, lt-leb}
use Rattle.document.specs.Areas.{bytes_at, buffer_begin, memory_end}
use Rattle.document.specs.Variables.{set_size}
use Rattle.document.specs.Plan.{Plan}
use Rattle.document.specs.Run.{Run, place_begins, place_after, full_after, set_of, ran_tick, memory_after_tick}
use Rattle.document.specs.Sets.{read_round, last_of}
use Rattle.recorder_history.specs.History.{PlanFits, Event, Recording, stepped, after, taken_at, taken, LeavesBuffer, AllLeaveBuffer}
use Rattle.recorder_history.specs.History.Event.{tick, others, stop}
use Rattle.document.proofs.Cases.{split}
use Rattle.memory_ranges.proofs.Stored.{bytes_stored}
use Rattle.recorder_history.proofs.Places.{place_next, full_next, place_room, places_apart, other_place}
use Rattle.recorder_history.proofs.Sources.{set_length}
use Rattle.recorder_history.proofs.Ticks.{by_case, stopped_run, stopped_memory, stopped_taken, waits_run, waits_memory, waits_taken, takes_run, takes_memory, takes_taken}

-- the bytes of a place
abbrev pub bytes_of_place : Plan → List ℕ → ℕ → List ℕ
bytes_of_place p m place = bytes_at m (place_begins p place) (set_size p.variables)

-- over the place, the full mark, the memory and the sets h taken so far
pub record RingHolds (p : Plan) (place : ℕ) (full : Bool) (m : List ℕ) (h : List (List ℕ)) : Type 0 where
  pub counted : place ≡ length h % p.samples
  pub filled : full ≡ leb p.samples (length h)
  pub sized : length m ≡ memory_end
  pub held : (j : ℕ) → j < length h → length h ≤ j + p.samples → bytes_of_place p m (j % p.samples) ≡ get_or h j []

module _ (p : Plan) (f : PlanFits p) where
  -- at a start no set is taken
  pub held_start : (m : List ℕ) → length m ≡ memory_end → RingHolds p 0 false m []
  held_start m e =
      record {
        counted = sym (zero-mod p.samples);
        filled = sym (lt-leb p.samples 0 (omega (arith, f.samples)));
        sized = e;
        held = λ j l u. let x : ⊥ = omega arith in absurd x;
      }

  -- a set s more
  module _ (place : ℕ) (full : Bool) (m s : List ℕ) (h : List (List ℕ)) (k : RingHolds p place full m h) (w : length s ≡ set_size p.variables) where
    one_more : length (h ++ (s ∷ [])) ≡ suc (length h)
    one_more = length-append h (s ∷ []) ∙ add-one (length h)

    ends_in_buffer : place_begins p (length h % p.samples) + set_size p.variables ≤ memory_end
    ends_in_buffer =
        omega (
          arith,
          place_room (length h % p.samples) p.samples (set_size p.variables) (mod-lt (length h) {m = p.samples} f.samples),
          f.room,
        )

    stored_held : (j : ℕ) → j < suc (length h) → suc (length h) ≤ j + p.samples
        → bytes_of_place p (sets m (place_begins p (length h % p.samples)) s) (j % p.samples) ≡ get_or (h ++ (s ∷ [])) j []
    stored_held j l u =
        split (eqb j (length h))
        (λ t. let e : j ≡ length h = eqb-true j (length h) t in
        ap (λ (i : ℕ). bytes_of_place p (sets m (place_begins p (length h % p.samples)) s) (i % p.samples)) e
        ∙ bytes_stored s m (place_begins p (length h % p.samples)) (set_size p.variables) w (omega (arith, ends_in_buffer, k.sized))
        ∙ sym (get_or-append_seam h s [] [])
        ∙ ap (λ (i : ℕ). get_or (h ++ (s ∷ [])) i []) (sym e))
        (λ n. let g : j < length h = omega (arith, eqb-false j (length h) n) in
        other_place s m buffer_begin (length h % p.samples) (j % p.samples) (set_size p.variables) w
        (λ e. places_apart j (length h) p.samples g (omega arith) (sym e))
        ∙ k.held j g (omega arith)
        ∙ sym (get_or-append h (s ∷ []) [] j g))

    pub held_set : RingHolds p (place_after p.samples place) (full_after p.samples place full) (sets m (place_begins p place) s) (h ++ (s ∷ []))
    held_set =
        record {
          counted = ap (place_after p.samples) k.counted
              ∙ place_next (length h) p.samples f.samples
              ∙ ap (λ (n : ℕ). n % p.samples) (sym one_more);
          filled = rw (k.counted, k.filled, one_more) (full_next (length h) p.samples);
          sized = length-sets m (place_begins p place) s ∙ k.sized;
          held = λ j l u. rw k.counted (stored_held j (rw one_more at l) (rw one_more at u));
        }

  -- others leave the buffer
  held_others : (place : ℕ) (full : Bool) (m n : List ℕ) (h : List (List ℕ)) → RingHolds p place full m h → length n ≡ memory_end
      → drop buffer_begin n ≡ drop buffer_begin m → RingHolds p place full n h
  held_others place full m n h k e d =
      record {
        counted = k.counted;
        filled = k.filled;
        sized = e;
        held = λ j l u.
            let i = j % p.samples * set_size p.variables in
            ap (take (set_size p.variables)) (sym (drop-drop i buffer_begin n) ∙ ap (drop i) d ∙ drop-drop i buffer_begin m)
            ∙ k.held j l u;
      }

  -- ---- over events

  held_tick : (r : Run) (m : List ℕ) (h : List (List ℕ)) → RingHolds p r.place r.full m h
      → RingHolds p (ran_tick p r m).place (ran_tick p r m).full (memory_after_tick p r m) (h ++ taken_at p (record { run = r; memory = m }) tick)
  held_tick r m h k =
      by_case r
      (λ e. rw (stopped_run p r m e, stopped_memory p r m e, stopped_taken p r m e, append-nil) k)
      (λ e z. rw (waits_run p r m e z, waits_memory p r m e z, waits_taken p r m e z, append-nil) k)
      (λ e z. rw (takes_run p r m e z, takes_memory p r m e z, takes_taken p r m e z)
      (held_set r.place r.full m (set_of p m) h k (set_length p f m k.sized)))

  held_step : (g : Recording) (h : List (List ℕ)) (e : Event) → LeavesBuffer g e → RingHolds p g.run.place g.run.full g.memory h
      → RingHolds p (stepped p g e).run.place (stepped p g e).run.full (stepped p g e).memory (h ++ taken_at p g e)
  held_step g h tick l k = held_tick g.run g.memory h k
  held_step g h (others m) l k = rw append-nil (held_others g.run.place g.run.full g.memory m h k l.0 l.1)
  held_step g h stop l k = rw append-nil k

  pub held_after : (es : List Event) (g : Recording) (h : List (List ℕ)) → RingHolds p g.run.place g.run.full g.memory h
      → AllLeaveBuffer p g es
      → RingHolds p (after p g es).run.place (after p g es).run.full (after p g es).memory (h ++ taken p g es)
  held_after [] g h k q = rw append-nil k
  held_after (e ∷ es) g h k q =
      rw (← append_assoc h (taken_at p g e) (taken p (stepped p g e) es))
      (held_after es (stepped p g e) (h ++ taken_at p g e) (held_step g h e q.0 k) q.1)

  -- ---- reading round

  round_held : (m : List ℕ) (h : List (List ℕ)) (place : ℕ) (full : Bool) → RingHolds p place full m h
      → (n j : ℕ) → j + n ≤ length h → length h ≤ j + p.samples → read_round p m (j % p.samples) n ≡ take n (drop j h)
  round_held m h place full k zero j l u = refl
  round_held m h place full k (suc n) j l u =
      let g : j < length h = omega arith in
      rw (
        place_next j p.samples f.samples,
        drop-cons h j [] g,
        k.held j g u,
        round_held m h place full k n (suc j) (omega arith) (omega arith),
      )

  pub held_read : (m : List ℕ) (h : List (List ℕ)) (place : ℕ) (full : Bool) → RingHolds p place full m h
      → read_round p m (cond full place 0) (min (length h) p.samples) ≡ last_of p.samples h
  held_read m h place full k =
      split (leb p.samples (length h))
      (λ t.
      let l : p.samples ≤ length h = leb-true p.samples (length h) t in
      let n : min (length h) p.samples ≡ p.samples = omega arith in
      rw (k.filled, t, n, k.counted, mod-eq-sub-mod l)
      (round_held m h place full k p.samples (length h - p.samples) (omega arith) (omega arith)
      ∙ take_all p.samples (drop (length h - p.samples) h) (rw length-drop (omega arith))))
      (λ b.
      let l : length h < p.samples = leb-false p.samples (length h) b in
      let n : min (length h) p.samples ≡ length h = omega arith in
      let z : length h - p.samples ≡ 0 = omega arith in
      rw (k.filled, b, n, z)
      (ap (λ (i : ℕ). read_round p m i (length h)) (sym (zero-mod p.samples))
      ∙ round_held m h place full k (length h) 0 (omega arith) (omega arith)
      ∙ take_all (length h) h (omega arith)))
