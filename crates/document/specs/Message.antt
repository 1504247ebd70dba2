-- Messages: from the other end of the cable to the target.
use Rattle.std.specs.Prelude.{Bool, cond, not, ◌&&◌, List, [], ◌∷◌, ◌++◌, ℕ, length, take, drop, get_or, ltb, leb, eqb}
use Rattle.document.specs.Kinds.{has_length_byte, fast_length}
use Rattle.document.specs.Sum.{adds_up, sum_byte_of}
use Rattle.document.specs.Doubling.{stuffed}
use Rattle.document.specs.Pairing.{Placed, paired, opened, opened_at}

pub record Message : Type 0 where
  pub command : ℕ
  pub body : List ℕ
  pub sum_byte : ℕ

-- "length if present"
abbrev pub length_part : ℕ → List ℕ → List ℕ
length_part c body = cond (has_length_byte c) (length body ∷ []) []

-- "Command, length if present, data and sum byte add up to 0 modulo 256."
abbrev pub sum_right : Message → Bool
sum_right m = adds_up (m.command ∷ length_part m.command m.body ++ m.body ++ (m.sum_byte ∷ []))

-- "Well-formed means: a command other than 0x2B, its length where it has one, so many data bytes, any sum byte."
abbrev pub length_fits : ℕ → ℕ → Bool
length_fits c n = cond (has_length_byte c) (leb n 255) (eqb n (fast_length c))

unfoldable pub well_formed : Message → Bool
well_formed m = not (eqb m.command 0x2B) && length_fits m.command (length m.body)

-- a start byte and the stuffed message: "every 0x2B in length, data and sum byte is doubled"
unfoldable pub on_wire : Message → List ℕ
on_wire m =
    0x2B ∷ m.command ∷ stuffed (length_part m.command m.body ++ m.body ++ (m.sum_byte ∷ []))

-- the message with its right sum byte
abbrev pub summed : ℕ → List ℕ → Message
summed c body = record { command = c; body = body; sum_byte = sum_byte_of (c ∷ length_part c body ++ body) }

-- "Data and one sum byte follow.": n data bytes and a sum byte, where they are all there
abbrev pub of_length : ℕ → ℕ → List ℕ → List Message
of_length c n ls = cond (ltb n (length ls)) (record { command = c; body = take n ls; sum_byte = get_or ls n 0 } ∷ []) []

abbrev pub after_length_byte : ℕ → List ℕ → List Message
after_length_byte c [] = []
after_length_byte c (n ∷ ls) = of_length c n ls

-- "The first literal after it is the command"
abbrev pub whole_message : List ℕ → List Message
whole_message [] = []
whole_message (c ∷ ls) = cond (has_length_byte c) (after_length_byte c ls) (of_length c (fast_length c) ls)

-- the messages in the bytes since reset, in order
unfoldable pub heard : List ℕ → List Message
heard bs = opened whole_message (paired bs)

-- the same, each with the place of its start byte
unfoldable pub heard_at : List ℕ → List (Placed Message)
heard_at bs = opened_at whole_message 0 (paired bs)

-- "The answer comes with the sum byte's last wire byte, once.": what the byte b finishes, after the bytes bs
unfoldable pub finished_by : List ℕ → ℕ → List Message
unfolding heard
finished_by bs b = drop (length (heard bs)) (heard (bs ++ (b ∷ [])))
