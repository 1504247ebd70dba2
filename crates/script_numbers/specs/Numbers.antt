-- What a word says: a byte in hex, or a decimal number of up to 64 bits.
use Rattle.std.specs.Prelude.{cond, List, [], ◌∷◌, ℕ, ◌+◌, ◌-◌, ◌*◌, ◌^◌, ltb, eqb, length, get_or, Option, Some, None, option_and_then}

-- '0' to '9', 'A' to 'F', 'a' to 'f'; none for any other character
abbrev pub digit_of : ℕ → Option ℕ
digit_of c =
    cond (ltb c 48) None
    (cond (ltb c 58) (Some (c - 48))
    (cond (ltb c 65) None
    (cond (ltb c 71) (Some (c - 55))
    (cond (ltb c 97) None
    (cond (ltb c 103) (Some (c - 87)) None)))))

-- a byte of two digits
abbrev pub two_digits : Option ℕ → Option ℕ → Option ℕ
two_digits high low = option_and_then (λ h. option_and_then (λ l. Some (h * 16 + l)) low) high

-- a byte is one or two hex digits, of either case
abbrev pub hex_of : List ℕ → Option ℕ
hex_of t =
    cond (eqb (length t) 1) (digit_of (get_or t 0 0))
    (cond (eqb (length t) 2) (two_digits (digit_of (get_or t 0 0)) (digit_of (get_or t 1 0))) None)

-- the value of the digits before and of one more, if that is below ten and the value has up to 64 bits
abbrev pub decimal_next : ℕ → ℕ → Option ℕ
decimal_next n d = cond (ltb d 10) (cond (ltb (n * 10 + d) (2 ^ 64)) (Some (n * 10 + d)) None) None

-- digits only: the number from this value of the digits before on
abbrev pub decimal_from : ℕ → List ℕ → Option ℕ
decimal_from n [] = Some n
decimal_from n (c ∷ cs) = option_and_then (λ m. decimal_from m cs) (option_and_then (decimal_next n) (digit_of c))

-- a number has at least one digit
abbrev pub decimal_of : List ℕ → Option ℕ
decimal_of t = cond (eqb (length t) 0) None (decimal_from 0 t)
