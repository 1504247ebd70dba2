-- Messages with the places of their start bytes are the messages, and stand where they are said to stand.
use mathlib.Core.Path.{◌≡◌, refl, ap, ◌∙◌}
use mathlib.Core.List.{List, [], ◌∷◌, ◌++◌, map, map-append}
use Prim.Native.Nat.{ℕ, ◌+◌}
use Rattle.document.specs.Pairing.{Token, Placed, paired, until_start, opened, width, opened_at}
use Rattle.document.specs.Pairing.Token.{start, literal}
use Rattle.document.specs.Message.{Message, whole_message, heard, heard_at}

module _ {A : Type 0} (whole : List ℕ → List A) where
  things_placed : (place : ℕ) (xs : List A) → map (λ (p : Placed A). p.thing) (map (λ (a : A). record { place = place; thing = a }) xs) ≡ xs
  things_placed place [] = refl
  things_placed place (x ∷ xs) = ap (λ (l : List A). x ∷ l) (things_placed place xs)

  opened_at_lem : (place : ℕ) (ts : List Token) → map (λ (p : Placed A). p.thing) (opened_at whole place ts) ≡ opened whole ts
  opened_at_lem place [] = refl
  opened_at_lem place (start ∷ ts) =
      map-append (λ (p : Placed A). p.thing) (map (λ (a : A). record { place = place; thing = a }) (whole (until_start ts))) (opened_at whole (place + width start) ts)
      ∙ (λ j. things_placed place (whole (until_start ts)) j ++ opened_at_lem (place + width start) ts j)
  opened_at_lem place (literal l ∷ ts) = opened_at_lem (place + width (literal l)) ts

pub heard_at_lem : (bs : List ℕ) → map (λ (p : Placed Message). p.thing) (heard_at bs) ≡ heard bs
unfolding heard heard_at
heard_at_lem bs = opened_at_lem whole_message 0 (paired bs)

-- ---- shown by a table: bytes, and where the messages in them begin

pub record Shown : Type 0 where
  pub bytes : List ℕ
  pub places : List ℕ

abbrev row : List ℕ → List ℕ → Shown
row bytes places = record { bytes = bytes; places = places }

-- alone; behind a doubled 0x2B; one that a start drops; two, the first with a doubled byte in its data; behind literals; one that waits
abbrev pub places : List Shown
places =
    row (0x2B ∷ 0xC8 ∷ 0x38 ∷ []) (0 ∷ [])
    ∷ row (0x2B ∷ 0x2B ∷ 0x2B ∷ 0xC8 ∷ 0x38 ∷ []) (2 ∷ [])
    ∷ row (0x2B ∷ 0xD0 ∷ 0x10 ∷ 0x2B ∷ 0xC8 ∷ 0x38 ∷ []) (3 ∷ [])
    ∷ row (0x2B ∷ 0xD0 ∷ 0x2B ∷ 0x2B ∷ 0x00 ∷ 0x05 ∷ 0x2B ∷ 0xC8 ∷ 0x38 ∷ []) (0 ∷ 6 ∷ [])
    ∷ row (0x55 ∷ 0x01 ∷ 0x2B ∷ 0xC8 ∷ 0x38 ∷ 0x55 ∷ 0x2B ∷ 0xC8 ∷ 0x38 ∷ []) (2 ∷ 6 ∷ [])
    ∷ row (0x2B ∷ 0x2B ∷ 0xC8 ∷ 0x38 ∷ 0x2B ∷ 0xC8 ∷ []) []
    ∷ []

pub places_hold : map (λ (s : Shown). map (λ (p : Placed Message). p.place) (heard_at s.bytes)) places ≡ map (λ (s : Shown). s.places) places
unfolding heard_at
places_hold = refl
