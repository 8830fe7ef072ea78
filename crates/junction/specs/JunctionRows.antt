-- Rows of a junction in numbers: r, what is refused, and what a list of calls gives one after the other.
-- Statements alone: proofs/JunctionRows.antt proves them by computing.
use Rattle.std.specs.Prelude.{◌≡◌, List, [], ◌∷◌, ℕ, ℤ, pos, negsuc}
use Rattle.refusal.specs.Limits.{refusal}
use Rattle.junction.specs.Junction.{reflection, Junction}
use Rattle.junction.specs.Calls.{Call, move, sample, Opening, open_limits, number, open_junction, put, call}

-- the number of a call, and what it puts out
pub record Row : Type 0 where
  pub number : ℕ
  pub right : ℤ
  pub left : ℤ

abbrev pub row : ℕ → ℤ → ℤ → Row
row n r l = record { number = n; right = r; left = l }

abbrev pub rows : Junction → List Call → List Row
rows j [] = []
rows j (c ∷ cs) = row (number j c) (put j c).right (put j c).left ∷ rows (call j c) cs

abbrev pub opening : ℕ → ℕ → ℕ → ℕ → Opening
opening left right d Na = record { left = left; right = right; d = d; Na = Na }

abbrev pub from : ℤ → ℤ → Call
from a b = sample (record { a = a; b = b })

pub record Rows : Type 0 where
  pub least : reflection 1 65535 ≡ negsuc 32766
  pub most : reflection 65535 1 ≡ pos 32767
  pub equal : reflection 7 7 ≡ pos 0
  pub twice : reflection 2 1 ≡ pos 10923
  pub half : reflection 1 2 ≡ negsuc 10922
  pub area : refusal (open_limits (opening 65536 1 6144 65)) ≡ 25
  pub delay : refusal (open_limits (opening 65535 1 6144 65)) ≡ 3
  pub advance : refusal (open_limits (opening 65535 1 6143 65)) ≡ 5
  -- a move that takes effect after two samples, between which one is refused
  pub moves :
      rows (open_junction (opening 2 1 3000 2))
      (from (pos 100000) (negsuc 199999) ∷ move 5000 ∷ move 6144 ∷ move 4096 ∷ from (pos 30000) (pos 40000)
      ∷ from (pos 5) (negsuc 8388607) ∷ from (negsuc 49999) (pos 60000) ∷ from (pos 7000) (pos 9000)
      ∷ from (pos 0) (pos 0) ∷ [])
      ≡ row 0 (negsuc 7865) (pos 5148) ∷ row 0 (pos 0) (pos 0) ∷ row 3 (pos 0) (pos 0) ∷ row 6 (pos 0) (pos 0)
      ∷ row 0 (pos 200648) (negsuc 99246) ∷ row 10 (pos 0) (pos 0) ∷ row 0 (pos 36969) (pos 28828)
      ∷ row 0 (negsuc 85102) (pos 24248) ∷ row 0 (pos 8619) (pos 6768) ∷ []
  -- with an advance of 0 a move acts in the call, from rest, and another may follow
  pub at_once :
      rows (open_junction (opening 3 1 3000 0))
      (from (pos 100000) (negsuc 69999) ∷ move 5000 ∷ move 2049 ∷ from (pos 0) (pos 0) ∷ [])
      ≡ row 0 (negsuc 4128) (pos 7722) ∷ row 0 (pos 0) (pos 0) ∷ row 0 (pos 0) (pos 0)
      ∷ row 0 (pos 150000) (negsuc 34999) ∷ []
  -- a refused opening: areas 1 and 1, d 4,096, Na 0
  pub refused :
      rows (open_junction (opening 0 1 3000 2)) (from (pos 5) (pos 6) ∷ from (pos 7) (pos 8) ∷ [])
      ≡ row 0 (pos 0) (pos 0) ∷ row 0 (pos 5) (pos 6) ∷ []
