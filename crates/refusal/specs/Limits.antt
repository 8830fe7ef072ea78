-- What a call turns down and by which number, as document 01 has it under "What each call turns down".
-- Definitions alone: proofs/Returned.antt has their laws. Assumes nothing.
use Rattle.std.specs.Prelude.{Bool, cond, ◌||◌, List, [], ◌∷◌, ℕ, ◌≤◌, ltb}

-- x is from low to high
pub record Between (low x high : ℕ) : Type 0 where
  pub least : low ≤ x
  pub most : x ≤ high

-- one test of a call: its number, and the limits from low to high within which the value is let pass
pub record Limit : Type 0 where
  pub number : ℕ
  pub low : ℕ
  pub value : ℕ
  pub high : ℕ

-- "outside the limits"
abbrev pub outside : ℕ → ℕ → ℕ → Bool
outside n low high = ltb n low || ltb high n

abbrev pub met : Limit → Bool
met l = outside l.value l.low l.high

-- "Tests run in the order listed": the number of the first whose value is outside its limits; 0 for success
abbrev pub refusal : List Limit → ℕ
refusal [] = 0
refusal (l ∷ ls) = cond (met l) l.number (refusal ls)
