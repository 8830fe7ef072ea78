-- The click figure of a junction in literals. Statements alone: proofs/Literals.antt proves them.
use Rattle.std.specs.Prelude.{◌≡◌, List, ◌∷◌, ◌++◌, ℕ, ◌+◌, ◌≤◌, ◌<◌, pos, nat_abs, ◌-ℤ◌, get_or}
use Rattle.junction.specs.Junction.{Side, at}
use Rattle.junction.specs.Calls.{Call, move, Opening, number}
use Rattle.junction.specs.History.{steps, call, after, new}
use Rattle.junction.specs.Click.{effect, NoneBy}

-- with an advance of Na: each output of a filter j or more samples after the move took effect
-- differs by at most B
abbrev pub Differs : Opening → List Call → ℕ → ℕ → ℕ → Type 0
Differs o cs Na j B =
    (pre post : List Call) (d m : ℕ) (s : Side)
    → cs ≡ pre ++ move d ∷ post
    → number (after o pre).junction (move d) ≡ 0
    → NoneBy m (call (after o pre) (move d)) post
    → (after o pre).junction.Na ≡ Na
    → effect (after o pre) + j ≤ m → m < steps (after o cs)
    → nat_abs (get_or (at s (after o cs).filters) m (pos 0) -ℤ new s d (at s (after o cs).inputs) m) ≤ B

pub record Literals (o : Opening) (cs : List Call) : Type 0 where
  pub na_0 : Differs o cs 0 0 25165824
  pub na_0_after_1 : Differs o cs 0 1 12582912
  pub na_8 : Differs o cs 8 0 98304
  pub na_23 : Differs o cs 23 0 3
  pub na_24 : Differs o cs 24 0 2
  pub na_64 : Differs o cs 64 0 2
