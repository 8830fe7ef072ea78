-- The least advance that keeps a change within a wanted distance of the ideal filter, by the tuning's own figure.
-- Definitions alone: specs/Returns.antt says in ≤ what they give.
use Rattle.std.specs.Prelude.{cond, List, [], ◌∷◌, ℕ, zero, suc, ◌/◌, leb, eqb, Result, Ok, Err}
use Rattle.refusal.specs.declared.Refusal.{Refusal}
use Rattle.refusal.specs.declared.Refusal.TheVariants.{NoAdvance}
use Rattle.refusal.specs.Numbers.{number_of}
use Rattle.refusal.specs.Limits.{Limit, refusal}
use Rattle.refusal.specs.Orders.{most_advance, order, delay}
use Rattle.thiran.specs.Coefficients.{coefficients, norm}
use Rattle.allpass.specs.Bounds.{own_figure}

-- the first of so many advances, from a on, whose figure is at most `wanted` at the change's first sample, where k is
-- the whole part of Na/N; the one behind them where none is
abbrev pub seek : ℕ → ℕ → ℕ → ℕ → ℕ → ℕ
seek n N wanted zero a = a
seek n N wanted (suc many) a = cond (leb (own_figure n (a / N)) wanted) a (seek n N wanted many (suc a))

-- of coefficients that add up to n, from 0 to 64; 65 where none is
unfoldable pub first : ℕ → ℕ → ℕ → ℕ
first n N wanted = seek n N wanted (suc most_advance) 0

abbrev pub found : ℕ → Result ℕ Refusal
found Na = cond (leb Na most_advance) (Ok Na) (Err NoAdvance)

-- 32: no advance is enough
abbrev pub enough : ℕ → Limit
enough Na = record { number = 32; low = 0; value = Na; high = most_advance }

-- "1 order", "3 d", then 32
abbrev pub limits : ℕ → ℕ → ℕ → List Limit
limits N d wanted = order N ∷ delay N d ∷ enough (first (norm (coefficients N d)) N wanted) ∷ []

-- what `least` returns: its number, 0 for success, and the advance
pub record Advance : Type 0 where
  pub refusal : ℕ
  pub na : ℕ

abbrev pub advance_of : Result ℕ Refusal → Advance
advance_of (Ok Na) = record { refusal = 0; na = Na }
advance_of (Err r) = record { refusal = number_of r; na = 0 }

-- what comes back with a number: the advance, and 0 where it is refused
unfoldable pub least_advance : ℕ → ℕ → ℕ → Advance
least_advance N d wanted =
    cond (eqb (refusal (limits N d wanted)) 0)
    (record { refusal = 0; na = first (norm (coefficients N d)) N wanted })
    (record { refusal = refusal (limits N d wanted); na = 0 })
