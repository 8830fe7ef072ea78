-- A delay in samples as f32 (document 02, L13). Definitions alone: specs/Returns.antt says what they are from
-- outside.
use Rattle.std.specs.Prelude.{ℕ, cond, not, [], ◌∷◌, ℤ, pos, ◌*ℤ◌, Float}
use Rattle.integer.specs.Rounding.{nearest}
use Rattle.refusal.specs.Limits.{met, refusal}
use Rattle.refusal.specs.Orders.{order}
use Rattle.pitch.specs.Pitch.{Pitch}
use Rattle.pitch.specs.Pitch.{split_l, note_length, answer}
use Rattle.floats.specs.Worth.{finite, unit, above}

-- "the delay is rounded to 1/4,096", half upward
abbrev pub period : Float → ℤ
period x = nearest (above x *ℤ pos 4096) (unit x)

-- 1 for the order; "26 not a number or infinite"; "a delay then meets 13"
abbrev pub number : ℕ → Float → ℕ
number N x =
    cond (met (order N)) 1 (cond (not (finite x)) 26 (refusal (note_length (split_l N (period x)) ∷ [])))

-- "and split like a note's T": L and d at an order, both 0 where they are refused
unfoldable pub split : ℕ → Float → Pitch
split N x = answer N (period x) (number N x)
