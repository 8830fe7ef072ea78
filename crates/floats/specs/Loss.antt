-- A loss as f32 (document 02, L13). Definitions alone: specs/Returns.antt says what they are from outside.
use Rattle.std.specs.Prelude.{ℕ, min, Bool, cond, not, ◌||◌, pos, ◌*ℤ◌, nat_lt, Float, Result, Ok, Err}
use Rattle.integer.specs.Parts.{up, dn}
use Rattle.integer.specs.Rounding.{nearest}
use Rattle.refusal.specs.Orders.{most_loss}
use Rattle.refusal.specs.declared.Refusal.{Refusal}
use Rattle.refusal.specs.Numbers.{number_of}
use Rattle.floats.specs.Worth.{finite, size, unit, above}

-- "the loss to 1/65,536 and at most 65,535", half upward
abbrev pub gain : Float → ℕ
gain x = min (up (nearest (above x *ℤ pos 65536) (unit x))) most_loss

-- "a loss outside 0 to 1"
abbrev pub outside : Float → Bool
outside x = nat_lt 0 (dn (above x)) || nat_lt (unit x) (size x)

-- what `enter` returns: its number, 0 for success, and G
pub record Loss : Type 0 where
  pub refusal : ℕ
  pub g : ℕ

abbrev pub refused : ℕ → Loss
refused k = record { refusal = k; g = 0 }

abbrev pub loss_of : Result ℕ Refusal → Loss
loss_of (Ok g) = record { refusal = 0; g = g }
loss_of (Err r) = refused (number_of r)

-- "26 not a number or infinite; 27 .. a loss outside 0 to 1"
unfoldable pub loss : Float → Loss
loss x =
    cond (not (finite x)) (refused 26) (cond (outside x) (refused 27) (record { refusal = 0; g = gain x }))
