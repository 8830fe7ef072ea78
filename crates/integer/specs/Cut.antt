-- Division toward zero, and the two divisions of the voice that go by it (document 02, L7): R and the loop's.
-- Definitions alone: specs/Toward.antt says what they are from outside. Assumes nothing.
use Rattle.std.specs.Prelude.{ℕ, suc, ◌/◌, ℤ, pos, negsuc, neg_ℤ}

-- u / d, "cut toward zero": the whole part of its magnitude, with the sign of u
unfoldable pub cut : ℤ → ℕ → ℤ
cut (pos a) d = pos (a / d)
cut (negsuc a) d = neg_ℤ (pos (suc a / d))

-- "R .. shall cut toward zero instead of rounding": R(u) is u/65,536 so cut
unfoldable pub R : ℤ → ℤ
R u = cut u 65536

-- "and the loop's division": u/131,072 so cut, with u for G·(y(n) + y(n − 1))
unfoldable pub Q : ℤ → ℤ
Q u = cut u 131072
