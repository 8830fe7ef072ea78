-- A signed number in a word of 32 bits stands 2^31 higher there. A definition alone.
use Rattle.std.specs.Prelude.{ℕ, ℤ, pos, ◌-ℤ◌}

abbrev pub signed_of : ℕ → ℤ
signed_of w = pos w -ℤ pos 2147483648
