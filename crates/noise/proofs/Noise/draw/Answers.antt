-- `noise::Noise::draw` meets its contract: kept to 32 bits after the product too, the sum is the same; and the upper
-- half of a state is below 2^16, so the difference fits.
use Rattle.std.proofs.Common.{◌≡◌, ℕ, ◌+◌, ◌*◌, ◌/◌, ◌%◌, ◌^◌, ◌<◌, refl, pos, ◌-ℤ◌, arith, to_z-of_z, w32, to_z, of_z}
use mir.ValLaws.{to_z_pos}
use Rattle.integer.proofs.View.{abs_fits}
use Rattle.noise.specs.Noise.{next, value}
use Rattle.noise.proofs.Sizes.{next-size, value-size}
use Rattle.noise.proofs.Noise.draw.Goals as goal

-- the value of a state n, as the machine computes it
shown : (n : ℕ) → n < 2 ^ 32 → to_z w32 (of_z w32 (to_z w32 (n / 65536) -ℤ pos 32768)) ≡ value n
unfolding value
shown n h = rw (to_z_pos w32 (n / 65536) (omega arith)) (to_z-of_z (abs_fits w32 (value n) (omega (arith, value-size n h))))

moved : (z p : ℕ) → p ≡ (1664525 * z) % 2 ^ 32 → (p + 1013904223) % 2 ^ 32 ≡ next z
unfolding next
moved z p e = omega arith

pub returns : goal.returns
returns c =
    let z = c.args.self.now.state in
    let e = moved z c.wrapping_mul_u32-next.result c.wrapping_mul_u32-next.ensures in
    rw e (shown (next z) (next-size z), refl)
