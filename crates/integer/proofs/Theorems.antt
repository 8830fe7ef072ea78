-- Floor and clip from outside: by the laws of proofs/Rounding.antt.
use mathlib.Core.Path.{◌≡◌, refl}
use Prim.Native.Nat.{ℕ, ◌≤◌, ◌<◌}
use lib.IntN.{ℤ, nat_abs, ◌-ℤ◌}
use Rattle.integer.specs.Rounding.{floor, M, clip}
use Rattle.integer.specs.Theorems.{Downward, Theorems}
use Rattle.integer.proofs.View.{absv, -v, onev, Zs}
use Rattle.integer.proofs.Rounding.{floor-low, floor-high, floor-only, clipv, clip_abs, clip-nearest}

downward : (u : ℤ) (m : ℕ) → 0 < m → Downward u m
downward u m h =
    record { low = floor-low u m h; high = floor-high u m h; only = λ q l k. floor-only u q m h l k }

clip-only : (u z : ℤ) → nat_abs z ≤ M → nat_abs (u -ℤ z) ≤ nat_abs (u -ℤ clip u) → z ≡ clip u
clip-only u z h k =
    omega (
      Zs,
      clipv u,
      onev u,
      onev z,
      absv z,
      absv (u -ℤ z),
      absv (u -ℤ clip u),
      -v u z,
      -v u (clip u),
      onev (u -ℤ z),
      onev (u -ℤ clip u),
    )

pub theorems : Theorems
unfolding floor clip
theorems = record {
  floors = downward;
  clips = λ u. record { within = clip_abs u; nearest = clip-nearest u; only = clip-only u };
  below_zero = (refl, refl);
  above_zero = refl;
  samples = (refl, refl);
  others = (refl, refl);
}
