-- How the code comes by a_k: from a_0 = 1, by a_{k+1} = a_k (N − k) (N − D − k) / ((k + 1) (D + k + 1)).
-- Definitions alone: proofs/Steps.antt shows that it is the fraction of equation (3). Assumes nothing.
use Rattle.std.specs.Prelude.{ℕ, zero, suc, ◌+◌, ◌*◌, ◌^◌, ◌≤◌, ◌<◌, pos, nat_abs, ◌-ℤ◌, ◌*ℤ◌}
use Rattle.thiran.specs.declared.formula.Ratio.{Ratio}

abbrev pub step : ℕ → ℕ → ℕ → Ratio → Ratio
step N d k p = record {
  top = p.top *ℤ ((pos N -ℤ pos k) *ℤ (pos (4096 * N) -ℤ pos (d + 4096 * k)));
  bottom = p.bottom * (suc k * (d + 4096 * suc k));
}

abbrev pub part : ℕ → ℕ → ℕ → Ratio
part N d zero = record { top = pos 1; bottom = 1 }
part N d (suc k) = step N d k (part N d k)

-- what rounding a fraction asks of it
pub record Roundable (p : Ratio) : Type 0 where
  pub above : 0 < p.bottom
  pub small : 2 * (65536 * nat_abs p.top) + 3 * p.bottom ≤ 2 ^ 62
