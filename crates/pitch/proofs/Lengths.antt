-- The length and the delay that a T is split into, by the paper's conditions: those of the definitions, and no
-- others.
use mathlib.Core.Path.{◌≡◌, ap}
use mathlib.Core.Logic.{◌↔◌}
use Prim.Native.Nat.{ℕ}
use lib.IntN.{ℤ, pos}
use Rattle.integer.specs.Parts.{up}
use Rattle.integer.proofs.View.{onev, Zs}
use Rattle.refusal.specs.Limits.{Between}
use Rattle.refusal.specs.Orders.{lowest, highest}
use Rattle.refusal.proofs.Ranges.{in_range, delayed}
use Rattle.pitch.specs.Pitch.{split_l, split_d}
use Rattle.pitch.specs.Returns.{Splits, Long}
use Rattle.pitch.proofs.Theorems.{split-is}

pub long-is : (L : ℤ) → Between 1 (up L) 2048 ↔ Long L
long-is L = (
  λ b. record { least = omega (Zs, b.least, onev L); most = omega (Zs, b.most) },
  λ l. record { least = omega (Zs, l.least, onev L); most = omega (Zs, l.most, onev L) },
)

module _ (N : ℕ) (T : ℤ) (h : Between 1 N 3) where
  delay_is : pos (up (split_d N T)) ≡ split_d N T
  delay_is = omega (Zs, onev (split_d N T), (split-is N T h.least).low)

  pub splits : Splits N T (split_l N T) (up (split_d N T))
  splits =
      let s = split-is N T h.least in
      let b : Between (lowest N) (up (split_d N T)) (highest N) = record {
        least = omega (Zs, s.low, delay_is);
        most = omega (Zs, s.high, delay_is);
      } in
      record { sum = rw delay_is s.sum; range = in_range N (up (split_d N T)) h b }

  pub splits-only : (L : ℤ) (d : ℕ) → Splits N T L d → (L ≡ split_l N T) × (d ≡ up (split_d N T))
  splits-only L d s =
      let r = delayed s.range in
      let p = (split-is N T h.least).only L (pos d) s.sum (omega (Zs, r.least)) (omega (Zs, r.most)) in
      (p.0, ap up p.1)
