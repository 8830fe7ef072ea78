-- What specs/Theorems.antt states: the octave's rule, the place of a note, T nearest, and its one split.
-- Assumes nothing.
use mathlib.Core.Path.{◌≡◌, refl}
use mathlib.Core.Bool.{Bool, ◌&&◌, and-eq-true_iff}
use Prim.Native.Nat.{ℕ, ◌+◌, ◌*◌, ◌-◌, ◌^◌, ◌≤◌, ◌<◌}
use native.Mathlib.Omega.{arith}
use native.Mathlib.Nat.{mul-le-mul}
use borrow.Author.Tests.{ltb-true, leb-true}
use lib.Dec.{ltb, leb, lit<}
use lib.IntN.{ℤ, pos, ◌+ℤ◌, ◌-ℤ◌, ◌*ℤ◌}
use lib.ListN.{get_or}
use lib.Pow.{pow_pos}
use lib.Signed.{◌≤ℤ◌}
use Rattle.integer.specs.Parts.{up, dn}
use Rattle.integer.proofs.View.{+v, -v, *v, Zs}
use Rattle.integer.proofs.Rounding.{floorv, floor-only, nearest-is}
use Rattle.refusal.specs.Orders.{lowest, highest}
use Rattle.pitch.specs.Pitch.{octave, o, k, period, split_l, split_d}
use Rattle.pitch.specs.Theorems.{Twelfth, Placed, Rounded, Split}
use Rattle.pitch.proofs.Table.{at}

-- ---- the octave
abbrev rule : ℕ → ℕ → Bool
rule k t = ltb ((2 * t - 1) ^ 12) (2 ^ (300 + k)) && ltb (2 ^ (300 + k)) ((2 * t + 1) ^ 12)

pub twelfth : (i : ℕ) → i < 12 → Twelfth i
unfolding octave
twelfth i h =
    let e = (and-eq-true_iff _ _).0 (at rule octave refl i h) in
    record { low = ltb-true _ _ e.0; high = ltb-true _ _ e.1 }

-- each entry is within an octave of the first
abbrev size : ℕ → ℕ → Bool
size k t = leb (2 ^ 24) t && ltb t (2 ^ 25)

pub entry_size : (i : ℕ) → i < 12 → (2 ^ 24 ≤ get_or octave i 0) × (get_or octave i 0 < 2 ^ 25)
unfolding octave
entry_size i h =
    let e = (and-eq-true_iff _ _).0 (at size octave refl i h) in
    (leb-true _ _ e.0, ltb-true _ _ e.1)

-- ---- the note and its period
pub placed : (m : ℕ) → Placed m
placed m =
    let u = pos m -ℤ pos 69 in
    let P = pos 12 *ℤ o m in
    record {
      split = omega (Zs, -v (pos m) (pos 69), floorv u 12 (lit< tt), *v (pos 12) (o m), +v P (pos (k m)));
      below = omega arith;
    }

pub divisor_least : (m j : ℕ) → 440 * 2 ^ 24 ≤ 440 * get_or octave (k m) 0 * 2 ^ j
divisor_least m j =
    let t : 2 ^ 24 ≤ get_or octave (k m) 0 = (entry_size (k m) (placed m).below).0 in
    omega (arith, mul-le-mul t (pow_pos j))

pub rounded : (fs m : ℕ) → Rounded fs m
unfolding period
rounded fs m =
    nearest-is (pos (fs * 2 ^ 36 * 2 ^ dn (o m))) (440 * get_or octave (k m) 0 * 2 ^ up (o m))
    (omega (arith, divisor_least m (up (o m))))

-- ---- the split
module _ (N : ℕ) (T : ℤ) (h : 1 ≤ N) where
  abbrev rest : ℤ
  rest = T -ℤ pos 2048

  -- L in its two parts: 4,096·(L + N) is below T, by 4,096 at most
  pub splitv :
      (4096 * up (split_l N T) + 4096 * N + dn T < up T + 4096 * dn (split_l N T))
      × (up T + 4096 * dn (split_l N T) ≤ 4096 * up (split_l N T) + 4096 * N + dn T + 4096)
  unfolding split_l
  splitv =
      let v = rest -ℤ pos (lowest N) in
      omega (arith, floorv v 4096 (lit< tt), -v T (pos 2048), -v rest (pos (lowest N)))

  in_range : (pos (lowest N) ≤ℤ split_d N T) × (split_d N T ≤ℤ pos (highest N))
  unfolding split_d
  in_range =
      let P = pos 4096 *ℤ split_l N T in
      omega (Zs, splitv, *v (pos 4096) (split_l N T), -v T (pos 2048), -v rest P)

  only-length : (L d : ℤ) → rest ≡ pos 4096 *ℤ L +ℤ d → pos (lowest N) ≤ℤ d → d ≤ℤ pos (highest N)
      → L ≡ split_l N T
  unfolding split_l
  only-length L d e l g =
      let P = pos 4096 *ℤ L in
      let v = rest -ℤ pos (lowest N) in
      floor-only v L 4096 (lit< tt)
      (omega (Zs, +v P d, -v rest (pos (lowest N))))
      (omega (Zs, +v P d, +v P (pos 4096), -v rest (pos (lowest N))))

  only-delay : (L d : ℤ) → rest ≡ pos 4096 *ℤ L +ℤ d → L ≡ split_l N T → d ≡ split_d N T
  unfolding split_d
  only-delay L d e i =
      let P = pos 4096 *ℤ L in
      rw (← i) (omega (Zs, +v P d, -v rest P))

  pub split-is : Split N T
  unfolding split_d
  split-is =
      let P = pos 4096 *ℤ split_l N T in
      record {
        sum = omega (Zs, -v rest P, +v P (rest -ℤ P));
        low = in_range.0;
        high = in_range.1;
        only = λ L d e l g. let i = only-length L d e l g in (i, only-delay L d e i);
      }
