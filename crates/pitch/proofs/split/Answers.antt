-- `pitch::split` meets its contract: where L is at least 1, T covers 4,096·L, and d is what it leaves.
-- Assumes nothing.
use mathlib.Core.Path.{◌≡◌, sym}
use mathlib.Core.List.{[], ◌∷◌}
use Prim.Native.Nat.{ℕ, ◌+◌, ◌*◌, ◌-◌, ◌≤◌, ◌<◌}
use native.Mathlib.Omega.{arith}
use lib.IntN.{pos, ◌-ℤ◌, ◌*ℤ◌}
use Rattle.integer.specs.Parts.{up}
use Rattle.integer.proofs.View.{onev, *v, -v}
use Rattle.std.proofs.Common.{rules}
use Rattle.refusal.specs.Limits.{refusal}
use Rattle.refusal.specs.Returned.{Kept}
use Rattle.refusal.proofs.Returned.{passed, kept-is}
use Rattle.refusal.proofs.Passed.{first-kept}
use Rattle.pitch.specs.Pitch.{split_l, split_d, note_length}
use Rattle.pitch.proofs.Theorems.{splitv}
use Rattle.pitch.proofs.split.Goals as goal

-- an L that is w, at least 1
module _ (N t w : ℕ) (h : 1 ≤ N) (e : w ≡ up (split_l N (pos t))) (l : 1 ≤ w) where
  covers : 4096 * w + 4096 < t
  covers = omega (arith, splitv N (pos t) h, onev (split_l N (pos t)))

  leaves : t - 2048 - 4096 * w ≡ up (split_d N (pos t))
  unfolding split_d
  leaves =
      let L = split_l N (pos t) in
      let P = pos 4096 *ℤ L in
      let u = pos t -ℤ pos 2048 in
      omega (arith, covers, onev L, *v (pos 4096) L, -v (pos t) (pos 2048), -v u P, onev (u -ℤ P))

module _ (c : goal.In_ok-within) where
  abbrev w : ℕ
  w = c.whole-length.result

  zero : 0 ≡ refusal (note_length (pos w) ∷ [])
  zero = search rules

  within : Kept (note_length (pos w))
  within = first-kept (passed (note_length (pos w) ∷ []) tt (sym zero))

  long : 4096 * w + 4096 < c.args.t
  long =
      let a = c.args in
      covers a.order a.t w c.requires.0 c.whole-length.ensures within.least

pub overflow_sub-result : goal.overflow_sub-result
overflow_sub-result c = omega (arith, long c)

pub overflow_sub-result-2 : goal.overflow_sub-result-2
overflow_sub-result-2 c = omega (arith, long c)

pub returns : goal.returns
returns c =
    let a = c.args in
    let e = c.whole-length.ensures in
    rw (← e, kept-is (note_length (pos (w c))) (within c), leaves a.order a.t (w c) c.requires.0 e (within c).least)
