-- The figure falls, so that a bound at one moment holds from there on: the literals of specs/Literals.antt.
-- Assumes nothing.
use mathlib.Core.Path.{◌≡◌, refl, sym}
use mathlib.Core.Bool.{Bool, true, false, cond}
use mathlib.Core.List.{List}
use Prim.Native.Nat.{ℕ, ◌+◌, ◌*◌, ◌-◌, ◌/◌, ◌^◌, ◌≤◌, ◌<◌}
use native.Mathlib.Omega.{arith}
use native.Mathlib.Nat.{le_trans, pow-le-pow_right, le-div_iff_mul-le, div-add-mod'}
use borrow.Author.Tests.{leb-true, leb-false}
use lib.Dec.{leb}
use Rattle.rule.specs.Calls.{Call, Opening}
use Rattle.rule.specs.Click.{figure}
use Rattle.rule.specs.Asked.{Tightens}
use Rattle.rule.specs.Literals.{Differs, Literals}
use Rattle.rule.proofs.Click.{click}

falls : (k K : ℕ) → K ≤ k → figure k ≤ figure K
unfolding figure
falls k K h = go (leb k 23) (leb K 23) refl refl
  where
    go : (a b : Bool) → leb k 23 ≡ a → leb K 23 ≡ b
        → cond a (3 * 2 ^ (23 - k)) 2 ≤ cond b (3 * 2 ^ (23 - K)) 2
    go true true e i =
        omega (arith, pow-le-pow_right {n = 2} (omega arith) {i = 23 - k} {j = 23 - K} (omega arith))
    go true false e i = absurd (omega (arith, leb-true k 23 e, leb-false K 23 i))
    go false true e i =
        omega (arith, pow-le-pow_right {n = 2} (omega arith) {i = 0} {j = 23 - K} (omega arith))
    go false false e i = omega arith

pub tightens : Tightens
tightens a b N n h =
    falls (b / N) (a / N)
    ((le-div_iff_mul-le {k = N} {x = a / N} {y = b} n).1 (omega (arith, div-add-mod' a N)))

module _ (o : Opening) (cs : List Call) where
  -- at k = K and later: K times N is reached by the advance and j samples
  from-there : (N Na j K : ℕ) → 0 < N → K * N ≤ Na + j → Differs o cs N Na j (figure K)
  from-there N Na j K positive h pre post c m k short order advance late =
      let at = (k.a + (m - k.e)) / k.t.N in
      let reached : K ≤ at
      = rw (order, advance)
      ((le-div_iff_mul-le {k = N} {x = K} {y = Na + (m - k.e)} positive).1 (omega arith)) in
      le_trans
      (click o cs pre post c k.t k.a k.e m k.split k.change k.until k.since short).near
      (falls at K reached)

  pub literals : Literals o cs
  unfolding figure
  literals = record {
    order_1_na_64 = from-there 1 64 0 64 (omega arith) (omega arith);
    order_2_na_64 = from-there 2 64 0 32 (omega arith) (omega arith);
    order_3_na_64 = from-there 3 64 0 21 (omega arith) (omega arith);
    order_3_na_64_after_8 = from-there 3 64 8 24 (omega arith) (omega arith);
    order_1_after_100 = from-there 1 100 0 100 (omega arith) (omega arith);
    order_2_after_47 = from-there 2 47 0 23 (omega arith) (omega arith);
    order_3_after_72 = from-there 3 72 0 24 (omega arith) (omega arith);
    order_1_na_24 = from-there 1 24 0 24 (omega arith) (omega arith);
    order_1_na_23 = from-there 1 23 0 23 (omega arith) (omega arith);
    order_1_na_22 = from-there 1 22 0 22 (omega arith) (omega arith);
    order_1_na_1 = from-there 1 1 0 1 (omega arith) (omega arith);
    order_2_na_48 = from-there 2 48 0 24 (omega arith) (omega arith);
    order_2_na_46 = from-there 2 46 0 23 (omega arith) (omega arith);
    order_2_na_0_after_46 = from-there 2 0 46 23 (omega arith) (omega arith);
    order_3_na_0_after_69 = from-there 3 0 69 23 (omega arith) (omega arith);
    order_3_na_0_after_72 = from-there 3 0 72 24 (omega arith) (omega arith);
  }
