-- `thiran::formula::set` meets its contract: each coefficient is the fraction of its index, rounded.
-- Assumes nothing.
use mathlib.Core.Path.{◌≡◌, sym, subst}
use Prim.Native.Nat.{ℕ, suc, ◌≤◌}
use native.Mathlib.Omega.{arith}
use lib.Dec.{lit≤}
use lib.IntN.{ℤ, pos, ◌*ℤ◌}
use lib.ListN.{get_or}
use mir.Syntax.{w64}
use mir.Val.{to_z, of_z}
use mir.Facts.{to_z-of_z}
use Rattle.integer.specs.Rounding.{nearest}
use Rattle.integer.proofs.View.{abs_fits}
use Rattle.refusal.specs.Orders.{orders}
use Rattle.thiran.specs.declared.formula.Ratio.{Ratio}
use Rattle.thiran.specs.Coefficients.{coefficients}
use Rattle.thiran.specs.Steps.{part, Roundable}
use Rattle.thiran.specs.Answers.{padded}
use Rattle.thiran.proofs.Steps.{coefficient-part, roundable}
use Rattle.thiran.proofs.Lists.{coefficient-at, coefficient-small}
use Rattle.thiran.proofs.formula.set.Goals as goal
use Rattle.thiran.proofs.formula.set.Lts as lts
use Rattle.thiran.proofs.formula.set.Reads as reads
use Rattle.thiran.proofs.formula.set.Tie as tie

module _ (c : (lts.Start tie.the-claims reads.Pre reads.Post)) where
  abbrev N : ℕ
  N = c.args.order

  abbrev d : ℕ
  d = c.args.d

  fraction-roundable : (k : ℕ) {p : Ratio} → k ≤ orders → p ≡ part N d k → Roundable p
  fraction-roundable k h e = subst Roundable (sym e) (roundable N d c.requires k h)

  -- the fraction of index k + 1, rounded, is the coefficient at place k
  rounded-at : (k : ℕ) {p : Ratio} {z : ℤ}
      → p ≡ part N d (suc k)
      → z ≡ nearest (pos 65536 *ℤ p.top) p.bottom
      → to_z w64 (of_z w64 z) ≡ get_or (coefficients N d) k (pos 0)
  rounded-at k e i =
      let A = get_or (coefficients N d) k (pos 0) in
      let f = abs_fits w64 A (omega (arith, coefficient-small N d k c.requires)) in
      let j = coefficient-part N d (suc k) c.requires.low (omega arith) in
      rw (i, e, ← j, ← coefficient-at N d k c.requires.low) (to_z-of_z f)

pub rounded-a1-requires : goal.rounded-a1-requires
rounded-a1-requires c =
    let b = c.before.before in
    fraction-roundable b.before 1 (lit≤ tt) b.next-p1.ensures

pub rounded-a2-requires : goal.rounded-a2-requires
rounded-a2-requires c =
    let b = c.before.before in
    fraction-roundable b.before.before 2 (lit≤ tt) b.next-p2.ensures

pub rounded-a3-requires : goal.rounded-a3-requires
rounded-a3-requires c =
    let b = c.before.before in
    fraction-roundable b.before.before.before 3 (lit≤ tt) b.next-p3.ensures

pub returns : goal.returns
unfolding padded
returns c =
    let r3 = c.before.before.before in
    let r1 = r3.before.before in
    let p3 = r1.before in
    let p1 = p3.before.before in
    let s = p1.before in
    rw (
      rounded-at s 0 p1.next-p1.ensures r1.rounded-a1.ensures,
      rounded-at s 1 p3.next-p2.ensures r3.rounded-a2.ensures,
      rounded-at s 2 p3.next-p3.ensures r3.rounded-a3.ensures,
    )
