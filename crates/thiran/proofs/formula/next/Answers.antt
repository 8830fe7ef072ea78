-- `thiran::formula::next` meets its contract: one step of `part`, whose factors fit (proofs/Steps.antt).
-- Assumes nothing.
use mathlib.Core.Path.{◌≡◌, sym, ap, subst}
use Prim.Native.Nat.{ℕ, suc, ◌+◌, ◌*◌, ◌^◌, ◌<◌}
use native.Mathlib.Omega.{arith}
use native.Mathlib.Numerals.{add-one}
use borrow.Author.Rules.{rules}
use lib.IntN.{pos, ◌-ℤ◌, ◌*ℤ◌}
use mir.Syntax.{w64}
use mir.Val.{SFits, to_z, of_z}
use mir.Facts.{to_z-of_z}
use mir.ValLaws.{to_z_pos}
use Rattle.integer.proofs.View.{abs_fits, vfit, -v}
use Rattle.thiran.specs.Steps.{step, part, Roundable}
use Rattle.thiran.proofs.Steps.{upper, upper_small, lower_small, roundable}
use Rattle.thiran.proofs.formula.next.Goals as goal

-- p − q of two unsigned numbers: it fits, and what the machine reads back
abbrev Difference : ℕ → ℕ → Type 0
Difference p q =
    let z = to_z w64 p -ℤ to_z w64 q in
    SFits w64 z × (to_z w64 (of_z w64 z) ≡ pos p -ℤ pos q)

difference : (p q : ℕ) → p < 2 ^ 63 → q < 2 ^ 63 → Difference p q
difference p q h k =
    let f = vfit w64 (pos p -ℤ pos q) (omega (arith, -v (pos p) (pos q))) in
    rw (to_z_pos w64 p h, to_z_pos w64 q k) (f, to_z-of_z f)

module _ (c : goal.Start) where
  abbrev N : ℕ
  N = c.args.order

  abbrev d : ℕ
  d = c.args.d

  abbrev k : ℕ
  k = c.args.k

  n : Difference N k
  n = difference N k (omega arith) (omega arith)

  x : Difference (4096 * N) (d + 4096 * k)
  x = difference (4096 * N) (d + 4096 * k) (omega arith) (omega arith)

  upper_fits : SFits w64 (upper N d k)
  upper_fits = abs_fits w64 (upper N d k) (omega (arith, upper_small N d c.requires.0 k c.requires.1))

  lower-fits : (k + 1) * (d + 4096 * (k + 1)) < 2 ^ 32
  lower-fits = rw (add-one k) (omega (arith, lower_small N d c.requires.0 k c.requires.1))

  next-part : step N d k c.args.p ≡ part N d (suc k)
  next-part = ap (step N d k) c.requires.2

  next_fits : Roundable (step N d k c.args.p)
  next_fits = subst Roundable (sym next-part) (roundable N d c.requires.0 (suc k) c.requires.1)

  top-fits : SFits w64 (c.args.p.top *ℤ upper N d k)
  top-fits = abs_fits w64 (c.args.p.top *ℤ upper N d k) (let f = next_fits in omega arith)

pub overflow_sub-n : goal.overflow_sub-n
overflow_sub-n c = (n c).0

pub overflow_sub-x : goal.overflow_sub-x
overflow_sub-x c = (x c).0

pub overflow_mul-q-2 : goal.overflow_mul-q-2
overflow_mul-q-2 c = omega (arith, lower-fits c)

pub overflow_mul-result : goal.overflow_mul-result
overflow_mul-result c = rw ((n c).1, (x c).1) (upper_fits c)

pub overflow_mul-result-2 : goal.overflow_mul-result-2
overflow_mul-result-2 c =
    let s = c.before.before.before in
    let p : (to_z w64 (of_z w64 c.args.p.top) ≡ c.args.p.top) = search rules in
    rw (p, (n s).1, (x s).1, to_z-of_z (upper_fits s)) (top-fits s)

pub overflow_cast-result : goal.overflow_cast-result
overflow_cast-result c = omega (arith, lower-fits c.before.before.before)

pub overflow_mul-result-3 : goal.overflow_mul-result-3
overflow_mul-result-3 c =
    let s = c.before.before.before in let f = next_fits s in rw (add-one (k s)) (omega arith)

pub returns : goal.returns
returns c =
    let s = c.before.before.before in
    let p : (to_z w64 (of_z w64 c.args.p.top) ≡ c.args.p.top) = search rules in
    rw (p, (n s).1, (x s).1, to_z-of_z (upper_fits s), to_z-of_z (top-fits s), add-one (k s)) (next-part s)
