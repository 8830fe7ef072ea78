-- With the advance that `least` returns, or a greater one, every change to the tuning keeps the wanted distance.
use mathlib.Core.Path.{refl}
use mathlib.Core.List.{List}
use Prim.Native.Nat.{ℕ, ◌+◌, ◌-◌, ◌/◌, ◌≤◌}
use native.Mathlib.Omega.{arith}
use native.Mathlib.Nat.{le_trans, le-div_iff_mul-le, div-mul-le_self}
use Rattle.refusal.proofs.Ranges.{ranges}
use Rattle.thiran.specs.Coefficients.{coefficients, norm}
use Rattle.thiran.proofs.Small.{norm-coefficients}
use Rattle.rule.specs.Calls.{Call, Opening}
use Rattle.rule.proofs.OwnLiterals.{reaches}
use Rattle.advance.specs.Least.{least_advance}
use Rattle.advance.specs.Keeps.{Keeps}
use Rattle.advance.proofs.Returns.{returns}

pub keeps : (o : Opening) (cs : List Call) (N d wanted : ℕ) → Keeps o cs N d wanted
keeps o cs N d wanted pre post c m k short order delay zero enough =
    let Na = (least_advance N d wanted).na in
    let p = ((returns.advances N d wanted).least Na).0 (zero, refl) in
    let t = (ranges.takes N d).1 p.0 in
    let n = norm (coefficients N d) in
    let K = Na / N in
    let reached : K ≤ (k.a + (m - k.e)) / k.t.N
    = rw order
    ((le-div_iff_mul-le {k = N} {x = K} {y = k.a + (m - k.e)} (omega (arith, t.least))).1
    (omega (arith, div-mul-le_self Na N))) in
    le_trans
    (reaches o cs n K (omega (arith, norm-coefficients N d t)) pre post c m k short
    (rw (order, delay) (omega arith)) reached)
    p.1.does
