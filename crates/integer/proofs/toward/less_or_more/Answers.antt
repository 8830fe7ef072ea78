-- `integer::toward::less_or_more` meets its contract: R of a number is a floor on either side of 0 (proofs/Either.antt).
use Rattle.std.proofs.Common.{◌≡◌, sym, ap, ◌∙◌, Bool, true, false, cond, ℤ, pos, ◌+ℤ◌, ◌-ℤ◌}
use mathlib.Core.Bool.{not}
use lib.Signed.{lt_z}
use Rattle.integer.specs.Rounding.{floor}
use Rattle.integer.specs.Cut.{R}
use Rattle.integer.proofs.Either.{turned, less_turned, more_turned, straight, turned_small, straight_small}
use Rattle.integer.proofs.toward.less_or_more.Goals as goal

-- what is taken off with the other sign is added
other : (adds : Bool) (f u : ℤ)
    → cond (not adds) (f +ℤ (pos 0 -ℤ R u)) (f -ℤ (pos 0 -ℤ R u)) ≡ cond adds (f +ℤ R u) (f -ℤ R u)
other true f u = more_turned u f
other false f u = less_turned u f

pub minus_or_plus-requires : goal.minus_or_plus-requires
minus_or_plus-requires g c = (c.requires.0, rw c.cut.ensures (straight_small c.args.u.n c.requires.1))

is-turned : (u m r : ℤ) (b : Bool) → b ≡ lt_z u (pos 0) → b ≡ true → m ≡ pos 0 -ℤ u → r ≡ floor m 65536
    → r ≡ pos 0 -ℤ R u
is-turned u m r b test below e f = f ∙ ap (λ (z : ℤ). floor z 65536) e ∙ turned u (sym test ∙ below)

is-straight : (u r : ℤ) (b : Bool) → b ≡ lt_z u (pos 0) → b ≡ false → r ≡ floor u 65536 → r ≡ R u
is-straight u r b test above e = e ∙ straight u (sym test ∙ above)

pub minus_or_plus-requires-then-is_below_zero : goal.minus_or_plus-requires-then-is_below_zero
minus_or_plus-requires-then-is_below_zero g c =
    let u = c.args.u.n in
    let e = is-turned u c.minus.result.n c.floor_shift.result.n c.is_below_zero.result c.is_below_zero.ensures
    c.if-is_below_zero.true c.minus.ensures c.floor_shift.ensures in
    (c.requires.0, rw e (turned_small u c.requires.1))

pub returns-then-is_below_zero : goal.returns-then-is_below_zero
returns-then-is_below_zero g c =
    let u = c.args.u.n in
    let e = is-turned u c.minus.result.n c.floor_shift.result.n c.is_below_zero.result c.is_below_zero.ensures
    c.if-is_below_zero.true c.minus.ensures c.floor_shift.ensures in
    rw e at c.minus_or_plus-then-is_below_zero.ensures ∙ other _ c.args.f.n u

pub minus_or_plus-requires-2 : goal.minus_or_plus-requires-2
minus_or_plus-requires-2 g c =
    let u = c.args.u.n in
    let e = is-straight u c.floor_shift-2.result.n c.is_below_zero.result c.is_below_zero.ensures
    c.if-is_below_zero.false c.floor_shift-2.ensures in
    (c.requires.0, rw e (straight_small u c.requires.1))

pub returns : goal.returns
returns g c =
    let u = c.args.u.n in
    let e = is-straight u c.floor_shift-2.result.n c.is_below_zero.result c.is_below_zero.ensures
    c.if-is_below_zero.false c.floor_shift-2.ensures in
    rw e at c.minus_or_plus-2.ensures
