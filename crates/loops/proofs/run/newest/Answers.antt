-- `loops::run::newest` meets its contract: with nothing coming in, what the loop brings back is kept by `clip`.
-- Assumes nothing.
use mathlib.Core.Path.{◌≡◌, sym, ap, subst, ◌∙◌}
use Prim.Native.Nat.{◌≤◌}
use native.Mathlib.Omega.{arith}
use lib.IntN.{ℤ, pos, nat_abs, ◌+ℤ◌, +ℤ_idl}
use Rattle.integer.specs.Rounding.{M, clip}
use Rattle.integer.proofs.Rounding.{clip-kept}
use Rattle.loops.proofs.Fed.{none_in}
use Rattle.loops.proofs.run.newest.Goals as goal

kept : {x b z : ℤ} → x ≡ pos 0 → b ≡ z → nat_abs b ≤ M → b ≡ clip ((x +ℤ pos 0) +ℤ z)
kept {x} {b} {z} e i h = rw (e, ← i) (sym (ap clip (+ℤ_idl b) ∙ clip-kept b h))

pub mixed-requires : goal.mixed-requires
mixed-requires c =
    (subst (λ (z : ℤ). nat_abs z ≤ M) (sym c.input-x.ensures) c.requires.i_in_bounds.1, omega arith, c.looped-b.ensures.1)

pub returns-then-fed : goal.returns-then-fed
returns-then-fed c = rw (← c.input-x.ensures, ← c.looped-b.ensures.0) c.mixed.ensures

pub returns : goal.returns
returns c =
    let a = c.args in
    kept (none_in a.fed a.buffer.now a.i c.if-fed.false) c.looped-b.ensures.0 c.looped-b.ensures.1
