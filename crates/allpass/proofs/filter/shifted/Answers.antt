-- `allpass::filter::shifted` meets its contract: past the order 0, and up to it the old number before.
-- Assumes nothing.
use mathlib.Core.Path.{◌≡◌, refl, ap, ◌∙◌}
use mathlib.Core.List.{[], ◌∷◌}
use native.Mathlib.Omega.{arith}
use lib.IntN.{ℤ}
use mir.Syntax.{w64}
use mir.Val.{to_z, of_z}
use Rattle.integer.proofs.View.{read}
use Rattle.allpass.specs.Stored.{stored}
use Rattle.allpass.proofs.filter.shifted.Goals as goal

pub returns-then-order-lt2 : goal.returns-then-order-lt2
unfolding stored
returns-then-order-lt2 c =
    let s = c.before.before in
    let e : s.args.order ≡ 1 = omega arith in
    rw (e, read w64 s.args.w.n c.struct_told-1.given.0.1 refl)

pub returns-then-order-lt3 : goal.returns-then-order-lt3
unfolding stored
returns-then-order-lt3 c =
    let s = c.before.before.before.before in
    let e : s.args.order ≡ 2 = omega arith in
    let q = read w64 s.args.v.v1 c.struct_told-then-order-lt3-2-1.given.0.1 refl in
    rw (e, read w64 s.args.w.n c.struct_told-then-order-lt3-1.given.0.1 refl)
    (ap (λ (x : ℤ). stored (s.args.w.n ∷ x ∷ [])) q)

pub returns : goal.returns
unfolding stored
returns c =
    let s = c.before.before.before.before in
    let e : s.args.order ≡ 3 = omega arith in
    let p = read w64 s.args.v.v1 c.struct_told-3-1.given.0.1 refl in
    let q = read w64 s.args.v.v2 c.struct_told-3-1.given.1.0.1 refl in
    let z = s.args.w.n in
    rw (e, read w64 z c.struct_told-2-1.given.0.1 refl)
    (ap (λ (x : ℤ). stored (z ∷ x ∷ to_z w64 (of_z w64 s.args.v.v2) ∷ [])) p
    ∙ ap (λ (x : ℤ). stored (z ∷ s.args.v.v1 ∷ x ∷ [])) q)
