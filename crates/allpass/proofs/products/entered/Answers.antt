-- `allpass::products::entered` meets its contract: by its quotient, or by the sum of two numbers.
-- Assumes nothing.
use mathlib.Core.Path.{◌≡◌, ap, ◌∙◌}
use Prim.Native.Nat.{ℕ}
use native.Mathlib.Omega.{arith}
use lib.IntN.{ℤ, ◌+ℤ◌, ◌-ℤ◌}
use mir.Syntax.{w64}
use mir.Val.{to_z, of_z}
use Rattle.integer.specs.Cut.{R}
use Rattle.integer.proofs.View.{read}
use Rattle.thiran.specs.Answers.{taps}
use Rattle.allpass.specs.Allpass.{dot, inner}
use Rattle.allpass.specs.Stored.{held}
use Rattle.allpass.specs.Products.{products_of}
use Rattle.allpass.specs.declared.products.Products.{Products}
use Rattle.allpass.proofs.Bounds.{dot-small}
use Rattle.allpass.proofs.Renewed.{first-sum, older_sum}
use Rattle.allpass.proofs.Little.{Fits, products_fit}
use Rattle.allpass.proofs.products.entered.Goals as goal

-- ---- order 1
pub inner-requires : goal.inner-requires
inner-requires c =
    let s = c.before.before in
    let N = s.args.order in
    let e = ap (λ (k : Products). k.cut) s.requires.1 in
    let r = read w64 s.args.k.cut c.struct_told-1.given.0.1 e in
    (s.requires.0, r ∙ first-sum s.args.c s.args.v N c.if-order-eq1.true)

-- ---- orders 2 and 3
module _ (c : goal.After-struct_told-3-1) where
  abbrev N : ℕ
  N = c.args.order

  abbrev k : Products
  k = products_of N c.args.c c.args.v

  fit : Fits k
  fit =
      let f = c.requires.0 in
      products_fit N c.args.c c.args.v f.least f.most f.taps_small f.state_within

  older-read : to_z w64 (of_z w64 c.args.k.older) ≡ k.older
  older-read =
      read w64 c.args.k.older c.struct_told-3-1.given.1.1.0.1
      (ap (λ (k : Products). k.older) c.requires.1)

  newest-read : to_z w64 (of_z w64 c.args.k.newest) ≡ k.newest
  newest-read =
      read w64 c.args.k.newest c.struct_told-2-1.given.1.0.1
      (ap (λ (k : Products). k.newest) c.requires.1)

  -- A1·v1 + .. + AN·vN
  is_sum : k.newest +ℤ k.older ≡ dot (taps N c.args.c) (held N c.args.v)
  is_sum =
      let l = c.if-order-eq1.false in
      older_sum c.args.c c.args.v N (omega (arith, l)) c.requires.0.most

pub plus-u-requires : goal.plus-u-requires
plus-u-requires c =
    (rw (newest-read c) (omega (arith, (fit c).newest)), rw (older-read c) (omega (arith, (fit c).older)))

summed : (c : goal.After-plus-u) → let t = c.before in
    c.plus-u.result.n ≡ dot (taps (N t) t.args.c) (held (N t) t.args.v)
summed c =
    let t = c.before in
    rw (newest-read t, older-read t) at c.plus-u.ensures ∙ is_sum t

pub less-requires : goal.less-requires
less-requires c =
    let s = c.before.before.before.before in
    let f = s.requires.0 in (
      omega (arith, f.sample),
      rw (summed c) (dot-small (taps s.args.order s.args.c) f.taps_small f.state_within),
    )

pub returns : goal.returns
unfolding inner
returns c =
    let s = c.before.before.before.before.before in
    c.less.ensures ∙ ap (λ (u : ℤ). s.args.f.n -ℤ R u) (summed c.before)
