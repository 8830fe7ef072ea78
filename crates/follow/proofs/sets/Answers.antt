-- `follow::sets` meets its contract: where no bit stands, there is no call, and nowhere else.
use mathlib.Core.Path.{◌≡◌, sym, ap, ap₂, ◌∙◌}
use mathlib.Core.Bool.{not}
use Prim.Native.Nat.{ℕ, ◌+◌}
use native.Mathlib.Nat.{add_assoc}
use native.Mathlib.Omega.{arith}
use borrow.Author.Tests.{eqb-true, eq-eqb, not-false}
use Rattle.follow.specs.Follow.{stands}
use Rattle.follow.proofs.Following.{none_of, no-calls, some-call}
use Rattle.follow.proofs.sets.Goals as goal

pub returns : goal.returns
returns c v =
    let d = c.before in
    let e = d.before in
    let f = e.before in
    let r = f.args.r.now in
    let change : f.bit.result + e.bit-2.result ≡ stands r 1 + stands r 2
    = ap₂ (λ (x y : ℕ). x + y) f.bit.ensures e.bit-2.ensures in
    let all = f.bit.result + e.bit-2.result + (d.bit-3.result + c.bit-4.result) in (
      λ z.
          let n = eqb-true all 0 (not-false _ z) in
          let no = none_of (f.bit.result + e.bit-2.result) d.bit-3.result c.bit-4.result
          (add_assoc (f.bit.result + e.bit-2.result) d.bit-3.result c.bit-4.result ∙ n) in
          no-calls r v (sym d.bit-3.ensures ∙ no.1) (sym change ∙ no.0) (sym c.bit-4.ensures ∙ no.2),
      λ z.
          let k = some-call r v z in
          let n : all ≡ 0
          = omega (arith, d.bit-3.ensures ∙ k.0, change ∙ k.1, c.bit-4.ensures ∙ k.2) in
          ap not (eq-eqb all 0 n),
    )
