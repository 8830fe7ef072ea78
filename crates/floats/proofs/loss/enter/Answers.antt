-- `floats::loss::enter` meets its contract.
use Rattle.std.proofs.Common.{◌≡◌, ℕ, false, ◌||◌, cond, ltb, pos, ap, ◌∙◌, arith, rules, le-ltb, lt-ltb}
use Rattle.std.specs.Prelude.{Err}
use lib.Ieee.{of_bits}
use Rattle.integer.specs.Parts.{dn}
use Rattle.integer.proofs.View.{negv}
use Rattle.refusal.specs.Numbers.{number_of}
use Rattle.floats.specs.Worth.{finite, size, unit, above}
use Rattle.floats.specs.Loss.{loss, loss_of}
use Rattle.floats.proofs.Tests.{is-finite, not-finite, fin-T, below, not_below, over, not-over}
use Rattle.floats.proofs.loss.enter.Goals.{then-x-via-then-x, then-x-via-else-x+then-x-2}
use Rattle.floats.proofs.loss.enter.Goals as goal

pub returns-in_err-finite : goal.returns-in_err-finite
unfolding loss
returns-in_err-finite c =
    let r = c.in_err-finite.field-0.0 in
    let i : c.from_residual.result ≡ Err r = search rules in
    let e : number_of r ≡ cond (finite c.args.x) 0 26 = search rules in
    let f = not-finite c.args.x r e in
    ap loss_of i ∙ rw (f.0, f.1)

pub returns-then-x : goal.returns-then-x
unfolding loss of_bits
returns-then-x c =
    let x = c.args.x in
    let z : ◌≡◌ {A = ℕ} 0 (cond (finite x) 0 26) = search rules in
    let e = is-finite x z in
    elim c.then-x.branch [
      | then-x-via-then-x w ↦
          let b = below x (fin-T x e) w.if-x.true in
          rw (e, lt-ltb 0 (dn (above x)) (rw b.0 (omega (arith, negv (pos (size x)), b.1))))
      | then-x-via-else-x+then-x-2 w ↦
          let o = over x 1 (fin-T x e) w.if-x-2.true in
          rw (e, o.0, lt-ltb (unit x) (size x) (omega (arith, o.1)))
    ]

pub gain-requires : goal.gain-requires
unfolding of_bits
gain-requires c =
    let x = c.args.x in
    let z : ◌≡◌ {A = ℕ} 0 (cond (finite x) 0 26) = search rules in
    let f = fin-T x (is-finite x z) in
    let n = not_below x f c.if-x.false in
    (f, n, not-over x 1 f n c.if-x-2.false)

pub returns : goal.returns
unfolding loss of_bits
returns c =
    let x = c.args.x in
    let z : ◌≡◌ {A = ℕ} 0 (cond (finite x) 0 26) = search rules in
    let e = is-finite x z in
    let n = not_below x (fin-T x e) c.if-x.false in
    let m = not-over x 1 (fin-T x e) n c.if-x-2.false in
    let o : ltb 0 (dn (above x)) || ltb (unit x) (size x) ≡ false
    = rw (n, le-ltb (unit x) (size x) (omega (arith, m))) in
    rw (e, o, c.gain.ensures)
