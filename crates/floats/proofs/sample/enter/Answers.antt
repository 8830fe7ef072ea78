-- `floats::sample::enter` meets its contract.
use Rattle.std.proofs.Common.{◌≡◌, ℕ, cond, refl, ap, ◌∙◌, arith, lit<, w64, to_z, of_z, rules, le-ltb, lt-ltb}
use Rattle.std.specs.Prelude.{Err}
use lib.Ieee.{of_bits, neg}
use Rattle.integer.specs.Rounding.{clip}
use Rattle.refusal.specs.Numbers.{number_of}
use Rattle.floats.specs.Worth.{finite, size, unit}
use Rattle.floats.specs.Steps.{Scaled}
use Rattle.floats.specs.Sample.{enters, sample_of}
use Rattle.floats.proofs.Parts.{rounded, small}
use Rattle.floats.proofs.Tests.{is-finite, not-finite, fin-T, under, over, between}
use Rattle.floats.proofs.sample.enter.Goals.{then-x-via-then-x, then-x-via-else-x+then-x-2}
use Rattle.floats.proofs.sample.enter.Goals as goal

pub returns-in_err-finite : goal.returns-in_err-finite
unfolding enters
returns-in_err-finite c =
    let r = c.in_err-finite.field-0.0 in
    let i : c.from_residual.result ≡ Err r = search rules in
    let e : number_of r ≡ cond (finite c.args.x) 0 26 = search rules in
    let f = not-finite c.args.x r e in
    ap sample_of i ∙ rw (f.0, f.1)

pub returns-then-x : goal.returns-then-x
unfolding enters of_bits neg
returns-then-x c =
    let x = c.args.x in
    let z : ◌≡◌ {A = ℕ} 0 (cond (finite x) 0 26) = search rules in
    let e = is-finite x z in
    elim c.then-x.branch [
      | then-x-via-then-x w ↦ rw (e, lt-ltb (unit x) (size x) (omega (arith, under x 1 (fin-T x e) w.if-x.true)))
      | then-x-via-else-x+then-x-2 w ↦
          rw (e, lt-ltb (unit x) (size x) (omega (arith, (over x 1 (fin-T x e) w.if-x-2.true).1)))
    ]

pub scale-requires : goal.scale-requires
scale-requires c =
    let x = c.args.x in
    let z : ◌≡◌ {A = ℕ} 0 (cond (finite x) 0 26) = search rules in
    fin-T x (is-finite x z)

pub nearest_half-requires : goal.nearest_half-requires
unfolding of_bits neg
nearest_half-requires c =
    let x = c.args.x in
    let z : ◌≡◌ {A = ℕ} 0 (cond (finite x) 0 26) = search rules in
    let f = fin-T x (is-finite x z) in
    let s : Scaled x 24 c.scale.result = c.scale.ensures 24 (omega arith) refl in
    (s.is_finite, small x c.scale.result 24 1 s (between x 1 f c.if-x.false c.if-x-2.false) (lit< tt))

pub returns : goal.returns
unfolding enters of_bits neg
returns c =
    let x = c.args.x in
    let z : ◌≡◌ {A = ℕ} 0 (cond (finite x) 0 26) = search rules in
    let e = is-finite x z in
    let s : Scaled x 24 c.scale.result = c.scale.ensures 24 (omega arith) refl in
    let value = c.clip.ensures ∙ ap clip (c.nearest_half.ensures ∙ rounded x c.scale.result 23 s) in
    let read : to_z w64 (of_z w64 c.clip.result.n) ≡ c.clip.result.n = search rules in
    rw (
      read,
      value,
      e,
      le-ltb (unit x) (size x) (omega (arith, between x 1 (fin-T x e) c.if-x.false c.if-x-2.false)),
    )
