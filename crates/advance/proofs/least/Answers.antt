-- `advance::least` meets its contract: what is not refused is taken, and its coefficients add up to their norm.
use mathlib.Core.Path.{◌≡◌, sym, ap, ◌∙◌}
use Prim.Native.Nat.{ℕ, ◌+◌}
use native.Mathlib.Omega.{arith}
use lib.IntN.{nat_abs}
use Rattle.std.proofs.Common.{rules}
use Rattle.std.specs.Prelude.{Ok, Err}
use Rattle.refusal.specs.Limits.{refusal}
use Rattle.refusal.specs.Numbers.{number_of}
use Rattle.refusal.specs.Orders.{Takes}
use Rattle.refusal.proofs.Numbers.{refused-above}
use Rattle.thiran.specs.Coefficients.{coefficients, norm}
use Rattle.thiran.specs.Answers as Thiran
use Rattle.thiran.specs.Answers.{Design, design, designed}
use Rattle.thiran.proofs.Lists.{length-coefficients}
use Rattle.thiran.proofs.Refusals.{takes, design-taken}
use Rattle.thiran.proofs.Returns.{number_is}
use Rattle.thiran.proofs.Small.{norm-coefficients}
use Rattle.advance.specs.Least.{advance_of, found, first}
use Rattle.advance.proofs.First.{three}
use Rattle.advance.proofs.Refusals.{turned, early, answered}
use Rattle.advance.proofs.least.Goals.{After-norm}
use Rattle.advance.proofs.least.Goals as goal

pub returns-in_err-c : goal.returns-in_err-c
returns-in_err-c c =
    let s = c.args in
    let r = c.in_err-c.field-0.0 in
    let i : c.from_residual.result ≡ Err r = search rules in
    let g : designed (Err r) ≡ design s.order s.d = search rules in
    let e : number_of r ≡ refusal (Thiran.limits s.order s.d)
    = ap (λ (a : Design). a.refusal) g ∙ sym (number_is s.order s.d) in
    let f : refusal (Thiran.limits s.order s.d) ≡ 0 → ⊥ = λ z. refused-above r (e ∙ z) in
    let n = early s.order s.d s.wanted f in
    ap advance_of i ∙ sym (turned s.order s.d s.wanted (λ z. f (sym n ∙ z)) ∙ rw (n, e))

-- ---- what is not refused
module _ (c : After-norm) where
  given : designed (Ok c.in_ok-c.c) ≡ design c.args.order c.args.d
  given = search rules

  number : refusal (Thiran.limits c.args.order c.args.d) ≡ 0
  number = number_is c.args.order c.args.d ∙ sym (ap (λ (a : Design). a.refusal) given)

  fit : Takes c.args.order c.args.d
  fit = takes c.args.order c.args.d number

  sum : c.norm.result ≡ norm (coefficients c.args.order c.args.d)
  sum =
      let s = c.args in
      c.norm.ensures
      ∙ ap (λ (r : Design). nat_abs r.a1 + nat_abs r.a2 + nat_abs r.a3) (given ∙ design-taken s.order s.d fit)
      ∙ three (coefficients s.order s.d) (omega (arith, length-coefficients s.order s.d, fit.most))

pub search-requires : goal.search-requires
search-requires c =
    let s = c.args in
    let t = fit c in
    (omega (arith, sum c, norm-coefficients s.order s.d t), t.least, t.most)

pub returns : goal.returns
returns c =
    let s = c.args in
    ap advance_of c.search.ensures
    ∙ ap (λ (n : ℕ). advance_of (found (first n s.order s.wanted))) (sum c.before)
    ∙ answered s.order s.d s.wanted (number c.before)
