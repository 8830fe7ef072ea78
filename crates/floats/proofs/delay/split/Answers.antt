-- `floats::delay::split` meets its contract: by which test came out, and past them by the split of T.
use Rattle.std.proofs.Common.{◌≡◌, ℕ, Bool, cond, [], ◌∷◌, true, false, pos, sym, ap, ◌∙◌, rules}
use Rattle.std.specs.Prelude.{Err}
use lib.Ieee.{of_bits}
use Rattle.refusal.specs.declared.Refusal.{Refusal}
use Rattle.refusal.specs.Limits.{met, refusal}
use Rattle.refusal.specs.Numbers.{number_of}
use Rattle.refusal.specs.Orders.{order}
use Rattle.refusal.specs.Returned.{Kept}
use Rattle.refusal.proofs.Numbers.{refused-above}
use Rattle.refusal.proofs.Returned.{passed, kept-is}
use Rattle.refusal.proofs.Passed.{first-kept}
use Rattle.pitch.specs.Pitch.{pitch_of}
use Rattle.pitch.proofs.Refused.{refused-is}
use Rattle.floats.specs.Worth.{finite}
use Rattle.floats.specs.Delay.{period, number, split}
use Rattle.floats.proofs.Tests.{is-finite, not-finite, fin-T, below, not_below, over, not-over}
use Rattle.floats.proofs.Times.{times, nearest_times, times_over}
use Rattle.floats.proofs.Times.{times_neg, refused_13, too_short, too_long}
use Rattle.floats.proofs.delay.split.Goals.{then-x-via-then-x, then-x-via-else-x+then-x-2}
use Rattle.floats.proofs.delay.split.Goals as goal

ordered : (N : ℕ) → 0 ≡ refusal (order N ∷ []) → Kept (order N)
ordered N e = first-kept (passed (order N ∷ []) tt (sym e))

first_of : (b : Bool) (k : ℕ) (r : Refusal) → number_of r ≡ cond b 1 0 → number_of r ≡ cond b 1 k
first_of true k r e = e
first_of false k r e = absurd (refused-above r e)

pub returns-in_err-within : goal.returns-in_err-within
unfolding split
returns-in_err-within c =
    let a = c.args in
    let r = c.in_err-within.field-0.0 in
    let i : c.from_residual.result ≡ Err r = search rules in
    let e : number_of r ≡ refusal (order a.order ∷ []) = search rules in
    ap pitch_of i ∙ refused-is a.order (period a.x) (number a.order a.x) r (first_of (met (order a.order)) _ r e)

pub returns-in_err-finite : goal.returns-in_err-finite
unfolding split
returns-in_err-finite c =
    let a = c.args in
    let r = c.in_err-finite.field-0.0 in
    let i : c.from_residual-in_err-finite.result ≡ Err r = search rules in
    let o : 0 ≡ refusal (order a.order ∷ []) = search rules in
    let e : number_of r ≡ cond (finite a.x) 0 26 = search rules in
    let f = not-finite a.x r e in
    ap pitch_of i
    ∙ refused-is a.order (period a.x) (number a.order a.x) r (f.1 ∙ rw (kept-is _ (ordered a.order o), f.0))

pub returns-then-x : goal.returns-then-x
unfolding split of_bits
returns-then-x c =
    let s = c.args in
    let x = s.x in
    let y : 0 ≡ refusal (order s.order ∷ []) = search rules in
    let z : ◌≡◌ {A = ℕ} 0 (cond (finite x) 0 26) = search rules in
    let o = ordered s.order y in
    let k = kept-is (order s.order) o in
    let e = is-finite x z in
    elim c.then-x.branch [
      | then-x-via-then-x w ↦
          let short = too_short s.order (period x) o.least (times_neg x 4096 (below x (fin-T x e) w.if-x.true).0) in
          rw (k, e) (refused_13 s.order (period x) short)
      | then-x-via-else-x+then-x-2 w ↦
          let b = over x 4095 (fin-T x e) w.if-x-2.true in
          let t = times x 4096 in
          let far = times_over x 4096 4095 b.1 in
          let long = too_long s.order t o.least o.most far in
          rw (k, e, nearest_times x 4096 b.0) (refused_13 s.order (pos t) long)
    ]

pub period-requires : goal.period-requires
unfolding of_bits
period-requires c =
    let x = c.args.x in
    let z : ◌≡◌ {A = ℕ} 0 (cond (finite x) 0 26) = search rules in
    let f = fin-T x (is-finite x z) in
    let n = not_below x f c.if-x.false in
    (f, n, not-over x 4095 f n c.if-x-2.false)

pub split-requires : goal.split-requires
split-requires c =
    let y : 0 ≡ refusal (order c.args.order ∷ []) = search rules in
    let o = ordered c.args.order y in
    (o.least, o.most)

pub returns : goal.returns
unfolding split
returns c =
    let s = c.args in
    let y : 0 ≡ refusal (order s.order ∷ []) = search rules in
    let z : ◌≡◌ {A = ℕ} 0 (cond (finite s.x) 0 26) = search rules in
    rw (kept-is (order s.order) (ordered s.order y), is-finite s.x z, ← c.period.ensures) c.split.ensures
