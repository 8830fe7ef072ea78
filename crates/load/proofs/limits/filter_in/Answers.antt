-- `load::limits::filter_in` meets its contract: a test for each limit.
-- Assumes nothing.
use native.Mathlib.Omega.{arith}
use mathlib.Core.Path.{sym, ◌∙◌}
use Rattle.refusal.proofs.Numbers.{not-err-code, is_err-code}
use Rattle.voice.specs.Struct.{tuning_of}
use Rattle.load.specs.Words.{three_of}
use Rattle.load.proofs.Said.{says_no, tuned, all_said}
use Rattle.load.proofs.limits.filter_in.Goals as goal

pub returns-then-is_err : goal.returns-then-is_err
returns-then-is_err c =
    let v = c.args.v in
    let u = c.untuned in
    says_no
    (λ f. is_err-code u.result u.ensures (sym c.is_err.ensures.value ∙ c.if-is_err.true)
    (tuned (tuning_of c.args.tuning) (three_of v.a v.b v.c) f))

pub returns : goal.returns
returns c =
    let v = c.args.v in
    let u = c.untuned in
    all_said (tuning_of c.args.tuning) (three_of v.a v.b v.c) c.past.result
    (sym (not-err-code u.result u.ensures (sym c.is_err.ensures.value ∙ c.if-is_err.false)))
    (omega (arith, c.magnitude-x.ensures, c.if-x-gt16777214.false))
    (omega (arith, c.magnitude-y.ensures, c.if-y-gt16777214.false))
    (omega (arith, c.magnitude-z.ensures, c.if-z-gt16777214.false))
    (rw (← c.magnitude-y.ensures, ← c.magnitude-z.ensures) c.past.ensures)
