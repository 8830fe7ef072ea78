-- `allpass::effective_length` meets its contract: what is not refused is taken, with small coefficients.
-- Assumes nothing.
use mathlib.Core.Path.{◌≡◌, sym}
use Rattle.std.proofs.Common.{rules}
use Rattle.std.specs.Prelude.{Err}
use Rattle.refusal.specs.Limits.{refusal}
use Rattle.refusal.specs.Numbers.{number_of}
use Rattle.thiran.specs.Answers.{limits}
use Rattle.thiran.proofs.Refusals.{takes}
use Rattle.allpass.proofs.Taken.{taken-taps, taken-small, measured-err, length_taken}
use Rattle.allpass.proofs.effective_length.Goals as goal

pub returns-in_err-refused : goal.returns-in_err-refused
returns-in_err-refused c =
    let s = c.args in
    let r = c.in_err-refused.field-0.0 in
    let i : c.from_residual.result ≡ Err r = search rules in
    let e : number_of r ≡ refusal (limits s.order s.d) = search rules in
    measured-err s.order s.d s.threshold r i e

pub last_loud-requires : goal.last_loud-requires
last_loud-requires c =
    let s = c.args in
    let z : 0 ≡ refusal (limits s.order s.d) = search rules in
    let t = takes s.order s.d (sym z) in
    (t.least, t.most, taken-small s.order s.d t c.set-c.result c.set-c.ensures)

pub returns : goal.returns
returns c =
    let s = c.args in
    let set = c.set-c in
    let z : 0 ≡ refusal (limits s.order s.d) = search rules in
    let t = takes s.order s.d (sym z) in
    rw (
      c.last_loud.ensures,
      taken-taps s.order s.d t set.result set.ensures,
      length_taken s.order s.d s.threshold t,
    )
