-- `change::instant` meets its contract: a resting eliminator, run over the line, is put in force.
-- Assumes nothing.
use mathlib.Core.Path.{◌≡◌, refl, ap, ◌∙◌}
use lib.ListN.{length}
use Rattle.std.proofs.Common.{rules}
use Rattle.std.specs.Prelude.{Ok, Err}
use Rattle.line.specs.Ring.{ring}
use Rattle.refusal.specs.Limits.{refusal}
use Rattle.refusal.specs.Numbers.{number_of}
use Rattle.refusal.proofs.Numbers.{refused-above}
use Rattle.rule.specs.Calls.{instant, number, window, change_limits}
use Rattle.rule.specs.State.{back}
use Rattle.voice.specs.declared.Tuning.{Tuning}
use Rattle.voice.specs.Struct.{tuning_of, voice_of}
use Rattle.voice.proofs.Called.{called-refused, on}
use Rattle.change.proofs.Changes.{changes-instantly, count-refused, count-accepted}
use Rattle.change.proofs.instant.Goals as goal

pub returns-in_err-refused : goal.returns-in_err-refused
unfolding number
returns-in_err-refused c =
    let a = c.args in
    let v = c.requires in
    let r = c.in_err-refused.field-0.0 in
    let i : c.from_residual.result ≡ Err r = search rules in
    let u : c.refused.result ≡ Err r = search rules in
    let e : number_of r ≡ refusal (change_limits (voice_of a.head) (tuning_of a.to)) =
    rw u at c.refused.ensures.number in
    let to = tuning_of a.to in
    let k = called-refused a.head (instant to) v.fit e (refused-above r) in
    record {
      on = rw i (on a.line.now k v.line);
      count_value = rw i (count-refused (voice_of a.head) (back (ring a.head.at a.line.now)) to e (refused-above r));
    }

pub returns : goal.returns
unfolding number
returns c =
    let a = c.args in
    let v = c.requires in
    let u : c.refused.result ≡ Ok c.in_ok-refused.field-0 = search rules in
    let e : 0 ≡ refusal (change_limits (voice_of a.head) (tuning_of a.to)) = rw u at c.refused.ensures.number in
    let r = c.resting-e.ensures in
    let ran = c.prepared-run.ensures in
    let q = back (ring a.head.at a.line.now) in
    let taken =
    ran.count_value ∙ ap (λ (t : Tuning). length (window q t.length a.head.advance)) r.tuning in
    record {
      on = rw c.with.ensures (changes-instantly v.fit r a.line.now v.line e refl ran.ran);
      count_value = count-accepted (voice_of a.head) q (tuning_of a.to) e refl taken;
    }
