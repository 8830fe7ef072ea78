-- specs/Unstored.antt: what any bytes load keeps the limits and follows the sample rule; the figure can fail of it.
use mathlib.Core.Path.{◌≡◌, refl}
use mathlib.Core.Option.{some}
use Prim.Native.Nat.{suc, ◌<◌}
use native.Mathlib.Omega.{arith}
use native.Mathlib.Decide.{ℕ_discrete}
use lib.IntN.{ℤ}
use Rattle.integer.specs.Cut.{Q}
use Rattle.rule.specs.Voice.{announced, Waiting, output, written}
use Rattle.rule.specs.State.{State, back, step, sounds, from}
use Rattle.rule.specs.Valid.{Whole}
use Rattle.rule.proofs.Steps.{stepped-idle, stepped-waits, stepped-switches, stepped_keeps}
use Rattle.rule.proofs.States.{from-whole}
use Rattle.rule.proofs.Refusals as Rule
use Rattle.form.specs.Loads.{loads}
use Rattle.form.specs.Unstored.{Sample, Unstored}
use Rattle.form.proofs.Theorems.{valid}

module _ (v : State) (x : ℤ) (h : Whole v) where
  -- an announced change has taken fewer than Na samples, and fewer still where this one is not the last
  less : (w : Waiting) → v.voice.waiting ≡ some w
      → (w.kind ≡ announced → suc w.taken ≡ v.voice.Na → ⊥)
      → w.kind ≡ announced → suc w.taken < v.voice.Na
  less w p f κ = go (ℕ_discrete (suc w.taken) v.voice.Na)
    where
      go : Dec (suc w.taken ≡ v.voice.Na) → suc w.taken < v.voice.Na
      go (yes e) = absurd (f κ e)
      go (no n) = omega (arith, (h.voice.waiting w p).early κ)

  sampled : Sample v x
  unfolding step sounds output written Q
  sampled =
      let u = v.voice in
      let r = back v.line in
      let k = stepped_keeps u r in
      record {
        output = refl;
        sample = refl;
        kept = (k.loss, k.advance);
        last = k.last;
        pluck = k.pluck;
        idle = stepped-idle u r;
        waits = λ w p f. stepped-waits u r w p (less w p f);
        switches = λ w p κ e. stepped-switches u r w p κ (omega arith);
      }

pub unstored : Unstored
unstored = record {
  returns = Rule.refuses;
  whole = λ s b cs. from-whole cs (loads s).state (valid s b).whole;
  samples = λ s b cs x. sampled (from (loads s).state cs) x (from-whole cs (loads s).state (valid s b).whole);
}
