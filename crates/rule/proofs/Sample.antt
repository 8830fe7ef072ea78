-- "One sample of the voice", at every step of every list.
-- Assumes nothing.
use mathlib.Core.Path.{◌≡◌, refl, sym, ◌∙◌}
use mathlib.Core.List.{List, [], ◌∷◌}
use mathlib.Core.Option.{some}
use Prim.Native.Nat.{suc, ◌<◌}
use native.Mathlib.Omega.{arith}
use native.Mathlib.Decide.{ℕ_discrete}
use lib.IntN.{ℤ, pos}
use lib.ListN.{get_or, get_or-append}
use lib.Seq.{get_or_at}
use Rattle.integer.specs.Cut.{Q}
use Rattle.rule.specs.Voice.{announced, Waiting, output, written}
use Rattle.rule.specs.Calls.{Call, Opening}
use Rattle.rule.specs.History.{History, steps, ago, step, after}
use Rattle.rule.specs.Demands.{Sample}
use Rattle.rule.proofs.Steps.{step-steps, step_keeps, stepped-idle, stepped-waits, stepped-switches}
use Rattle.rule.proofs.Sound.{Sound, after_sound}

module _ (h : History) (x : ℤ) (g : Sound h) where
  output-now : get_or (step h x).y (steps h) (pos 0) ≡ output h.voice (ago h)
  unfolding step
  output-now = get_or_at h.y (output h.voice (ago h)) [] (pos 0) (steps h) g.even

  -- an announced change has taken fewer than Na samples, and fewer still where this one is not the last
  less : (w : Waiting) → h.voice.waiting ≡ some w
      → (w.kind ≡ announced → suc w.taken ≡ h.voice.Na → ⊥)
      → w.kind ≡ announced → suc w.taken < h.voice.Na
  less w p f κ = go (ℕ_discrete (suc w.taken) h.voice.Na)
    where
      go : Dec (suc w.taken ≡ h.voice.Na) → suc w.taken < h.voice.Na
      go (yes e) = absurd (f κ e)
      go (no n) = omega (arith, (g.valid.waiting w p).early κ)

  pub sampled : Sample h x
  unfolding step output written Q
  sampled =
      let v = h.voice in
      let n = steps h in
      let s' = written v (ago h) x in
      let y' = output v (ago h) in
      record {
        output = output-now;
        sample = get_or_at h.s s' [] (pos 0) n refl ∙ rw (output-now, g.last);
        more = step-steps h x;
        before =
            λ i l. (
              get_or-append h.s (s' ∷ []) (pos 0) i l,
              get_or-append h.y (y' ∷ []) (pos 0) i (omega (arith, g.even)),
            );
        kept = ((step_keeps h x).loss, (step_keeps h x).advance);
        last = (step_keeps h x).last ∙ sym output-now;
        pluck = (step_keeps h x).pluck;
        idle = stepped-idle v (ago h);
        waits = λ w p f. stepped-waits v (ago h) w p (less w p f);
        switches = λ w p κ e. stepped-switches v (ago h) w p κ (omega arith);
      }

pub sample : (o : Opening) (cs : List Call) (x : ℤ) → Sample (after o cs) x
sample o cs x = sampled (after o cs) x (after_sound o cs)
