-- An accepted block of b samples is b steps, every other call and every refused one is none.
-- Assumes nothing.
use mathlib.Core.Path.{◌≡◌, refl, ap, ◌∙◌}
use mathlib.Core.List.{List, [], ◌∷◌}
use Prim.Native.Nat.{ℕ, ◌+◌}
use native.Mathlib.Omega.{arith}
use native.Mathlib.Decide.{ℕ_discrete}
use borrow.Author.Tests.{ne_eqb}
use lib.IntN.{ℤ}
use lib.ListN.{length}
use Rattle.rule.specs.Calls.{Call, block, loss, pluck, prepare, instant, commit, withdraw}
use Rattle.rule.specs.Calls.{number, done, inputs}
use Rattle.rule.specs.History.{History, steps, step, through, call}
use Rattle.rule.specs.Keeps.{NoStep, Counts}
use Rattle.rule.proofs.Walk.{call-accepted}
use Rattle.rule.proofs.Steps.{step-steps}

through-steps : (xs : List ℤ) (h : History) → steps (through h xs) ≡ steps h + length xs
through-steps [] h = omega arith
through-steps (x ∷ xs) h = through-steps xs (step h x) ∙ omega (arith, step-steps h x)

runs : (h : History) (xs : List ℤ) (n : ℕ) → number h.voice (block xs n) ≡ 0
    → call h (block xs n) ≡ through h xs
unfolding done
runs h xs n e = call-accepted h (block xs n) e

refused : (h : History) (c : Call) → (number h.voice c ≡ 0 → ⊥) → call h c ≡ h
unfolding call
refused h c f = rw (ne_eqb (number h.voice c) 0 f)

no_step : (h : History) (c : Call) → inputs c ≡ [] → NoStep h (call h c)
no_step h c e = go (ℕ_discrete (number h.voice c) 0)
  where
    go : Dec (number h.voice c ≡ 0) → NoStep h (call h c)
    go (yes z) = rw (call-accepted h c z, e) (record { s = refl; y = refl })
    go (no f) = rw (refused h c f) (record { s = refl; y = refl })

pub counts : (h : History) → Counts h
counts h = record {
  block_runs = runs h;
  block_steps = λ xs n e. ap steps (runs h xs n e) ∙ through-steps xs h;
  loss_none = λ G. no_step h (loss G) refl;
  pluck_none = λ a n z. no_step h (pluck a n z) refl;
  prepare_none = λ k to. no_step h (prepare k to) refl;
  instant_none = λ to. no_step h (instant to) refl;
  commit_none = no_step h commit refl;
  withdraw_none = no_step h withdraw refl;
  refused_none = refused h;
}
