-- What one step does to a voice, by what waits there.
-- Assumes nothing.
use mathlib.Core.Path.{◌≡◌, refl}
use mathlib.Core.Bool.{true, false}
use mathlib.Core.List.{List, [], ◌∷◌}
use mathlib.Core.Option.{Option, none, some}
use Prim.Native.Nat.{ℕ, suc, ◌≤◌, ◌<◌, min}
use native.Mathlib.Omega.{arith}
use native.Mathlib.Decide.{dec_lt}
use borrow.Author.Tests.{eq-eqb, ne_eqb}
use lib.IntN.{ℤ}
use lib.ListN.{length-append}
use Rattle.allpass.specs.Allpass.{next}
use Rattle.rule.specs.Voice.{Kind, announced, asked, Waiting, Voice, A, output, written, fed, commits}
use Rattle.rule.specs.Voice.{settled, heard, stepped}
use Rattle.rule.specs.History.{History, steps, ago, step}
use Rattle.rule.specs.Keeps.{InForce, Retuned}
use Rattle.rule.proofs.Keeps.{either_keeps, announced-asked}

-- an announced change commits itself with the sample that makes Na; no other does
pub commits-not : (k : Kind) (n Na : ℕ) → (k ≡ announced → n < Na) → commits k n Na ≡ false
commits-not announced n Na l = ne_eqb n Na (λ e. omega (arith, l refl))
commits-not asked n Na l = refl

commits-now : {k : Kind} (n Na : ℕ) → k ≡ announced → Na ≤ n → commits k (min n Na) Na ≡ true
commits-now n Na e l = rw e (eq-eqb (min n Na) Na (omega arith))

module _ (v : Voice) (r : ℕ → ℤ) where
  abbrev pub filtered : List ℤ
  filtered = next (A v.tuning) v.state (r v.tuning.L)

  pub stepped-idle : v.waiting ≡ none → InForce (stepped v r) v.tuning filtered none
  unfolding stepped settled
  stepped-idle p = rw p (record { tuning = refl; state = refl; waiting = refl })

  pub stepped-waits : (w : Waiting) → v.waiting ≡ some w → (w.kind ≡ announced → suc w.taken < v.Na)
      → InForce (stepped v r) v.tuning filtered (some (fed v.Na w r))
  unfolding stepped settled
  stepped-waits w p l =
      rw (p, commits-not w.kind (min (suc w.taken) v.Na) v.Na (λ e. omega (arith, l e)))
      (record { tuning = refl; state = refl; waiting = refl })

  pub stepped-switches : (w : Waiting) → v.waiting ≡ some w → w.kind ≡ announced → v.Na ≤ suc w.taken
      → InForce (stepped v r) w.tuning (fed v.Na w r).state none
  unfolding stepped settled
  stepped-switches w p e l =
      rw (p, commits-now (suc w.taken) v.Na e l) (record { tuning = refl; state = refl; waiting = refl })

  pub stepped_keeps : Retuned (heard v r) (stepped v r)
  unfolding stepped settled output
  stepped_keeps = go v.waiting refl
    where
      go : (o : Option Waiting) → v.waiting ≡ o → Retuned (heard v r) (stepped v r)
      go none p = rw p (record { loss = refl; advance = refl; last = refl; pluck = refl })
      go (some w) p =
          rw p
          (either_keeps (commits w.kind (min (suc w.taken) v.Na) v.Na) (heard v r) _ _ _ _ _ _)

  -- u is v after the step, by one of the three
  pub data Goes (u : Voice) : Type 0 where
    idle : v.waiting ≡ none → InForce u v.tuning filtered none → Goes u
    holds : (w : Waiting) → v.waiting ≡ some w → (w.kind ≡ announced → suc w.taken < v.Na)
        → InForce u v.tuning filtered (some (fed v.Na w r)) → Goes u
    switches : (w : Waiting) → v.waiting ≡ some w → w.kind ≡ announced → v.Na ≤ suc w.taken
        → InForce u w.tuning (fed v.Na w r).state none → Goes u

  pub goes : Goes (stepped v r)
  goes = go v.waiting refl
    where
      go : (o : Option Waiting) → v.waiting ≡ o → Goes (stepped v r)
      go none p = idle p (stepped-idle p)
      go (some w) p = at (dec_lt (suc w.taken) v.Na) w.kind refl
        where
          at : Dec (suc w.taken < v.Na) → (k : Kind) → w.kind ≡ k → Goes (stepped v r)
          at (yes l) k e = holds w p (λ i. l) (stepped-waits w p (λ i. l))
          at (no l) announced e = switches w p e (omega arith) (stepped-switches w p e (omega arith))
          at (no l) asked e =
              let f : w.kind ≡ announced → suc w.taken < v.Na = λ i. absurd (announced-asked i e) in
              holds w p f (stepped-waits w p f)

-- ---- of a history
module _ (h : History) (x : ℤ) where
  pub step-steps : steps (step h x) ≡ suc (steps h)
  unfolding step
  step-steps = omega (arith, length-append h.s (written h.voice (ago h) x ∷ []))

  pub step_keeps : Retuned (heard h.voice (ago h)) (step h x).voice
  unfolding step
  step_keeps = stepped_keeps h.voice (ago h)

  pub step-goes : Goes h.voice (ago h) (step h x).voice
  unfolding step
  step-goes = goes h.voice (ago h)

  pub step-began : (step h x).began ≡ h.began
  unfolding step
  step-began = refl
