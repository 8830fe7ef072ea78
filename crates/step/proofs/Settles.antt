-- A head whose waiting change took a sample: none waited, the change is put in force, or it waits on.
-- Assumes nothing.
use mathlib.Core.Path.{◌≡◌, refl}
use mathlib.Core.Bool.{Bool, true, false, cond}
use Prim.Native.Nat.{ℕ, suc, ◌≤◌, ◌<◌, min}
use native.Mathlib.Omega.{arith}
use borrow.Author.Tests.{eqb-false}
use lib.IntN.{ℤ}
use Rattle.rule.specs.Voice as Rule
use Rattle.rule.specs.Voice.{announced, asked, commits, tuned}
use Rattle.rule.proofs.Keeps.{announced-asked}
use Rattle.voice.specs.declared.Filter.{Filter}
use Rattle.voice.specs.declared.Kind.{Kind}
use Rattle.voice.specs.declared.Waiting.TheVariants.{Idle, Prepared}
use Rattle.voice.specs.declared.Head.{Head}
use Rattle.voice.specs.Struct.{kind_of, with_of, settled_of}
use Rattle.voice.specs.Valid.{Fit}
use Rattle.voice.proofs.Called.{fit_as}
use Rattle.step.specs.Sample.{Moved, Settles}

-- an announced change that does not commit itself has not taken enough
pub not_yet : (k : Rule.Kind) (n a : ℕ) → n ≤ a → commits k n a ≡ false → k ≡ announced → n < a
not_yet announced n a l e i = omega (arith, eqb-false n a e)
not_yet asked n a l e i = absurd (announced-asked i refl)

module _ {h : Head} (f : Fit h) where
  pub settles_idle : {g : ℤ} → Settles h Idle g h
  unfolding Rule.settled
  settles_idle = record { voice = λ q r. refl; fit = f; place = refl }

  module _ (k : Kind) {e n : Filter} (t : ℕ) {g : ℤ} (m : Moved e g n) where
    abbrev c : ℕ
    c = min (suc t) h.advance

    pub settles : Settles h (Prepared k e t) g (settled_of h k n c)
    unfolding Rule.settled
    settles = go (commits (kind_of k) c h.advance) refl
      where
        go : (b : Bool) → commits (kind_of k) c h.advance ≡ b
            → Settles h (Prepared k e t) g (cond b (with_of h n Idle) (with_of h h.filter (Prepared k n c)))
        go true i = record {
          voice = λ q r. rw (i, r, m.state, m.tuning);
          fit = fit_as f m.tuned f.loss tt f.pluck;
          place = refl;
        }
        go false i = record {
          voice = λ q r. rw (i, r, m.state, m.tuning);
          fit =
              fit_as f f.filter f.loss
              (record {
                tuned = m.tuned;
                counted = omega arith;
                early = not_yet (kind_of k) c h.advance (omega arith) i;
              })
              f.pluck;
          place = refl;
        }
