-- What an accepted commit and an accepted withdrawal make of a voice.
-- Assumes nothing.
use mathlib.Core.Path.{◌≡◌, refl, subst}
use Prim.Native.Nat.{ℕ}
use Rattle.std.specs.Prelude.{Result, Ok, Err}
use Rattle.refusal.specs.declared.Refusal.{Refusal}
use Rattle.refusal.specs.Numbers.{code_of}
use Rattle.refusal.proofs.Numbers.{refused-above}
use Rattle.rule.specs.Calls.{commit, withdraw, number, done}
use Rattle.voice.specs.declared.Waiting.{Waiting}
use Rattle.voice.specs.declared.Waiting.TheVariants.{Idle, Prepared}
use Rattle.voice.specs.declared.Head.{Head}
use Rattle.voice.specs.Struct.{voice_of, with_of}
use Rattle.voice.specs.Valid.{Waiting-valid, Fit}
use Rattle.voice.specs.Called.{Called}
use Rattle.voice.proofs.Called.{fit_as, called, called-refused}
use Rattle.change.specs.Committed.{committed_of, committing_of}

module _ {h : Head} (k : Fit h) where
  commits : {n : ℕ} → n ≡ number (voice_of h) commit → n ≡ 0
      → Called h commit (record { refusal = 0; head = committed_of h h.waiting })
  unfolding done
  commits n z = go h.waiting refl
    where
      go : (w : Waiting) → h.waiting ≡ w
          → Called h commit (record { refusal = 0; head = committed_of h w })
      go Idle e = called h commit h refl n z refl k (λ q. rw e)
      go (Prepared i f t) e =
          let p = subst (λ (w : Waiting). Waiting-valid h.advance w) e
          k.waiting in
          called h commit (with_of h f Idle) refl n z refl
          (fit_as k p.tuned k.loss tt k.pluck) (λ q. rw e)

  -- refused or not
  pub commits-or-not : {A : Type 0} (x : Result A Refusal) → code_of x ≡ number (voice_of h) commit
      → Called h commit (committing_of h x)
  commits-or-not (Ok x) e = commits e refl
  commits-or-not (Err r) e = called-refused h commit k e (refused-above r)

  pub withdraws : {n : ℕ} → n ≡ number (voice_of h) withdraw → n ≡ 0
      → Called h withdraw (record { refusal = 0; head = with_of h h.filter Idle })
  unfolding done
  withdraws n z =
      called h withdraw (with_of h h.filter Idle) refl n z refl
      (fit_as k k.filter k.loss tt k.pluck) (λ q. refl)
