-- L9: what a call that is no change does to a voice with an announced change, in force or waiting, and to the
-- voice without it. Assumes nothing.
use mathlib.Core.Path.{◌≡◌, refl, sym, ◌∙◌}
use mathlib.Core.Bool.{Bool, true, false, cond}
use mathlib.Core.Option.{none, some}
use Prim.Native.Nat.{ℕ}
use borrow.Author.Tests.{eq-eqb}
use Rattle.rule.specs.Voice.{announced, Waiting, Voice, tuned}
use Rattle.rule.specs.Calls.{Call, loss, pluck, commit, withdraw, number, done, inputs}
use Rattle.rule.specs.State.{State, block_after, block_out, told, call, put}
use Rattle.rule.specs.Refusals.{Asked, Any}
use Rattle.rule.proofs.Refusals.{refuses}
use Rattle.rule.proofs.Keeps.{none-some}
use Rattle.rule.proofs.Accepted.{not-announced}

-- what an accepted call leaves and puts out
pub accepts : (v : State) (c : Call) → number v.voice c ≡ 0
    → (call v c ≡ block_after (told v c) (inputs c)) × (put v c ≡ block_out (told v c) (inputs c))
unfolding call put
accepts v c z = let e = eq-eqb (number v.voice c) 0 z in (rw e, rw e)

-- nothing asked waits in v, so a commit and a withdrawal are refused
pub record Unasked (v : Voice) : Type 0 where
  pub commit : number v commit ≡ 21
  pub withdraw : number v withdraw ≡ 21

unasked : (v : Voice) → (Asked v Any → ⊥) → Unasked v
unasked v f =
    record { commit = (refuses.commits v).nothing.1 f; withdraw = (refuses.withdraws v).nothing.1 f }

pub idle_unasked : (v : Voice) → v.waiting ≡ none → Unasked v
idle_unasked v i = unasked v (λ k. none-some (sym i ∙ k.held))

-- ---- v with the announced change w, in force or waiting
abbrev pub either : Bool → Voice → Waiting → Voice
either b v w = cond b (tuned v w.tuning w.state none) (tuned v v.tuning v.state (some w))

pub coming_unasked : (b : Bool) (v : Voice) (w : Waiting) → w.kind ≡ announced → Unasked (either b v w)
coming_unasked true v w e = idle_unasked (either true v w) refl
coming_unasked false v w e = unasked (either false v w) (λ k. not-announced k refl e)

-- a loss and a pluck touch nothing that a change touches
pub told-loss : (b : Bool) (u : State) (w : Waiting) (G : ℕ)
    → told (record { voice = either b u.voice w; line = u.line }) (loss G)
    ≡ record { voice = either b (told u (loss G)).voice w; line = u.line }
unfolding done
told-loss true u w G = refl
told-loss false u w G = refl

pub told-pluck : (b : Bool) (u : State) (w : Waiting) (p n z : ℕ)
    → told (record { voice = either b u.voice w; line = u.line }) (pluck p n z)
    ≡ record { voice = either b (told u (pluck p n z)).voice w; line = u.line }
unfolding done
told-pluck true u w p n z = refl
told-pluck false u w p n z = refl
