-- Each sample brings a waiting change one nearer, and a commit is accepted when none is left.
use mathlib.Core.Path.{◌≡◌, refl, sym, ap, ◌∙◌}
use mathlib.Core.Bool.{Bool, true, false, cond, true≢false}
use mathlib.Core.List.{List, [], ◌∷◌}
use mathlib.Core.Option.{Option, none, some}
use Prim.Native.Nat.{ℕ, ◌-◌, ◌<◌}
use native.Mathlib.Omega.{arith}
use borrow.Author.Tests.{eqb-true}
use lib.IntN.{ℤ}
use lib.ListN.{length}
use Rattle.rule.specs.Voice.{Waiting, Kind, announced, asked, Voice}
use Rattle.rule.specs.Voice.{heard, fed_too, commits, tuned, settled, stepped}
use Rattle.rule.specs.Calls.{commit, number}
use Rattle.rule.specs.State.{State, back, step, block_after}
use Rattle.rule.proofs.Refusals.{refuses}
use Rattle.rule.proofs.Keeps.{none-some, same_some}
use Rattle.voice.specs.declared.Waiting.{Waiting as Held}
use Rattle.voice.specs.declared.Waiting.TheVariants.{Idle, Prepared}
use Rattle.voice.specs.Struct.{waiting_of}
use Rattle.voice.specs.Valid.{Waiting-valid}
use Rattle.kept.specs.Awaited.{left, awaited, Awaits}

-- ---- samples
commits-at : (k : Kind) (n Na : ℕ) → commits k n Na ≡ true → n ≡ Na
commits-at announced n Na e = eqb-true n Na e
commits-at asked n Na e = absurd (true≢false (sym e))

settle-left : (v : Voice) (w : Option Waiting) → v.waiting ≡ none → awaited (settled v w) ≡ left v.Na w
unfolding settled
settle-left v none i = rw i
settle-left v (some w) i = go (commits w.kind w.taken v.Na) refl
  where
    go : (b : Bool) → commits w.kind w.taken v.Na ≡ b
        → awaited (cond b (tuned v w.tuning w.state none) (tuned v v.tuning v.state (some w)))
        ≡ v.Na - w.taken
    go true e = omega (arith, commits-at w.kind w.taken v.Na e)
    go false e = refl

fed-left : (Na : ℕ) (w : Option Waiting) (r : ℕ → ℤ) → left Na (fed_too Na w r) ≡ left Na w - 1
fed-left Na none r = omega arith
fed-left Na (some w) r = omega arith

step_left : (v : State) (x : ℤ) → awaited (step v x).voice ≡ awaited v.voice - 1
unfolding step stepped
step_left v x =
    let r = back v.line in
    let w = fed_too v.voice.Na v.voice.waiting r in
    settle-left (heard v.voice r) w refl ∙ fed-left v.voice.Na v.voice.waiting r

samples-left : (v : State) (xs : List ℤ) → awaited (block_after v xs).voice ≡ awaited v.voice - length xs
samples-left v [] = omega arith
samples-left v (x ∷ xs) = omega (arith, samples-left (step v x) xs, step_left v x)

-- ---- a commit
ask-left : (v : Voice) (w : Waiting) → v.waiting ≡ some w → w.kind ≡ asked
    → (number v commit ≡ 0 → awaited v ≡ 0) × (awaited v ≡ 0 → number v commit ≡ 0)
ask-left v w p k = (
  (λ e.
      let a = (refuses.commits v).accepted.0 e in
      rw a.held (omega (arith, a.taken))),
  (λ e.
      let z : v.Na - w.taken ≡ 0 = rw p at e in
      (refuses.commits v).accepted.1 (record { w = w; held = p; kind = k; taken = omega arith })),
)

-- ---- an announced change
early-left : (Na : ℕ) (h : Held) (w : Waiting) → Waiting-valid Na h → waiting_of h ≡ some w → w.kind ≡ announced
    → 0 < left Na (waiting_of h)
early-left Na Idle w f p k = absurd (none-some p)
early-left Na (Prepared i e n) w f p k =
    let s = same_some p in
    omega (arith, f.early (ap (λ (y : Waiting). y.kind) s ∙ k))

pub awaits : Awaits
awaits = record {
  sample = samples-left;
  ask = ask-left;
  announce = λ h f w p k. early-left h.advance h.waiting w f.waiting p k;
}
