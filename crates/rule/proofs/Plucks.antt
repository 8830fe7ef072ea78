-- A pluck adds amplitude × draw at each of its next count steps, and nothing after them.
-- Assumes nothing.
use mathlib.Core.Path.{◌≡◌, refl, ap, ◌∙◌}
use mathlib.Core.List.{List, [], ◌∷◌}
use Prim.Native.Nat.{ℕ, zero, suc, ◌-◌, ◌≤◌, ◌<◌}
use native.Mathlib.Omega.{arith}
use native.Mathlib.Decide.{dec_lt}
use borrow.Author.Tests.{ne_eqb, le-leb, lt-leb}
use lib.IntN.{ℤ, pos, ◌*ℤ◌}
use lib.ListN.{length}
use Rattle.noise.specs.Noise.{next, value}
use Rattle.rule.specs.Voice.{Pluck, silent, noise, spent}
use Rattle.rule.specs.Calls.{pluck}
use Rattle.rule.specs.History.{History, step, through, told, ago}
use Rattle.rule.specs.Plucks.{drawn, Plucks}
use Rattle.rule.proofs.Keeps.{keeps}
use Rattle.rule.proofs.Steps.{step_keeps}

abbrev of : ℕ → ℕ → ℕ → Pluck
of a n z = record { amplitude = a; left = n; noise = z }

-- what is left of a pluck after i steps
abbrev later : ℕ → Pluck → Pluck
later zero p = p
later (suc i) p = later i (spent p)

through-pluck : (xs : List ℤ) (h : History) → (through h xs).voice.pluck ≡ later (length xs) h.voice.pluck
through-pluck [] h = refl
through-pluck (x ∷ xs) h = through-pluck xs (step h x) ∙ ap (later (length xs)) (step_keeps h x).pluck

-- ---- one step
goes_on : (a n z : ℕ) → 1 < n → spent (of a n z) ≡ of a (n - 1) (next z)
unfolding spent
goes_on a n z h = rw (lt-leb n 1 h)

ends : (a n z : ℕ) → n ≤ 1 → spent (of a n z) ≡ silent
unfolding spent
ends a n z h = rw (le-leb n 1 h)

-- ---- many
later-silent : (i : ℕ) → later i silent ≡ silent
later-silent zero = refl
later-silent (suc i) = ap (later i) (ends 0 0 0 (omega arith)) ∙ later-silent i

adds : (i a n z : ℕ) → i < n → noise (later i (of a n z)) ≡ pos a *ℤ value (drawn (suc i) z)
unfolding noise
adds zero a n z h = rw (ne_eqb n 0 (λ e. omega arith))
adds (suc i) a n z h =
    ap (λ (p : Pluck). noise (later i p)) (goes_on a n z (omega arith))
    ∙ adds i a (n - 1) (next z) (omega arith)

over : (i a n z : ℕ) → 1 ≤ n → n ≤ i → later i (of a n z) ≡ silent
over zero a n z h l = absurd (omega arith)
over (suc i) a n z h l = go (dec_lt 1 n) (over i a (n - 1) (next z))
  where
    go : Dec (1 < n) → (1 ≤ n - 1 → n - 1 ≤ i → later i (of a (n - 1) (next z)) ≡ silent)
        → later i (spent (of a n z)) ≡ silent
    go (yes k) f = rw (goes_on a n z k) (f (omega arith) (omega arith))
    go (no k) f = rw (ends a n z (omega arith)) (later-silent i)

quiet : noise silent ≡ pos 0
unfolding noise
quiet = refl

pub plucks : (h : History) (a n z : ℕ) (xs : List ℤ) → Plucks h a n z xs
plucks h a n z xs =
    let i = length xs in
    let p : (told h (pluck a n z)).voice.pluck ≡ of a n z
    = ap (λ v. v.pluck) ((keeps h.voice (ago h)).set_pluck a n z) in
    let e : (through (told h (pluck a n z)) xs).voice.pluck ≡ later i (of a n z)
    = through-pluck xs (told h (pluck a n z)) ∙ ap (later i) p in
    record { adds = λ l. rw e (adds i a n z l); over = λ k l. rw (e, over i a n z k l) quiet }
