-- A voice that fades: how far each turn of the loop has come, and what a step and a block of zeros make of it.
-- Assumes nothing.
use mathlib.Core.Path.{◌≡◌, refl, ap, subst, ◌∙◌}
use mathlib.Core.Option.{none}
use Prim.Native.Nat.{ℕ, zero, suc, ◌+◌, ◌*◌, ◌-◌, ◌≤◌, ◌<◌}
use native.Mathlib.Omega.{arith}
use native.Mathlib.Nat.{mul-le-mul_left}
use native.Mathlib.Decide.{dec_lt}
use lib.IntN.{ℤ, pos}
use lib.ListN.{length, get_or, replicate}
use Rattle.integer.specs.Rounding.{M}
use Rattle.integer.proofs.View.{absv, Zs}
use Rattle.thiran.specs.Coefficients.{norm}
use Rattle.allpass.specs.Bounds.{Within}
use Rattle.rule.specs.Voice.{Tuning, Voice, A, written, heard}
use Rattle.rule.specs.State.{State, back, step, sounds, block_after, block_out}
use Rattle.rule.specs.Valid.{Whole}
use Rattle.rule.proofs.States.{step-whole}
use Rattle.rule.proofs.Loop.{Graded, all_old, all_new, either, shift-new, length_loop}
use Rattle.rule.proofs.Fade.{looped, stepped-heard, spent-over, sounds-small, written_small, step_looped}

-- how many numbers go round
abbrev pub K : Tuning → ℕ
K t = t.L + t.N + 1

-- v is within b, and the first j numbers that go round in it within b − 1; after k steps it is within 0
pub record Fading (t : Tuning) (B k : ℕ) (v : State) : Type 0 where
  pub b : ℕ
  pub j : ℕ
  pub small : b ≤ B
  pub place : j < K t
  pub left : b * K t ≤ k + j
  pub whole : Whole v
  pub tuning : v.voice.tuning ≡ t
  pub idle : v.voice.waiting ≡ none
  pub over : v.voice.pluck.left ≡ 0
  pub graded : Graded (b - 1) b j (looped v)

module _ (t : Tuning) (B : ℕ) (n : norm (A t) * B < 65536) (m : B ≤ M) where
  module _ {k : ℕ} (v : State) (f : Fading t B k v) where
    light : norm (A v.voice.tuning) * f.b < 65536
    light = rw f.tuning (omega (arith, mul-le-mul_left (norm (A t)) f.small))

    fits : f.b ≤ M
    fits = omega (arith, f.small)

    all : Within f.b (looped v)
    all = either (omega arith) f.graded

    abbrev s : State
    s = step v (pos 0)

    graded_on : Graded (f.b - 1) f.b (suc f.j) (looped s)
    graded_on =
        rw (step_looped v f.whole f.b light fits f.idle f.over all)
        (shift-new (written v.voice (back v.line) (pos 0))
        (written_small v f.whole f.b light fits f.idle f.over all) f.graded)

    heard-is : s.voice ≡ heard v.voice (back v.line)
    unfolding step
    heard-is = stepped-heard v.voice (back v.line) f.idle

    tuning-on : s.voice.tuning ≡ t
    tuning-on = ap (λ (u : Voice). u.tuning) heard-is ∙ f.tuning

    whole-on : Whole s
    whole-on = step-whole v (pos 0) f.whole

    many : length (looped s) ≡ K t
    many =
        let u = s.voice in
        let g = whole-on.voice in
        let h : u.tuning.L ≤ length s.line = omega (arith, whole-on.many, g.fit.long) in
        let e = ap (λ (x : Tuning). x.L) tuning-on in
        let i = ap (λ (x : Tuning). x.N) tuning-on in
        omega (arith, length_loop u.tuning.L s.line u.state u.last h, g.state.many)

    -- at j = K all are within b − 1, and the next turn begins
    onward : Fading t B (k - 1) s
    onward = go (dec_lt (suc f.j) (K t))
      where
        at : (b j : ℕ) → b ≤ B → j < K t → b * K t ≤ k - 1 + j → Graded (b - 1) b j (looped s)
            → Fading t B (k - 1) s
        at b j l p e g = record {
          b = b;
          j = j;
          small = l;
          place = p;
          left = e;
          whole = whole-on;
          tuning = tuning-on;
          idle = ap (λ (u : Voice). u.waiting) heard-is;
          over = ap (λ (u : Voice). u.pluck.left) heard-is ∙ spent-over v.voice.pluck f.over;
          graded = g;
        }

        turn : (b : ℕ) → b * K t ≤ k + f.j → K t ≤ suc f.j → (b - 1) * K t ≤ k - 1 + 0
        turn zero l e = let i : 0 - 1 ≡ 0 = omega arith in rw i (omega arith)
        turn (suc b) l e = let i : suc b - 1 ≡ b = omega arith in rw i (omega (arith, f.place))

        go : Dec (suc f.j < K t) → Fading t B (k - 1) s
        go (yes p) = at f.b (suc f.j) f.small p (omega (arith, f.left)) graded_on
        go (no p) =
            at (f.b - 1) 0 (omega (arith, f.small)) (omega arith) (turn f.b f.left (omega arith))
            (all_old (all_new (omega (arith, many)) graded_on))

  none_left : (b j : ℕ) → j < K t → b * K t ≤ 0 + j → b ≡ 0
  none_left zero j p l = refl
  none_left (suc b) j p l = absurd (omega arith)

  silent : (v : State) → Fading t B 0 v → sounds v ≡ pos 0
  silent v f =
      let z = none_left f.b f.j f.place f.left in
      let small = sounds-small v f.whole f.b (light v f) (fits v f) f.idle f.over (all v f) in
      omega (Zs, absv (sounds v))

  -- ---- blocks
  pub zeros-out : (b : ℕ) {k : ℕ} (v : State) → Fading t B k v → (i : ℕ) → k ≤ i
      → get_or (block_out v (replicate b (pos 0))) i (pos 0) ≡ pos 0
  zeros-out zero v f i l = refl
  zeros-out (suc b) v f zero l = silent v (subst (λ (x : ℕ). Fading t B x v) (omega arith) f)
  zeros-out (suc b) v f (suc i) l = zeros-out b (step v (pos 0)) (onward v f) i (omega arith)

  pub zeros-after : (b : ℕ) {k : ℕ} (v : State) → Fading t B k v
      → Fading t B (k - b) (block_after v (replicate b (pos 0)))
  zeros-after zero {k} v f = subst (λ (x : ℕ). Fading t B x v) (omega arith) f
  zeros-after (suc b) {k} v f =
      subst (λ (x : ℕ). Fading t B x (block_after v (replicate (suc b) (pos 0)))) (omega arith)
      (zeros-after b (step v (pos 0)) (onward v f))
