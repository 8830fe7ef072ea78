-- One step of a quiet voice with input 0: what goes round is shifted, and what goes in is smaller by one.
-- Assumes nothing.
use mathlib.Core.Path.{◌≡◌, sym, ap, subst, ◌∙◌}
use mathlib.Core.List.{List, [], ◌∷◌, ◌++◌}
use mathlib.Core.Option.{none}
use Prim.Native.Nat.{ℕ, ◌*◌, ◌-◌, ◌≤◌, ◌<◌}
use native.Mathlib.Omega.{arith}
use native.Mathlib.Nat.{mul-le-mul}
use lib.IntN.{ℤ, pos, nat_abs, ◌+ℤ◌, ◌*ℤ◌}
use lib.ListN.{take}
use lib.Seq.{get_or-take}
use Rattle.integer.specs.Rounding.{M, clip}
use Rattle.integer.specs.Cut.{Q}
use Rattle.integer.proofs.View.{absv, near}
use Rattle.integer.proofs.Ring.{abs-*, abs-+}
use Rattle.integer.proofs.Rounding.{clipv}
use Rattle.integer.proofs.Cut.{Q-abs}
use Rattle.thiran.specs.Coefficients.{norm}
use Rattle.allpass.specs.Allpass.{shift, final}
use Rattle.allpass.specs.Bounds.{Within}
use Rattle.allpass.proofs.Bounds.{head-within, front_within, back-within, final-within}
use Rattle.allpass.proofs.Still.{next-still, out-still}
use Rattle.rule.specs.Voice.{Voice, Pluck, A, noise, spent, output, written, heard, settled, stepped}
use Rattle.rule.specs.State.{State, back, step, sounds}
use Rattle.rule.specs.Valid.{Whole}
use Rattle.rule.proofs.Read.{get_d_within}
use Rattle.rule.proofs.Loop.{loop, loop_same, loop_shift}

-- ---- no pluck, nothing waits
noise-over : (p : Pluck) → p.left ≡ 0 → noise p ≡ pos 0
unfolding noise
noise-over p e = rw e

pub spent-over : (p : Pluck) → p.left ≡ 0 → (spent p).left ≡ 0
unfolding spent
spent-over p e = rw e

pub stepped-heard : (v : Voice) (r : ℕ → ℤ) → v.waiting ≡ none → stepped v r ≡ heard v r
unfolding stepped settled
stepped-heard v r e = rw e

-- ---- the loop's division takes one from what is within b, since G is below 65,536
clip-small : (z : ℤ) {b : ℕ} → nat_abs z ≤ b → nat_abs (clip z) ≤ b
clip-small z h = near (clip z) (omega (arith, clipv z, absv z))

less : (G b : ℕ) (x y : ℤ) → G ≤ 65535 → nat_abs x ≤ b → nat_abs y ≤ b
    → nat_abs (Q (pos G *ℤ (x +ℤ y))) ≤ b - 1
less G b x y g p q =
    let z = x +ℤ y in
    let s : nat_abs z ≤ 2 * b = omega (arith, abs-+ x y) in
    omega (arith, Q-abs (pos G *ℤ z), abs-* (pos G) z, mul-le-mul g s)

-- ---- a step
abbrev pub looped : State → List ℤ
looped v = loop v.voice.tuning.L v.line v.voice.state v.voice.last

module _ (v : State) (w : Whole v) (b : ℕ) (n : norm (A v.voice.tuning) * b < 65536) (m : b ≤ M)
    (idle : v.voice.waiting ≡ none) (over : v.voice.pluck.left ≡ 0) (h : Within b (looped v)) where
  abbrev u : Voice
  u = v.voice

  abbrev L : ℕ
  L = u.tuning.L

  abbrev q : List ℤ
  q = u.state

  abbrev f : ℤ
  f = back v.line L

  abbrev s : ℤ
  s = written u (back v.line) (pos 0)

  abbrev end : List ℤ
  end = u.last ∷ []

  behind : Within b (q ++ end)
  behind = back-within (take L v.line) (q ++ end) h

  inside : Within b q
  inside = front_within q end behind

  last : nat_abs u.last ≤ b
  last = head-within u.last (back-within q end behind)

  taken : nat_abs f ≤ b
  taken =
      let e = get_or-take L v.line (L - 1) (pos 0) (omega (arith, w.voice.fit.short)) in
      subst (λ (z : ℤ). nat_abs z ≤ b) e (get_d_within (L - 1) (front_within (take L v.line) (q ++ end) h))

  pub sounds-still : sounds v ≡ final (pos 0) q
  unfolding sounds output
  sounds-still = out-still (A u.tuning) f n inside taken m

  pub sounds-small : nat_abs (sounds v) ≤ b
  sounds-small = rw sounds-still (final-within {B = b} (pos 0) (omega arith) inside)

  pub written_small : nat_abs s ≤ b - 1
  unfolding written sounds
  written_small =
      let z = Q (pos u.G *ℤ (sounds v +ℤ u.last)) in
      rw (noise-over u.pluck over)
      (clip-small (pos 0 +ℤ z)
      (omega (arith, abs-+ (pos 0) z, less u.G b (sounds v) u.last w.voice.loss sounds-small last)))

  pub step_looped : looped (step v (pos 0)) ≡ shift s (looped v)
  unfolding step sounds
  step_looped =
      let l = s ∷ take 2111 v.line in
      let g = w.voice in
      ap (λ (x : Voice). loop x.tuning.L l x.state x.last) (stepped-heard u (back v.line) idle)
      ∙ loop_same L l (next-still (A u.tuning) f n inside) sounds-still
      ∙ sym (loop_shift s L v.line q u.last g.fit.short (omega (arith, w.many, g.fit.long))
      (omega (arith, g.fit.long)) (omega (arith, g.state.many, g.fit.takes.least)))
