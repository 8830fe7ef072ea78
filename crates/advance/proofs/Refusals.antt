-- The number of `least`: 1 and 3 as `coefficients` has them, then 32; and what comes back with it.
use mathlib.Core.Path.{◌≡◌, refl, sym, ◌∙◌}
use mathlib.Core.Bool.{Bool, true, false, cond}
use Prim.Native.Nat.{ℕ, ◌≤◌, ◌<◌}
use native.Mathlib.Omega.{arith}
use native.Mathlib.Decide.{dec_lt}
use borrow.Author.Tests.{eq-eqb, ne_eqb, lt-ltb, le-ltb, le-leb, lt-leb}
use Rattle.refusal.specs.Limits.{met, refusal}
use Rattle.refusal.specs.Orders.{order, delay}
use Rattle.thiran.specs.Coefficients.{coefficients, norm}
use Rattle.thiran.specs.Answers as Thiran
use Rattle.advance.specs.Least.{advance_of, found, first, enough, limits, least_advance}

-- the numbers of tests that hold or not
abbrev last : Bool → ℕ
last q = cond q 32 0

abbrev tests : Bool → Bool → ℕ → ℕ
tests o p rest = cond o 1 (cond p 3 rest)

early_by : (o p q : Bool) → (tests o p 0 ≡ 0 → ⊥) → tests o p (last q) ≡ tests o p 0
early_by true p q f = refl
early_by false true q f = refl
early_by false false q f = absurd (f refl)

late_by : (o p q : Bool) → tests o p 0 ≡ 0 → tests o p (last q) ≡ last q
late_by true p q e = absurd (omega arith)
late_by false true q e = absurd (omega arith)
late_by false false q e = refl

module _ (N d wanted : ℕ) where
  abbrev F : ℕ
  F = first (norm (coefficients N d)) N wanted

  abbrev number : ℕ
  number = refusal (limits N d wanted)

  pub taken : number ≡ 0 → least_advance N d wanted ≡ record { refusal = 0; na = F }
  unfolding least_advance
  taken e = rw (eq-eqb number 0 e)

  pub turned : (number ≡ 0 → ⊥) → least_advance N d wanted ≡ record { refusal = number; na = 0 }
  unfolding least_advance
  turned f = rw (ne_eqb number 0 f)

  -- refused by 1 or 3
  pub early : (refusal (Thiran.limits N d) ≡ 0 → ⊥) → number ≡ refusal (Thiran.limits N d)
  early f = early_by (met (order N)) (met (delay N d)) (met (enough F)) f

  -- and by neither
  late : refusal (Thiran.limits N d) ≡ 0 → number ≡ last (met (enough F))
  late e = late_by (met (order N)) (met (delay N d)) (met (enough F)) e

  pub none : refusal (Thiran.limits N d) ≡ 0 → 64 < F → number ≡ 32
  none e h = late e ∙ rw (le-ltb F 0 (omega arith), lt-ltb 64 F h)

  pub some : refusal (Thiran.limits N d) ≡ 0 → F ≤ 64 → number ≡ 0
  some e h = late e ∙ rw (le-ltb F 0 (omega arith), le-ltb 64 F h)

  -- what comes back with an order and a delay that are taken
  pub answered : refusal (Thiran.limits N d) ≡ 0 → advance_of (found F) ≡ least_advance N d wanted
  answered e = go (dec_lt 64 F)
    where
      go : Dec (64 < F) → advance_of (found F) ≡ least_advance N d wanted
      go (yes h) =
          let i = none e h in
          rw (lt-leb F 64 h) (sym (turned (λ z. absurd (omega (arith, i, z))) ∙ rw i))
      go (no h) =
          let l : F ≤ 64 = omega arith in
          rw (le-leb F 64 l) (sym (taken (some e l)))
