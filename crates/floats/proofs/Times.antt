-- Tests of a float against whole numbers, numbers nearest to its multiples, and delays that no length fits.
use Rattle.std.proofs.Common.{◌≡◌, ℕ, zero, suc, ◌+◌, ◌*◌, ◌/◌, ◌<◌, ◌≤◌, Bool, true, false, ◌||◌, T, ltb, [], ◌∷◌, ℤ, pos, negsuc, ◌*ℤ◌, neg_ℤ, refl, mul-le-mul_right, div-lt_iff_lt-mul, le-div_iff_mul-le, arith, lt-ltb}
use lib.Ieee.{Float}
use Rattle.integer.specs.Parts.{up}
use Rattle.integer.specs.Rounding.{floor, nearest, Nearest}
use Rattle.integer.proofs.View.{Zs, negv, +v, onev}
use Rattle.integer.proofs.Rounding.{nearest-is}
use Rattle.refusal.specs.Limits.{outside, refusal}
use Rattle.pitch.specs.Pitch.{split_l, note_length, answer}
use Rattle.pitch.proofs.Theorems.{splitv}
use Rattle.floats.specs.Worth.{size, unit, above}
use Rattle.floats.proofs.Laws.{signed_mul}
use Rattle.floats.proofs.Whole.{unit-pos}
use Rattle.floats.proofs.Parts.{mul_neg}

-- ---- the nearest to x × k, where x is not below zero
abbrev pub times : Float → ℕ → ℕ
times x k = (2 * (size x * k) + unit x) / (2 * unit x)

pub nearest_times : (x : Float) (k : ℕ) → above x ≡ pos (size x)
    → nearest (above x *ℤ pos k) (unit x) ≡ pos (times x k)
unfolding nearest floor
nearest_times x k h = rw h refl

pub times_under : (x : Float) (k B : ℕ) → size x ≤ B * unit x → times x k ≤ B * k
times_under x k B h =
    let g : times x k < B * k + 1
    = (div-lt_iff_lt-mul {k = 2 * unit x} {x = 2 * (size x * k) + unit x} {y = B * k + 1}
    (omega (arith, unit-pos x))).1
    (omega (arith, mul-le-mul_right k h, unit-pos x)) in
    omega arith

pub times_over : (x : Float) (k B : ℕ) → B * unit x < size x → B * k ≤ times x k
times_over x k B h =
    (le-div_iff_mul-le {k = 2 * unit x} {x = B * k} {y = 2 * (size x * k) + unit x}
    (omega (arith, unit-pos x))).1
    (omega (arith, mul-le-mul_right k h))

-- of a number below zero it is not above zero
pub nearest_neg : (a q : ℕ) → 0 < q → up (nearest (neg_ℤ (pos a)) q) ≡ 0
nearest_neg a q h = go (nearest (neg_ℤ (pos a)) q) (nearest-is (neg_ℤ (pos a)) q h)
  where
    go : (A : ℤ) → Nearest (neg_ℤ (pos a)) q A → up A ≡ 0
    go (pos zero) n = refl
    go (pos (suc A)) n =
        let l = rw (mul_neg 2 a) at n.low in
        absurd (omega (Zs, +v (neg_ℤ (pos (2 * a))) (pos q), negv (pos (2 * a))))
    go (negsuc A) n = refl

pub times_neg : (x : Float) (k : ℕ) → above x ≡ neg_ℤ (pos (size x))
    → up (nearest (above x *ℤ pos k) (unit x)) ≡ 0
times_neg x k h = rw (h, signed_mul true (size x) k) (nearest_neg (size x * k) (unit x) (unit-pos x))

-- ---- delays that no length fits
pub refused_13 : (N : ℕ) (T : ℤ) → outside (up (split_l N T)) 1 2048 ≡ true
    → record { refusal = 13; length = 0; delay = 0 } ≡ answer N T (refusal (note_length (split_l N T) ∷ []))
refused_13 N T e = rw e

pub too_short : (N : ℕ) (T : ℤ) → 1 ≤ N → up T ≡ 0 → outside (up (split_l N T)) 1 2048 ≡ true
too_short N T h e =
    let z : up (split_l N T) ≡ 0 = omega (arith, splitv N T h, onev (split_l N T)) in
    rw z

pub too_long : (N t : ℕ) → 1 ≤ N → N ≤ 3 → 4095 * 4096 ≤ t → outside (up (split_l N (pos t))) 1 2048 ≡ true
too_long N t h g l =
    let L = split_l N (pos t) in
    rw (lt-ltb 2048 (up L) (omega (arith, splitv N (pos t) h, onev L))) (or-true (ltb (up L) 1))
  where
    or-true : (b : Bool) → b || true ≡ true
    or-true true = refl
    or-true false = refl
