-- Inward: an f32 times a power of two is exact as an f64.
use Rattle.std.proofs.Common.{◌≡◌, ℕ, zero, suc, ◌+◌, ◌-◌, ◌*◌, ◌%◌, ◌^◌, ◌<◌, ◌≤◌, Bool, true, false, ◌&&◌, T, eqb, ltb, leb, ℤ, pos, negsuc, ◌*ℤ◌, sym, refl, ap, ◌∙◌, lt_of_lt_of_le, lt_irrefl, mul_assoc, mul-pos, one-mul, zero-mul, mul-one, arith, lit<, lit≤, ltb→lt, leb→le, pow_pos, pow_mono, pow-add, shl_lt}
use native.Mathlib.Decide.{dec_lt}
use lib.Pow.{pow-lt}
use lib.Ieee.{Float, nan, inf, fin, binary32, binary64, up, down, unlike, round, mul}
use lib.Ieee.{fits}
use lib.Ieee.Fits.{down_pos, and_l, and_r}
use lib.Ieee.Exact.{HasValue, round_exact}
use Rattle.floats.specs.Worth.{finite, signed}
use Rattle.floats.specs.Steps.{Scaled}

-- ---- signs
pub same_sign : (t : Bool) → unlike t false ≡ t
same_sign true = refl
same_sign false = refl

pub signed_mul : (s : Bool) (a b : ℕ) → signed s a *ℤ pos b ≡ signed s (a * b)
signed_mul false a b = refl
signed_mul true zero b = rw zero-mul
signed_mul true (suc a) b = refl

-- ---- inward: an f32 times 2^k, for small k, is exact as an f64
-- a float with the value of x × 2^k
scaled_of_lem : (x : Float) (t : Bool) (m : ℕ) (e : ℤ) (k : ℕ) → HasValue x t (m * up e * 2 ^ k) (down e)
    → Scaled (fin t m e) k x
scaled_of_lem nan t m e k v = absurd v
scaled_of_lem (inf u) t m e k v = absurd v
scaled_of_lem (fin u n d) t m e k v = record {
  is_finite = tt;
  sizes = v.1;
  equal =
      signed_mul u (n * up d) (down e)
      ∙ ap (signed u) v.1
      ∙ ap (λ (b : Bool). signed b (m * up e * 2 ^ k * down d)) v.0
      ∙ sym (signed_mul t (m * up e * 2 ^ k) (down d))
      ∙ ap (λ (z : ℤ). z *ℤ pos (down d)) (sym (signed_mul t (m * up e) (2 ^ k)));
}

-- the products of the two kinds of exponent, with every power a variable
reach : (m A K L : ℕ) → m * A * (1 * K) * L ≡ m * (A * (K * L)) * (1 * 1)
reach m A K L = simp (one-mul, mul-one, mul_assoc)

reach_down : (m K P B L : ℕ) → P * B ≡ L → m * 1 * (1 * K) * L ≡ m * (K * P) * (B * 1)
reach_down m K P B L h = rw (← h) (simp (one-mul, mul-one, mul_assoc))

low_exponent : (b : ℕ) → 2 ^ b ≤ 2 ^ 149 → b ≤ 149
low_exponent b h = go (dec_lt 149 b)
  where
    go : Dec (149 < b) → b ≤ 149
    go (yes g) = absurd (lt_irrefl (2 ^ 149) (lt_of_lt_of_le (pow-lt g) h))
    go (no g) = omega arith

-- m < 2^24 in units of 2^e, where that is an f32
exact-up : (t : Bool) (m a k : ℕ) → m < 2 ^ 24 → m * 2 ^ a < 2 ^ 128 → k ≤ 64
    → HasValue (round binary64 t (m * 2 ^ a * (1 * 2 ^ k)) (1 * 1)) t (m * 2 ^ a * (1 * 2 ^ k)) (1 * 1)
exact-up t m a k small under h =
    let j = a + (k + 1074) in
    let p : 2 ^ j ≡ 2 ^ a * (2 ^ k * 2 ^ 1074)
    = pow-add 2 a (k + 1074) ∙ ap (λ (n : ℕ). 2 ^ a * n) (pow-add 2 k 1074) in
    let q : m * 2 ^ j ≡ m * 2 ^ a * 2 ^ (k + 1074)
    = ap (λ (n : ℕ). m * n) (pow-add 2 a (k + 1074)) ∙ sym (mul_assoc m (2 ^ a) (2 ^ (k + 1074))) in
    let r : 128 + (k + 1074) ≤ 2098 = omega arith in
    round_exact binary64 t (m * 2 ^ a * (1 * 2 ^ k)) (1 * 1) m j (lit< tt) (lt_of_lt_of_le small (lit≤ tt))
    (rw q (lt_of_lt_of_le (shl_lt 128 (k + 1074) under) (pow_mono r)))
    (reach m (2 ^ a) (2 ^ k) (2 ^ 1074) ∙ ap (λ (n : ℕ). m * n * (1 * 1)) (sym p))

exact_down : (t : Bool) (m b k : ℕ) → m < 2 ^ 24 → b ≤ 149 → k ≤ 64
    → HasValue (round binary64 t (m * 1 * (1 * 2 ^ k)) (2 ^ b * 1)) t (m * 1 * (1 * 2 ^ k)) (2 ^ b * 1)
exact_down t m b k small low h =
    let c = 1074 - b in
    let back : c + b ≡ 1074 = omega arith in
    let whole : 2 ^ c * 2 ^ b ≡ 2 ^ 1074 = sym (pow-add 2 c b) ∙ ap (λ (n : ℕ). 2 ^ n) back in
    let r : 24 + (k + c) ≤ 2098 = omega arith in
    round_exact binary64 t (m * 1 * (1 * 2 ^ k)) (2 ^ b * 1) m (k + c)
    (mul-pos (pow_pos b) (lit< tt)) (lt_of_lt_of_le small (lit≤ tt))
    (lt_of_lt_of_le (shl_lt 24 (k + c) small) (pow_mono r))
    (reach_down m (2 ^ k) (2 ^ c) (2 ^ b) (2 ^ 1074) whole
    ∙ ap (λ (n : ℕ). m * n * (2 ^ b * 1)) (sym (pow-add 2 k c)))

exact-zero : (t : Bool) (u K d : ℕ) → 0 < d → HasValue (round binary64 t (0 * u * K) d) t (0 * u * K) d
exact-zero t u K d h = round_exact binary64 t (0 * u * K) d 0 0 h (lit< tt) (lit< tt) (simp (zero-mul))

-- what it takes to fit an f32
fits-parts : (s : Bool) (m : ℕ) (e : ℤ) → T (fits binary32 (fin s (suc m) e))
    → (suc m < 2 ^ 24) × (down e ≤ 2 ^ 149) × (suc m * up e < 2 ^ 128 * down e)
unfolding fits
fits-parts s m e t =
    let a : Bool = eqb (suc m % 2) 1 in
    let b : Bool = ltb (suc m) (2 ^ 24) in
    let c : Bool = leb (down e) (2 ^ 149) in
    let d : Bool = ltb (suc m * up e) (2 ^ 128 * down e) in
    let abc : T (a && b && c) = and_l (a && b && c) d t in
    let ab : T (a && b) = and_l (a && b) c abc in (
      ltb→lt (suc m) (2 ^ 24) (and_r a b ab),
      leb→le (down e) (2 ^ 149) (and_r (a && b) c abc),
      ltb→lt (suc m * up e) (2 ^ 128 * down e) (and_r (a && b && c) d t),
    )

-- the product, by its parts
tidy : (x : Float) (s t : Bool) (a b c d : ℕ) → s ≡ t → a ≡ c → b ≡ d → HasValue x s a b → HasValue x t c d
tidy x s t a b c d p q r v = rw (← p, ← q, ← r) v

value-mul : (s : Bool) (m : ℕ) (e : ℤ) (k : ℕ) → T (fits binary32 (fin s m e)) → k ≤ 64
    → HasValue (mul binary64 (fin s m e) (fin false 1 (pos k))) s (m * up e * 2 ^ k) (down e)
unfolding mul
value-mul s zero e k f h =
    let x = round binary64 (unlike s false) (0 * up e * (1 * 2 ^ k)) (down e * 1) in
    tidy x (unlike s false) s (0 * up e * (1 * 2 ^ k)) (down e * 1) (0 * up e * 2 ^ k) (down e)
    (same_sign s) (simp one-mul) (mul-one (down e))
    (exact-zero (unlike s false) (up e) (1 * 2 ^ k) (down e * 1) (omega (arith, down_pos e)))
value-mul s (suc m) (pos a) k f h =
    let p = fits-parts s m (pos a) f in
    let x = round binary64 (unlike s false) (suc m * 2 ^ a * (1 * 2 ^ k)) (1 * 1) in
    tidy x (unlike s false) s (suc m * 2 ^ a * (1 * 2 ^ k)) 1 (suc m * 2 ^ a * 2 ^ k) 1
    (same_sign s) (simp one-mul) refl
    (exact-up (unlike s false) (suc m) a k p.0 p.2 h)
value-mul s (suc m) (negsuc a) k f h =
    let p = fits-parts s m (negsuc a) f in
    let x = round binary64 (unlike s false) (suc m * 1 * (1 * 2 ^ k)) (2 ^ suc a * 1) in
    tidy x (unlike s false) s (suc m * 1 * (1 * 2 ^ k)) (2 ^ suc a * 1) (suc m * 1 * 2 ^ k) (2 ^ suc a)
    (same_sign s) (simp one-mul) (mul-one (2 ^ suc a))
    (exact_down (unlike s false) (suc m) (suc a) k p.0 (low_exponent (suc a) p.1) h)

-- an f32 times 2^k, as an f64
pub scaled_up : (x : Float) (k : ℕ) → T (fits binary32 x) → T (finite x) → k ≤ 64
    → Scaled x k (mul binary64 x (fin false 1 (pos k)))
scaled_up nan k f g h = absurd g
scaled_up (inf s) k f g h = absurd g
scaled_up (fin s m e) k f g h =
    scaled_of_lem (mul binary64 (fin s m e) (fin false 1 (pos k))) s m e k (value-mul s m e k f h)
