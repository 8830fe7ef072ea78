-- Laws of sums: how long and how loud they are, one string more, and their clip.
use mathlib.Core.Path.{◌≡◌, refl, ap, ap₂}
use mathlib.Core.List.{List, [], ◌∷◌, map}
use Prim.Native.Nat.{ℕ, zero, suc, ◌+◌, ◌*◌, ◌≤◌, ◌<◌}
use native.Mathlib.Omega.{arith}
use native.Mathlib.Numerals.{add-one}
use lib.IntN.{ℤ, pos, nat_abs, ◌+ℤ◌}
use lib.ListN.{length, get_or}
use Rattle.integer.specs.Rounding.{M, clip}
use mir.Syntax.{w32}
use mir.Val.{SFits, to_z, of_z}
use mir.Facts.{to_z-of_z}
use Rattle.integer.proofs.View.{Zs, +v, abs_fits}
use Rattle.integer.proofs.Ring.{abs-+}
use Rattle.samples.specs.Samples.{loudest}
use Rattle.allpass.proofs.Bounds.{out_within}
use Rattle.rule.specs.Voice.{A, output}
use Rattle.rule.specs.State.{State, back, step, sounds, block_out}
use Rattle.instrument.specs.Strings.{Strings, total, mixed}
use Rattle.mix.specs.Sums.{plus, sums}

-- ---- element by element
pub length-plus : (a b : List ℤ) → length (plus a b) ≡ length a
length-plus [] b = refl
length-plus (x ∷ a) [] = refl
length-plus (x ∷ a) (y ∷ b) = ap suc (length-plus a b)

pub plus-at : (a b : List ℤ) (i : ℕ) → i < length a → i < length b
    → get_or a i (pos 0) +ℤ get_or b i (pos 0) ≡ get_or (plus a b) i (pos 0)
plus-at [] b i h k = absurd (omega arith)
plus-at (x ∷ a) [] i h k = absurd (omega arith)
plus-at (x ∷ a) (y ∷ b) zero h k = refl
plus-at (x ∷ a) (y ∷ b) (suc i) h k = plus-at a b i (omega arith) (omega arith)

pub clip-at : (a : List ℤ) (i : ℕ) → i < length a → clip (get_or a i (pos 0)) ≡ get_or (map clip a) i (pos 0)
clip-at [] i h = absurd (omega arith)
clip-at (x ∷ a) zero h = refl
clip-at (x ∷ a) (suc i) h = clip-at a i (omega arith)

-- a sum of five samples, which is t, and one sample more: they fit 32 bits
module _ {a t : ℤ} (b : ℤ) (e : a ≡ t) (h : nat_abs t ≤ 5 * M) (k : nat_abs b ≤ M) where
  first : to_z w32 (of_z w32 a) ≡ t
  first = rw e (to_z-of_z (abs_fits w32 t (omega (arith, h))))

  more : to_z w32 (of_z w32 b) ≡ b
  more = to_z-of_z (abs_fits w32 b (omega (arith, k)))

  fits : SFits w32 (t +ℤ b)
  fits = abs_fits w32 (t +ℤ b) (omega (arith, abs-+ t b, h, k))

  pub sum_fits : SFits w32 (to_z w32 (of_z w32 a) +ℤ to_z w32 (of_z w32 b))
  sum_fits = rw (first, more) fits

  pub sum_read : to_z w32 (of_z w32 (to_z w32 (of_z w32 a) +ℤ to_z w32 (of_z w32 b))) ≡ t +ℤ b
  sum_read = rw (first, more) (to_z-of_z fits)

-- ---- how loud
sounds-within : (v : State) → nat_abs (sounds v) ≤ M
unfolding sounds output
sounds-within v = out_within (A v.voice.tuning) v.voice.state (back v.line v.voice.tuning.L)

pub out-quiet : (v : State) (xs : List ℤ) → loudest (block_out v xs) ≤ M
out-quiet v [] = omega arith
out-quiet v (x ∷ xs) = omega (arith, sounds-within v, out-quiet (step v x) xs)

total-within : (s : Strings) (n : ℕ) → nat_abs (total (λ k. sounds (s k)) n) ≤ n * M
total-within s zero = omega arith
total-within s (suc n) =
    omega (arith, abs-+ (total (λ k. sounds (s k)) n) (sounds (s n)), total-within s n, sounds-within (s n))

pub sums-quiet : (n : ℕ) (s : Strings) (xs : List ℤ) → loudest (sums n s xs) ≤ n * M
sums-quiet n s [] = omega arith
sums-quiet n s (x ∷ xs) = omega (arith, total-within s n, sums-quiet n (λ k. step (s k) x) xs)

-- ---- one string more
pub sums_first : (s : Strings) (xs : List ℤ) → block_out (s 0) xs ≡ sums 1 s xs
sums_first s [] = refl
sums_first s (x ∷ xs) = ap₂ ◌∷◌ (none_before (sounds (s 0))) (sums_first (λ k. step (s k) x) xs)
  where
    none_before : (a : ℤ) → a ≡ pos 0 +ℤ a
    none_before a = omega (Zs, +v (pos 0) a)

pub sums-more : (n : ℕ) (s : Strings) (xs : List ℤ)
    → plus (sums n s xs) (block_out (s n) xs) ≡ sums (n + 1) s xs
sums-more n s xs = rw add-one (go s xs)
  where
    go : (s : Strings) (xs : List ℤ) → plus (sums n s xs) (block_out (s n) xs) ≡ sums (suc n) s xs
    go s [] = refl
    go s (x ∷ xs) = ap (λ (l : List ℤ). total (λ k. sounds (s k)) (suc n) ∷ l) (go (λ k. step (s k) x) xs)

pub length-sums : (n : ℕ) (s : Strings) (xs : List ℤ) → length (sums n s xs) ≡ length xs
length-sums n s [] = refl
length-sums n s (x ∷ xs) = ap suc (length-sums n (λ k. step (s k) x) xs)

-- ---- all six, clipped
pub sums-clipped : (s : Strings) (xs : List ℤ) → map clip (sums 6 s xs) ≡ mixed s xs
sums-clipped s [] = refl
sums-clipped s (x ∷ xs) =
    ap (λ (l : List ℤ). clip (total (λ k. sounds (s k)) 6) ∷ l) (sums-clipped (λ k. step (s k) x) xs)
