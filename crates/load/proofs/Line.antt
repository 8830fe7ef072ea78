-- The numbers of a stored line, one after the other.
use mathlib.Core.Path.{◌≡◌, refl, ap, ◌∙◌}
use mathlib.Core.Bool.{Bool, false}
use mathlib.Core.List.{List}
use Prim.Native.Nat.{ℕ, zero, suc, ◌+◌, ◌-◌, ◌*◌, ◌^◌, ◌≤◌, ◌<◌}
use native.Mathlib.Omega.{arith}
use native.Mathlib.Decide.{dec_lt}
use lib.IntN.{ℤ, pos, negsuc, nat_abs}
use lib.ListN.{length, take, drop, get_or, set, replicate}
use lib.Seq.{get_or-set_same, get_or-set_other}
use borrow.Author.Tests.{lt-ltb, le-ltb}
use mir.Syntax.{w32}
use mir.Val.{SFits}
use Rattle.integer.proofs.View.{vfit}
use Rattle.octets.specs.Octets.{number}
use Rattle.form.specs.Parts.{value}
use Rattle.load.specs.Says.{Says}
use Rattle.load.specs.Words.{read}
use Rattle.load.proofs.Said.{says_no}
use Rattle.load.proofs.Found.{is-there}

-- ---- the first n of them are samples
abbrev pub Until : List ℕ → ℕ → ℕ → Type 0
Until s at n = (k : ℕ) → k < n → nat_abs (value (read s (at + 4 * k) 1 0)) ≤ 8388607

pub too_loud : (s : List ℕ) (at i n : ℕ) → n ≡ nat_abs (value (read s (at + 4 * i) 1 0)) → 8388607 < n
    → Says false (Until s at (i + 1))
too_loud s at i n e h = says_no (λ f. let g = f i (omega arith) in omega arith)

pub one_more : (s : List ℕ) (at i n : ℕ) (r : Bool) → n ≡ nat_abs (value (read s (at + 4 * i) 1 0)) → n ≤ 8388607
    → Says r (Until s at i) → Says r (Until s at (i + 1))
one_more s at i n r e h f = record {
  yes = λ t k l. next (f.yes t) k l (dec_lt k i);
  no = λ g. f.no (λ k l. g k (omega arith));
}
  where
    next : Until s at i → (k : ℕ) → k < i + 1 → Dec (k < i) → nat_abs (value (read s (at + 4 * k) 1 0)) ≤ 8388607
    next u k l (yes q) = u k q
    next u k l (no q) = let z : k ≡ i = omega arith in rw z (omega arith)

-- the word that is read at a place is the number there
pub word_read : (s : List ℕ) (at w : ℕ) → w ≡ number (take 4 (drop at s)) → value w ≡ value (read s at 1 0)
word_read s at w e = ap value (e ∙ is-there s at 1 0 refl)

-- ---- the first n of them are laid
abbrev pub Laid : List ℕ → ℕ → List ℤ → ℕ → Type 0
Laid s at l n = (k : ℕ) → k < n → get_or l k (pos 0) ≡ value (read s (at + 4 * k) 1 0)

pub next-laid : (s : List ℕ) (at : ℕ) (l : List ℤ) (i : ℕ) (x : ℤ) → i < length l
    → x ≡ value (read s (at + 4 * i) 1 0) → Laid s at l i → Laid s at (set l i x) (i + 1)
next-laid s at l i x h e f k g = go (dec_lt k i)
  where
    go : Dec (k < i) → get_or (set l i x) k (pos 0) ≡ value (read s (at + 4 * k) 1 0)
    go (yes q) = get_or-set_other l i k x (pos 0) (λ z. omega (arith, z)) ∙ f k q
    go (no q) = let z : k ≡ i = omega arith in rw z (get_or-set_same l i x (pos 0) h ∙ e)

-- ---- a number of 32 bits
pub value-fits : (w : ℕ) → w < 2 ^ 32 → SFits w32 (value w)
value-fits w h = go (dec_lt w 2147483648)
  where
    go : Dec (w < 2147483648) → SFits w32 (value w)
    go (yes l) = rw (lt-ltb w 2147483648 l) (vfit w32 (pos w) (omega arith))
    go (no l) =
        rw (le-ltb w 2147483648 (omega arith)) (vfit w32 (negsuc (4294967296 - suc w)) (omega arith))

-- ---- a line of zeros
pub zero-at : (k : ℕ) → get_or (replicate 2112 (pos 0)) k (pos 0) ≡ pos 0
zero-at k = zeros 2112 k
  where
    zeros : (n i : ℕ) → get_or (replicate n (pos 0)) i (pos 0) ≡ pos 0
    zeros zero i = refl
    zeros (suc n) zero = refl
    zeros (suc n) (suc i) = zeros n i
