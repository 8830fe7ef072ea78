-- `record::count` meets its contract: one test, computed for each number below 16.
use mathlib.Core.Path.{◌≡◌, refl}
use mathlib.Core.Bool.{Bool, true, ◌&&◌, and-eq-true_iff}
use Prim.Native.Nat.{ℕ, zero, suc, ◌+◌, ◌*◌, ◌/◌, ◌%◌, ◌^◌, ◌<◌}
use native.Mathlib.Nat.{le_of_suc-le-suc, not-suc-le-zero}
use lib.Dec.{eqb}
use borrow.Author.Tests.{eqb-true}
use Rattle.record.proofs.count.Goals as goal

-- the test f passes at each number below n
abbrev every : ℕ → (ℕ → Bool) → Bool
every zero f = true
every (suc n) f = f 0 && every n (λ (k : ℕ). f (suc k))

at : (n : ℕ) (f : ℕ → Bool) → every n f ≡ true → (k : ℕ) → k < n → f k ≡ true
at zero f e k h = absurd (not-suc-le-zero h)
at (suc n) f e zero h = ((and-eq-true_iff (f 0) (every n (λ (k : ℕ). f (suc k)))).0 e).0
at (suc n) f e (suc k) h =
    at n (λ (j : ℕ). f (suc j)) ((and-eq-true_iff (f 0) (every n (λ (j : ℕ). f (suc j)))).0 e).1 k
    (le_of_suc-le-suc h)

abbrev packed : ℕ → ℕ
packed n = 0x4332322132212110 / 2 ^ (4 * n) % 16

abbrev summed : ℕ → ℕ
summed n = n % 2 + n / 2 % 2 + n / 4 % 2 + n / 8 % 2

counted : (n : ℕ) → n < 16 → packed n ≡ summed n
counted n h = eqb-true (packed n) (summed n) (at 16 (λ (k : ℕ). eqb (packed k) (summed k)) refl n h)

pub returns : goal.returns
returns c = counted c.args.n c.requires
