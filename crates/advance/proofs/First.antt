-- `first` is the advance that is enough where none before it is, and no other; the figure over a loop's round.
use mathlib.Core.Path.{◌≡◌, refl}
use mathlib.Core.List.{List, [], ◌∷◌}
use Prim.Native.Nat.{ℕ, zero, suc, ◌+◌, ◌*◌, ◌/◌, ◌≤◌, ◌<◌}
use native.Mathlib.Omega.{arith}
use native.Mathlib.Decide.{dec_lt}
use native.Mathlib.Nat.{div-eq_of_lt-le, mul-div_cancel}
use native.Mathlib.Numerals.{add-one}
use borrow.Author.Tests.{le-leb, lt-leb}
use lib.IntN.{ℤ, pos, nat_abs}
use lib.ListN.{length, get_or}
use Rattle.thiran.specs.Coefficients.{norm}
use Rattle.allpass.specs.Bounds.{share, distance, own_figure}
use Rattle.advance.specs.Least.{seek, first}

-- ---- a round
pub distance_next : (n k b : ℕ) → b ≡ distance n k → share n b ≡ distance n (k + 1)
unfolding distance
distance_next n k b e = rw (add-one k, e)

pub figure-now : (n k b : ℕ) → b ≡ distance n k → b + share n b ≡ own_figure n k
unfolding own_figure distance
figure-now n k b e = rw e

module _ (n N wanted : ℕ) where
  abbrev pub Before : ℕ → Type 0
  Before Na = (a : ℕ) → a < Na → wanted < own_figure n (a / N)

  pub before-next : (k : ℕ) → Before (k * N) → wanted < own_figure n k → Before ((k + 1) * N)
  before-next k p l a h = go (dec_lt a (k * N))
    where
      go : Dec (a < k * N) → wanted < own_figure n (a / N)
      go (yes i) = p a i
      go (no i) = rw (div-eq_of_lt-le {k = k} N {m = a} (omega arith) h) l

  -- ---- what `seek` finds
  pub record Stands (end Na : ℕ) : Type 0 where
    pub most : Na ≤ end
    pub does : Na < end → own_figure n (Na / N) ≤ wanted
    pub before : Before Na

  seek-stands : (many a end : ℕ) → a + many ≡ end → Before a → Stands end (seek n N wanted many a)
  seek-stands zero a end e b =
      record { most = omega arith; does = λ i. absurd (omega arith); before = b }
  seek-stands (suc many) a end e b =
      go (seek-stands many (suc a) end (omega arith)) (dec_lt wanted (own_figure n (a / N)))
    where
      also : wanted < own_figure n (a / N) → (i : ℕ) → i < suc a → Dec (i < a) → wanted < own_figure n (i / N)
      also l i h (yes k) = b i k
      also l i h (no k) = let e : i ≡ a = omega arith in rw e l

      go : (Before (suc a) → Stands end (seek n N wanted many (suc a))) → Dec (wanted < own_figure n (a / N))
          → Stands end (seek n N wanted (suc many) a)
      go more (yes l) =
          rw (lt-leb (own_figure n (a / N)) wanted l) (more (λ i h. also l i h (dec_lt i a)))
      go more (no l) =
          rw (le-leb (own_figure n (a / N)) wanted (omega arith))
          (record { most = omega arith; does = λ i. omega arith; before = b })

  pub first-stands : Stands 65 (first n N wanted)
  unfolding first
  first-stands = seek-stands 65 0 65 refl (λ a h. absurd (omega arith))

  -- there is but one
  stands_once : (P Q : ℕ) → Stands 65 P → Stands 65 Q → P ≤ Q
  stands_once P Q p q = go (dec_lt Q P)
    where
      go : Dec (Q < P) → P ≤ Q
      go (yes i) = absurd (omega (arith, p.before Q i, q.does (omega (arith, p.most))))
      go (no i) = omega arith

  pub first-is : (Na : ℕ) → Na ≤ 65 → (Na ≤ 64 → own_figure n (Na / N) ≤ wanted) → Before Na
      → Na ≡ first n N wanted
  first-is Na m d b =
      let s : Stands 65 Na = record { most = m; does = λ i. d (omega arith); before = b } in
      omega (
        arith,
        stands_once Na (first n N wanted) s first-stands,
        stands_once (first n N wanted) Na first-stands s,
      )

  pub first_found : (k : ℕ) → 0 < N → Before (k * N) → own_figure n k ≤ wanted → k * N ≤ 64
      → k * N ≡ first n N wanted
  first_found k positive b l h = first-is (k * N) (omega arith) (λ i. rw (mul-div_cancel k positive) l) b

-- ---- what three coefficients, 0 past the order, add up to
pub three : (A : List ℤ) → length A ≤ 3
    → nat_abs (get_or A 0 (pos 0)) + nat_abs (get_or A 1 (pos 0)) + nat_abs (get_or A 2 (pos 0)) ≡ norm A
three [] h = refl
three (x ∷ []) h = omega arith
three (x ∷ y ∷ []) h = omega arith
three (x ∷ y ∷ z ∷ []) h = omega arith
three (x ∷ y ∷ z ∷ u ∷ A) h = absurd (omega arith)
