-- A mix is the clipped sum of what the six strings put out: `Sums`.
use mathlib.Core.Path.{◌≡◌, refl, sym, ap, ◌∙◌}
use mathlib.Core.List.{List, [], ◌∷◌, ◌++◌}
use Prim.Native.Nat.{ℕ, zero, suc, ◌<◌}
use native.Mathlib.Omega.{arith}
use lib.IntN.{ℤ, pos}
use lib.ListN.{length, get_or}
use borrow.Author.Tests.{eq-eqb}
use Rattle.integer.specs.Rounding.{clip}
use Rattle.refusal.specs.Limits.{refusal}
use Rattle.rule.specs.Calls as C
use Rattle.rule.specs.Calls.{block}
use Rattle.rule.specs.State.{State, step, sounds, block_after, block_out, put}
use Rattle.instrument.specs.Strings.{mix, Strings, number, mix_limits, total, mixed, out}
use Rattle.instrument.specs.Mix.{put_in, Sums}
use Rattle.instrument.proofs.Returns.{returns}

-- ---- sums
pub total-same : (f g : ℕ → ℤ) (n : ℕ) → ((k : ℕ) → f k ≡ g k) → total f n ≡ total g n
total-same f g zero h = refl
total-same f g (suc n) h = rw (total-same f g n h, h n)

-- ---- a block
pub put-block : (v : State) (xs : List ℤ) (n : ℕ) → refusal (mix_limits xs n) ≡ 0
    → put v (block xs n) ≡ block_out v xs
unfolding put C.number C.done
put-block v xs n e = rw (eq-eqb (refusal (mix_limits xs n)) 0 e)

mixed-at : (xs : List ℤ) (s : Strings) (i : ℕ) → i < length xs
    → get_or (mixed s xs) i (pos 0) ≡ clip (total (λ k. get_or (block_out (s k) xs) i (pos 0)) 6)
mixed-at [] s i h = absurd (omega arith)
mixed-at (x ∷ xs) s zero h = refl
mixed-at (x ∷ xs) s (suc i) h = mixed-at xs (λ k. step (s k) x) i (omega arith)

-- part by part
pub mixed-append : (xs ys : List ℤ) (s : Strings)
    → mixed s (xs ++ ys) ≡ mixed s xs ++ mixed (λ k. block_after (s k) xs) ys
mixed-append [] ys s = refl
mixed-append (x ∷ xs) ys s =
    ap (λ (l : List ℤ). clip (total (λ k. sounds (s k)) 6) ∷ l) (mixed-append xs ys (λ k. step (s k) x))

-- an accepted mix: 9 does not hold
pub as_long : (s : Strings) (xs : List ℤ) (n : ℕ) → number s (mix xs n) ≡ 0 → length xs ≡ n
as_long s xs n e = ((returns.mixing s xs n).accepted.0 e).0

length-mixed : (xs : List ℤ) (s : Strings) → length (mixed s xs) ≡ length xs
length-mixed [] s = refl
length-mixed (x ∷ xs) s = ap suc (length-mixed xs (λ k. step (s k) x))

pub out-mix : (s : Strings) (xs : List ℤ) (n : ℕ) → number s (mix xs n) ≡ 0 → out s (mix xs n) ≡ mixed s xs
unfolding out number
out-mix s xs n e = rw (eq-eqb (refusal (mix_limits xs n)) 0 e)

sample-mix : (s : Strings) (xs : List ℤ) (n i : ℕ) → i < length xs → number s (mix xs n) ≡ 0
    → get_or (out s (mix xs n)) i (pos 0) ≡ clip (total (put_in s xs n i) 6)
unfolding number
sample-mix s xs n i h e =
    ap (λ (ys : List ℤ). get_or ys i (pos 0)) (out-mix s xs n e)
    ∙ mixed-at xs s i h
    ∙ ap clip
    (total-same (λ k. get_or (block_out (s k) xs) i (pos 0)) (put_in s xs n i) 6
    (λ k. ap (λ (ys : List ℤ). get_or ys i (pos 0)) (sym (put-block (s k) xs n e))))

pub sums : Sums
sums = record {
  many = λ s xs n e. ap length (out-mix s xs n e) ∙ length-mixed xs s ∙ as_long s xs n e;
  sample = λ s xs n i h e. sample-mix s xs n i (rw (as_long s xs n e) h) e;
}
