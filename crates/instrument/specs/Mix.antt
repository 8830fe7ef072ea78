-- "the clipped sum of the six", and "by at most the sum of their figures": document 02, L11.
-- Statements alone: proofs/Mix.antt proves `Sums` and `MixFigure`.
use Rattle.std.specs.Prelude.{◌≡◌, List, [], ◌∷◌, ◌++◌, ℕ, zero, suc, ◌+◌, ◌-◌, ◌/◌, ◌≤◌, ◌<◌, ℤ, pos, nat_abs, ◌-ℤ◌, length, get_or}
use Rattle.integer.specs.Rounding.{clip}
use Rattle.rule.specs.Calls.{Call, block, Opening}
use Rattle.rule.specs.History.{read, steps, after, new}
use Rattle.rule.specs.History as H
use Rattle.rule.specs.State.{put}
use Rattle.rule.specs.Click.{figure}
use Rattle.rule.specs.Demands.{Rules}
use Rattle.instrument.specs.Strings.{Play, mix, Strings, silent, number, plays, total, out}
use Rattle.instrument.specs.Share.{Share}

-- ---- an accepted mix
abbrev pub put_in : Strings → List ℤ → ℕ → ℕ → ℕ → ℤ
put_in s xs n i k = get_or (put (s k) (block xs n)) i (pos 0)

pub record Sums : Type 0 where
  pub many : (s : Strings) (xs : List ℤ) (n : ℕ) → number s (mix xs n) ≡ 0 → length (out s (mix xs n)) ≡ n
  -- sample i of the mix is the clipped sum of sample i of the blocks of the six
  pub sample : (s : Strings) (xs : List ℤ) (n i : ℕ) → i < n → number s (mix xs n) ≡ 0
      → get_or (out s (mix xs n)) i (pos 0) ≡ clip (total (put_in s xs n i) 6)

-- ---- string k has a share with a change in force at sample i of the mix after the calls ps: steps count, in
-- each string, from its own opening
pub record Retuned (ps : List Play) (xs : List ℤ) (n i k : ℕ) : Type 0 where
  pub o : Opening
  pub cs : List Call
  pub share : Share k ps o cs
  pub pre : List Call
  pub c : Call
  pub post : List Call
  pub rule : Rules (steps (after o cs) + i) (H.fresh o) (cs ++ block xs n ∷ []) pre c post

module _ {ps : List Play} {xs : List ℤ} {n i k : ℕ} (r : Retuned ps xs n i k) where
  -- its own step
  abbrev pub at : ℕ
  at = steps (after r.o r.cs) + i

  abbrev pub line : List ℤ
  line = (after r.o (r.cs ++ block xs n ∷ [])).s

  -- "its new filter's sample from rest"
  abbrev pub from_rest : ℤ
  from_rest = new r.rule.t line at

  -- its figure, at that step
  abbrev pub figure_of : ℕ
  figure_of = figure ((r.rule.a + (at - r.rule.e)) / r.rule.t.N)

  -- all that the new filter read before its second copy began is zero
  abbrev pub Zeros : Type 0
  Zeros = (j : ℕ) → j < r.rule.e - r.rule.a → read line j r.rule.t.L ≡ pos 0

-- "several strings": any of the six that have such a change. A string is not among them, or it is, or it is
-- and its new filter read only zeros
pub data Member (ps : List Play) (xs : List ℤ) (n i k : ℕ) : Type 0 where
  apart : Member ps xs n i k
  retunes : Retuned ps xs n i k → Member ps xs n i k
  zeros : (r : Retuned ps xs n i k) → Zeros r → Member ps xs n i k

-- "the ideal mix, where each of them gives its new filter's sample from rest": each other string its own, y
abbrev pub ideal : {ps : List Play} {xs : List ℤ} {n i k : ℕ} → ℤ → Member ps xs n i k → ℤ
ideal y apart = y
ideal y (retunes r) = from_rest r
ideal y (zeros r z) = from_rest r

-- "It does not differ at all" (document 01) where it read only zeros
abbrev pub adds : {ps : List Play} {xs : List ℤ} {n i k : ℕ} → Member ps xs n i k → ℕ
adds apart = 0
adds (retunes r) = figure_of r
adds (zeros r z) = 0

abbrev pub sum : (ℕ → ℕ) → ℕ → ℕ
sum f zero = 0
sum f (suc n) = sum f n + f n

-- "the mix differs from the ideal mix .. by at most the sum of their figures"
abbrev pub MixFigure : Type 0
MixFigure =
    (ps : List Play) (xs : List ℤ) (n i : ℕ) (K : (k : ℕ) → Member ps xs n i k)
    → i < n → number (plays silent ps) (mix xs n) ≡ 0
    → nat_abs
    (get_or (out (plays silent ps) (mix xs n)) i (pos 0)
    -ℤ clip (total (λ k. ideal (put_in (plays silent ps) xs n i k) (K k)) 6))
    ≤ sum (λ k. adds (K k)) 6
