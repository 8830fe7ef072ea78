-- What `effective_length` returns, in ≤, document 01's numbers and its lines: of `effective_length`, which its
-- contract says it returns. Statements alone: proofs/Returns.antt proves `Returns`. Assumes nothing.
use Rattle.std.specs.Prelude.{◌≡◌, ◌↔◌, List, [], ◌∷◌, ℕ, zero, suc, ◌-◌, ◌≤◌, ◌<◌, ℤ, pos, nat_abs, ◌+ℤ◌, ◌-ℤ◌, ◌*ℤ◌, length, get_or}
use Rattle.integer.specs.Cut.{R}
use Rattle.refusal.specs.Ranges.{InRange, OrderDelay}
use Rattle.thiran.specs.Answers.{design}
use Rattle.allpass.specs.Length.{effective_length}

-- the value at index i, from 0, and 0 past the last
abbrev pub value : List ℤ → ℕ → ℤ
value ws i = get_or ws i (pos 0)

-- n is "the index of the last of the .. values above the threshold, plus one, or 0 where none is" (L4): the
-- value at n less one exceeds t in magnitude, and none after it does; n is 0 if and only if none does
pub record Last (t : ℕ) (ws : List ℤ) (n : ℕ) : Type 0 where
  pub exceeds : 0 < n → t < nat_abs (value ws (n - 1))
  pub after : (i : ℕ) → n ≤ i → nat_abs (value ws i) ≤ t
  pub none : n ≡ 0 ↔ ((i : ℕ) → nat_abs (value ws i) ≤ t)

-- "w = f − R(A1·v1 + A2·v2)" with f = 0, where "A3·v3 joins the sum inside R" (L5), "Then v2 becomes v1 and
-- v1 becomes w": n values w of the eliminator while it is fed zeros, from the state v1, v2, v3; the coefficients
-- past the order are 0
unfoldable pub fades : ℤ → ℤ → ℤ → ℤ → ℤ → ℤ → ℕ → List ℤ
fades a1 a2 a3 v1 v2 v3 zero = []
fades a1 a2 a3 v1 v2 v3 (suc n) =
    let w = pos 0 -ℤ R (a1 *ℤ v1 +ℤ a2 *ℤ v2 +ℤ a3 *ℤ v3) in
    w ∷ fades a1 a2 a3 w v1 v2 n

-- "feed 1,000,000 and then 63 zeros to a resting eliminator": at rest w is f, since R(0) is 0
unfoldable pub values : ℤ → ℤ → ℤ → List ℤ
values a1 a2 a3 = pos 1000000 ∷ fades a1 a2 a3 (pos 1000000) (pos 0) (pos 0) 63

-- "Effective length: 1, 3; it returns 0"; else the last of "the 64 values w" that exceeds the threshold
pub record Returns : Type 0 where
  pub number : (N d t : ℕ) → OrderDelay N d (effective_length N d t).refusal
  pub refused : (N d t : ℕ) → ((effective_length N d t).refusal ≡ 0 → ⊥) → (effective_length N d t).length ≡ 0
  pub many : (a1 a2 a3 : ℤ) → length (values a1 a2 a3) ≡ 64
  pub last : (N d t : ℕ) → InRange N d
      → Last t (values (design N d).a1 (design N d).a2 (design N d).a3) (effective_length N d t).length
