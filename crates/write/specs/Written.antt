-- What a lent buffer holds after a text was put at a place of it, and the place that is returned.
use Rattle.std.specs.Prelude.{◌≡◌, List, [], ◌∷◌, ℕ, suc, ◌+◌, ◌≤◌, ◌<◌, ℤ, pos, negsuc, length}
use Rattle.std.proofs.Math.Seq.{paste}
use Rattle.io.specs.Digits.{last_digits, IsDigitCount}

-- the bytes t, all of them where they fit, and none where they do not
pub record Wrote (t before : List ℕ) (at : ℕ) (after : List ℕ) (r : ℕ) : Type 0 where
  pub fits :
      at + length t ≤ length before → (r ≡ at + length t) × (after ≡ paste before at t (length t))
  pub full : length before < at + length t → (r ≡ at) × (after ≡ before)

-- a number, in as few decimal digits as it has; one of 64 bits has at most 20
pub record Spelled (n : ℕ) (before : List ℕ) (at : ℕ) (after : List ℕ) (r : ℕ) : Type 0 where
  pub places : ℕ
  pub fewest : IsDigitCount 10 1 n places
  pub most : places ≤ 20
  pub wrote : Wrote (last_digits 10 places n) before at after r

-- a `-` and then the number
pub record Negative (n : ℕ) (before : List ℕ) (at : ℕ) (after : List ℕ) (r : ℕ) : Type 0 where
  pub between : List ℕ
  pub start : ℕ
  pub sign : Wrote (45 ∷ []) before at between start
  pub number : Spelled n between start after r

abbrev pub Signed : ℤ → List ℕ → ℕ → List ℕ → ℕ → Type 0
Signed (pos n) before at after r = Spelled n before at after r
Signed (negsuc n) before at after r = Negative (suc n) before at after r
