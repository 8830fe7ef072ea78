-- What a buffer of 4,096 bytes holds after a text was printed, and the place after it: how many bytes the
-- buffer then holds, or 4,097 where standard output took no more.
use Rattle.std.specs.Prelude.{List, [], ◌∷◌, ◌++◌, ℕ, suc, ◌/◌, ◌%◌, ◌≤◌, ◌<◌, ℤ, pos, negsuc}
use Rattle.io.specs.Digits.{hex_digit_ascii, last_digits, IsDigitCount}
use Rattle.write.specs.Written.{Wrote}

-- what the buffer held went to standard output, all of it or not
pub data Went : ℕ → Type 0 where
  all : Went 0
  less : Went 4097

-- room is made for 64 bytes: the place stays where it leaves as many, else what the buffer held goes out
pub data MadeRoom (at : ℕ) : ℕ → Type 0 where
  left : at ≤ 4032 → MadeRoom at at
  made : {r : ℕ} → 4032 < at → Went r → MadeRoom at r

-- the text t is put at the place where room was made, and the rest of the buffer is as it was
pub record Printed (t before : List ℕ) (at : ℕ) (after : List ℕ) (r : ℕ) : Type 0 where
  pub place : ℕ
  pub room : MadeRoom at place
  pub wrote : Wrote t before place after r

-- t is a number n in as few decimal digits as it has; a number with a `-` where it is below zero
pub data Decimal (n : ℕ) : List ℕ → Type 0 where
  fewest : {places : ℕ} → IsDigitCount 10 1 n places → Decimal n (last_digits 10 places n)

pub data Spells : ℤ → List ℕ → Type 0 where
  plain : {n : ℕ} {t : List ℕ} → Decimal n t → Spells (pos n) t
  minus : {n : ℕ} {t : List ℕ} → Decimal (suc n) t → Spells (negsuc n) (45 ∷ t)

-- a number, and a number with a sign, behind a blank
pub record Number (n : ℕ) (before : List ℕ) (at : ℕ) (after : List ℕ) (r : ℕ) : Type 0 where
  pub text : List ℕ
  pub decimal : Decimal n text
  pub printed : Printed (32 ∷ text) before at after r

pub record Signed (x : ℤ) (before : List ℕ) (at : ℕ) (after : List ℕ) (r : ℕ) : Type 0 where
  pub text : List ℕ
  pub spells : Spells x text
  pub printed : Printed (32 ∷ text) before at after r

-- a number with a sign, on a line of its own
pub record Line (x : ℤ) (before : List ℕ) (at : ℕ) (after : List ℕ) (r : ℕ) : Type 0 where
  pub text : List ℕ
  pub spells : Spells x text
  pub printed : Printed (text ++ 10 ∷ []) before at after r

-- a byte in two hexadecimal digits, behind a blank
abbrev pub Hex : ℕ → List ℕ → ℕ → List ℕ → ℕ → Type 0
Hex n before at after r = Printed (32 ∷ hex_digit_ascii (n / 16) ∷ hex_digit_ascii (n % 16) ∷ []) before at after r

-- one after the other: numbers from 0 on, numbers with a sign, bytes
pub data Each {X : Type 0} (One : X → List ℕ → ℕ → List ℕ → ℕ → Type 0)
    : List X → List ℕ → ℕ → List ℕ → ℕ → Type 0 where
  none : {b : List ℕ} {at : ℕ} → Each One [] b at b at
  more : {x : X} {xs : List X} {b c d : List ℕ} {at k r : ℕ} → One x b at c k → Each One xs c k d r
      → Each One (x ∷ xs) b at d r

abbrev pub Numbers : List ℕ → List ℕ → ℕ → List ℕ → ℕ → Type 0
Numbers = Each Number

abbrev pub Signeds : List ℤ → List ℕ → ℕ → List ℕ → ℕ → Type 0
Signeds = Each Signed

abbrev pub Hexes : List ℕ → List ℕ → ℕ → List ℕ → ℕ → Type 0
Hexes = Each Hex
