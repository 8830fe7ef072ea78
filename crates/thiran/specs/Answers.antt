-- What the routine `coefficients` turns down and gives, and how coefficients stand in the struct of the code.
-- Definitions alone. Assumes nothing.
use Rattle.std.specs.Prelude.{cond, List, [], ◌∷◌, ℕ, eqb, ℤ, pos, take, get_or, Result, Ok, Err}
use Rattle.refusal.specs.declared.Refusal.{Refusal}
use Rattle.refusal.specs.Numbers.{number_of}
use Rattle.refusal.specs.Limits.{Limit, refusal}
use Rattle.refusal.specs.Orders.{order, delay}
use Rattle.thiran.specs.Coefficients.{coefficients}
use Rattle.thiran.specs.declared.Taps.{Taps}
use Rattle.thiran.specs.declared.formula.Coefficients.{Coefficients}

-- "Coefficients: 1, 3"
abbrev pub limits : ℕ → ℕ → List Limit
limits N d = order N ∷ delay N d ∷ []

-- what it returns: its number, 0 for success, and the coefficients
pub record Design : Type 0 where
  pub refusal : ℕ
  pub a1 : ℤ
  pub a2 : ℤ
  pub a3 : ℤ

abbrev pub designed : Result Taps Refusal → Design
designed (Ok c) = record { refusal = 0; a1 = c.a1; a2 = c.a2; a3 = c.a3 }
designed (Err r) = record { refusal = number_of r; a1 = pos 0; a2 = pos 0; a3 = pos 0 }

-- "both come back 0", and "A3 too, 0 when refused" (L5); past the order they are 0
unfoldable pub design : ℕ → ℕ → Design
design N d =
    cond (eqb (refusal (limits N d)) 0)
    (record {
      refusal = 0;
      a1 = get_or (coefficients N d) 0 (pos 0);
      a2 = get_or (coefficients N d) 1 (pos 0);
      a3 = get_or (coefficients N d) 2 (pos 0);
    })
    (record { refusal = refusal (limits N d); a1 = pos 0; a2 = pos 0; a3 = pos 0 })

-- the struct: the coefficients of the order, and 0 past it
unfoldable pub padded : List ℤ → Coefficients
padded A = record { a1 = get_or A 0 (pos 0); a2 = get_or A 1 (pos 0); a3 = get_or A 2 (pos 0) }

-- the numbers of the struct, and those of order N
abbrev pub listed : Coefficients → List ℤ
listed c = c.a1 ∷ c.a2 ∷ c.a3 ∷ []

abbrev pub taps : ℕ → Coefficients → List ℤ
taps N c = take N (listed c)
