-- What writing a recording turns down, returns, and leaves in the lent slice: document 02, L1.
-- Definitions alone. Assumes nothing.
use Rattle.std.specs.Prelude.{cond, List, [], ◌∷◌, ◌++◌, ℕ, ◌+◌, ◌-◌, eqb, ℤ, length, drop, Result, Ok, Err}
use Rattle.refusal.specs.declared.Refusal.{Refusal}
use Rattle.refusal.specs.Numbers.{number_of}
use Rattle.refusal.specs.Limits.{Limit, refusal}
use Rattle.rule.specs.Tests.{loud}
use Rattle.riff.specs.Format.{file_size, file}

-- "17 rate outside 8,000 to 192,000"
abbrev pub rated : ℕ → Limit
rated fs = record { number = 17; low = 8000; value = fs; high = 192000 }

-- "18 more than 1,000,000 samples, or a lent slice too short": how many samples n are too many, and how many
-- places the slice is short
abbrev pub roomy : ℕ → ℕ → ℕ → Limit
roomy n needed room = record { number = 18; low = 0; value = (n - 1000000) + (needed - room); high = 0 }

-- "Writing tests 17, 18, 10"
abbrev pub write_limits : ℕ → List ℤ → ℕ → List Limit
write_limits fs xs room = rated fs ∷ roomy (length xs) (file_size (length xs)) room ∷ loud xs ∷ []

unfoldable pub write_number : ℕ → List ℤ → ℕ → ℕ
write_number fs xs room = refusal (write_limits fs xs room)

-- x, and 0 where the number n is one of a refusal: "A refusal .. returns 0 for these"
abbrev pub given : ℕ → ℕ → ℕ
given n x = cond (eqb n 0) x 0

-- what writing returns: its number, 0 for success, and the count of bytes
pub record Written : Type 0 where
  pub refusal : ℕ
  pub count : ℕ

abbrev pub write_answer : Result ℕ Refusal → Written
write_answer (Ok n) = record { refusal = 0; count = n }
write_answer (Err r) = record { refusal = number_of r; count = 0 }

-- "Writing returns the count of bytes"
unfoldable pub written : ℕ → List ℤ → ℕ → Written
written fs xs room =
    let n = write_number fs xs room in
    record { refusal = n; count = given n (file_size (length xs)) }

-- the lent slice afterwards, which was old: "A refusal touches no slice"; "success touches nothing past what
-- it writes"
unfoldable pub left : ℕ → List ℤ → List ℕ → List ℕ
left fs xs old =
    cond (eqb (write_number fs xs (length old)) 0) (file fs xs ++ drop (file_size (length xs)) old) old
