-- What a printer holds after a call: the buffer, and the place in it, which is how many bytes the buffer holds,
-- and 4,097 once standard output took no more (Printed).
use Rattle.std.specs.Prelude.{◌≡◌, List, ℕ, ◌≤◌, ◌<◌, length, Option, Some, None}
use Rattle.print.specs.declared.Printer.{Printer}
use Rattle.print.specs.Printed.{Each}

abbrev pub place : Option ℕ → ℕ
place (Some n) = n
place None = 4097

-- Does says what the buffer and the place are after what they were before; the program prints where it did
pub record Prints (Does : List ℕ → ℕ → List ℕ → ℕ → Type 0) (before after : Printer) : Type 0 where
  pub does : Does before.buffer (place before.held) after.buffer (place after.held)
  pub within : place after.held ≤ 4097
  pub out : after.out ≡ before.out

-- the same of each of a list, one after the other; of none nothing is printed
pub record PrintsEach {X : Type 0} (One : X → List ℕ → ℕ → List ℕ → ℕ → Type 0) (xs : List X)
    (before after : Printer) : Type 0 where
  pub each : Each One xs before.buffer (place before.held) after.buffer (place after.held)
  pub some : 0 < length xs → place after.held ≤ 4097
  pub within : place before.held ≤ 4097 → place after.held ≤ 4097
  pub out : after.out ≡ before.out
