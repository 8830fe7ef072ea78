-- The single tests of "What each call turns down"; those of order and delay are crate refusal's.
-- Definitions alone. Assumes nothing.
use Rattle.std.specs.Prelude.{List, ℕ, ℤ, length}
use Rattle.std.proofs.Math.Option.{Option, none, some}
use Rattle.integer.specs.Rounding.{M}
use Rattle.refusal.specs.Limits.{Limit}
use Rattle.refusal.specs.Orders.{longest, most_loss, most_advance}
use Rattle.samples.specs.Samples.{loudest}
use Rattle.rule.specs.Voice.{Kind, announced, asked, Waiting}

-- "2 L, .. 4 G, 5 Na outside the limits": L 1 to 2,048, G 0 to 65,535, Na 0 to 64
abbrev pub long : ℕ → Limit
long L = record { number = 2; low = 1; value = L; high = longest }

abbrev pub lossy : ℕ → Limit
lossy G = record { number = 4; low = 0; value = G; high = most_loss }

abbrev pub early : ℕ → Limit
early Na = record { number = 5; low = 0; value = Na; high = most_advance }

-- "6 a change waits": as many as wait, which may be none
abbrev pub waitings : Option Waiting → ℕ
waitings none = 0
waitings (some w) = 1

abbrev pub idle : Option Waiting → Limit
idle w = record { number = 6; low = 0; value = waitings w; high = 0 }

-- L3: "21 commit or withdraw with nothing asked": as many as were asked for; "to commit and withdraw" an
-- announced change "counts as nothing asked"
abbrev pub askings : Kind → ℕ
askings announced = 0
askings asked = 1

abbrev pub asks : Option Waiting → ℕ
asks none = 0
asks (some w) = askings w.kind

abbrev pub asking : Option Waiting → Limit
asking w = record { number = 21; low = 1; value = asks w; high = 1 }

-- L3: "20 commit before Na samples were taken"
abbrev pub takings : Option Waiting → ℕ
takings none = 0
takings (some w) = w.taken

abbrev pub ready : ℕ → Option Waiting → Limit
ready Na w = record { number = 20; low = Na; value = takings w; high = takings w }

-- "Pluck: 7 amplitude above 255, 8 count 0 or above 2,048"
abbrev pub strong : ℕ → Limit
strong a = record { number = 7; low = 0; value = a; high = 255 }

abbrev pub lasting : ℕ → Limit
lasting n = record { number = 8; low = 1; value = n; high = 2048 }

-- "Block: 9 input and output differ in length, 10 an input outside −M to M"
abbrev pub matched : List ℤ → ℕ → Limit
matched xs n = record { number = 9; low = n; value = length xs; high = n }

abbrev pub loud : List ℤ → Limit
loud xs = record { number = 10; low = 0; value = loudest xs; high = M }
