-- What comes back with a refusal: its number, and 0 twice, whatever the period is.
-- Assumes nothing.
use mathlib.Core.Path.{◌≡◌, sym, ◌∙◌}
use mathlib.Core.List.{List, ◌++◌}
use Prim.Native.Nat.{ℕ}
use borrow.Author.Tests.{ne_eqb}
use lib.Dec.{T}
use lib.IntN.{ℤ}
use Rattle.std.specs.Prelude.{Err}
use Rattle.refusal.specs.declared.Refusal.{Refusal}
use Rattle.refusal.specs.Limits.{Limit, refusal}
use Rattle.refusal.specs.Numbers.{number_of}
use Rattle.refusal.specs.Returned.{numbered}
use Rattle.refusal.proofs.Numbers.{refused-above}
use Rattle.refusal.proofs.Passed.{stops, passes}
use Rattle.pitch.specs.Pitch.{answer}
use Rattle.pitch.specs.Pitch.{pitch_of}

pub refused-is : (N : ℕ) (T : ℤ) (n : ℕ) (r : Refusal) → number_of r ≡ n → pitch_of (Err r) ≡ answer N T n
refused-is N T n r e = rw (← e, ne_eqb (number_of r) 0 (refused-above r))

-- r is what the tests ls give, and those before them let pass
pub stopped : (pre ls post : List Limit) (r : Refusal) → T (numbered pre) → refusal pre ≡ 0
    → number_of r ≡ refusal ls → number_of r ≡ refusal (pre ++ (ls ++ post))
stopped pre ls post r t p e =
    e ∙ sym (stops ls post (λ z. refused-above r (e ∙ z))) ∙ sym (passes pre (ls ++ post) t p)
