-- The instance of "It does not differ at all": the line by computation, the rest by the theorem.
use mathlib.Core.Path.{◌≡◌, refl}
use mathlib.Core.List.{List, [], ◌∷◌}
use Prim.Native.Nat.{ℕ, zero, suc, ◌<◌}
use native.Mathlib.Omega.{arith}
use lib.IntN.{pos, negsuc}
use lib.ListN.{get_or}
use Rattle.integer.specs.Rounding.{clip, floor, nearest}
use Rattle.integer.specs.Cut.{cut, R, Q}
use Rattle.thiran.specs.Formula.{a, factor}
use Rattle.thiran.specs.Coefficients.{coefficient, coefficients}
use Rattle.allpass.specs.Allpass.{inner, next, out}
use Rattle.rule.specs.Voice.{noise, spent, output, written, settled, stepped}
use Rattle.rule.specs.Calls.{Call, block, announce, number, opened, done}
use Rattle.rule.specs.History.{read, step, call, after, new}
use Rattle.rule.specs.State.{fresh, puts}
use Rattle.rule.specs.Click.{announcing}
use Rattle.rule.specs.Instances.{o, post, t, cs, Instances}
use Rattle.rule.proofs.Click.{click}
use Rattle.rule.proofs.Ruling.{none-block}

abbrev pre : List Call
pre = block (pos 0 ∷ pos 0 ∷ []) 2 ∷ []

-- what is written: the new filter reads 0 before step 2, and 5,000 at step 3
line : (after o cs).s ≡ pos 0 ∷ pos 0 ∷ pos 5000 ∷ pos 7 ∷ negsuc 325 ∷ pos 1910 ∷ pos 2612 ∷ []
unfolding read call step number opened done stepped settled output written Q noise spent coefficients
    coefficient a factor nearest floor cut R clip inner next out
line = refl

quiet : (i : ℕ) → i < 2 → read (after o cs).s i 1 ≡ pos 0
unfolding read
quiet zero l = refl
quiet (suc zero) l = rw line
quiet (suc (suc i)) l = absurd (omega arith)

exactly : get_or (puts (fresh o) cs) 4 (pos 0) ≡ new t (after o cs).s 4
unfolding call step number opened done stepped settled
exactly =
    (click o cs pre post (announce t) t 2 4 4 refl (announcing refl) (none-block 4 _ _ _, tt)
    (omega arith) (omega arith)).same quiet

pub instances : Instances
instances = record { line = line; zero = quiet; exactly = exactly }
