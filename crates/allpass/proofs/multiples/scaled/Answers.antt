-- `allpass::multiples::scaled` meets its contract: A2 is small.
-- Assumes nothing.
use mathlib.Core.Path.{◌≡◌}
use native.Mathlib.Omega.{arith}
use borrow.Author.Rules.{rules}
use lib.IntN.{ℤ}
use mir.Syntax.{w64}
use mir.Val.{to_z, of_z}
use Rattle.allpass.proofs.Little.{a2-small}
use Rattle.allpass.proofs.multiples.scaled.Goals as goal

-- what the machine reads back of z is z
abbrev Read : ℤ → Type 0
Read z = to_z w64 (of_z w64 z) ≡ z

pub times-b-requires : goal.times-b-requires
times-b-requires c =
    let b : Read c.args.c.a2 = search rules in
    let n = a2-small c.args.order c.args.c (omega arith) in
    (rw b (omega arith), omega arith)
