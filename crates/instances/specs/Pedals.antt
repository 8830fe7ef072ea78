-- When a change waits, what a withdrawn ask leaves, and an announced change as an ask that commits itself, at lists
-- with all that the statements ask. Statements alone: proofs/Pedals.antt has them from crate rule's theorems.
use Rattle.std.specs.Prelude.{◌≡◌, List, [], ◌∷◌, ◌++◌, ℤ, pos, negsuc}
use Rattle.std.proofs.Math.Option.{none, some}
use Rattle.rule.specs.Voice.{Tuning, tuning, announced, asked, Voice, silent}
use Rattle.rule.specs.Calls.{Opening, Call, block, loss, announce, ask, commit, withdraw, number}
use Rattle.rule.specs.History.{after}
use Rattle.rule.specs.State.{State, fresh, from, numbers, counts}
use Rattle.rule.specs.Click.{Change}
use Rattle.rule.specs.Demands.{Awaited, Pending}
use Rattle.rule.specs.Asked.{Withdrawn, Itself}
use Rattle.instances.specs.Live.{Gives}

-- Na 3, in order 1; a change to order 2
abbrev pub o : Opening
o = record { N = 1; L = 3; d = 4500; G = 60000; Na = 3 }

abbrev pub t : Tuning
t = tuning 2 2 9000

-- ---- "a change waits": before the change, and after it with a commit that is refused
abbrev pub pre : List Call
pre = block (pos 1000 ∷ []) 1 ∷ []

-- two samples later, and three
abbrev pub two : List Call
two = commit ∷ block (pos 0 ∷ pos 0 ∷ []) 2 ∷ []

abbrev pub three : List Call
three = commit ∷ block (pos 0 ∷ pos 0 ∷ pos 0 ∷ []) 3 ∷ []

pub record Waiting : Type 0 where
  -- announced: it waits with two samples taken, and no more with three
  pub announced_waits : Awaited (after o (pre ++ announce t ∷ two)).voice announced t
  pub announced_pending : Pending o (pre ++ announce t ∷ two) announced t
  pub announced_over : Pending o (pre ++ announce t ∷ three) announced t → ⊥
  pub announced_codes : numbers (fresh o) (pre ++ announce t ∷ two) ≡ 0 ∷ 0 ∷ 21 ∷ 0 ∷ []
  -- asked for: it waits on; the commit came before Na samples were taken
  pub asked_waits : Awaited (after o (pre ++ ask t ∷ three)).voice asked t
  pub asked_pending : Pending o (pre ++ ask t ∷ three) asked t
  pub asked_codes : numbers (fresh o) (pre ++ ask t ∷ three) ≡ 0 ∷ 0 ∷ 20 ∷ 0 ∷ []
  -- and it is no announced one
  pub asked_alone : Pending o (pre ++ ask t ∷ three) announced t → ⊥

-- ---- the pedal: with two samples put out between a commit is early, with three it is a change by three
pub record Pedalling : Type 0 where
  pub early : number (after o (pre ++ ask t ∷ two)).voice commit ≡ 20
  pub accepted : number (after o (pre ++ ask t ∷ three)).voice commit ≡ 0
  pub change : Change (after o (pre ++ ask t ∷ three)) commit t 3 4

-- ---- "withdrawing drops it": with blocks, a loss and a refused commit between
abbrev pub loud : List Call
loud = block (pos 1000000 ∷ negsuc 1999999 ∷ []) 2 ∷ []

abbrev pub between : List Call
between = block (pos 500000 ∷ []) 1 ∷ loss 50000 ∷ commit ∷ block (pos 0 ∷ pos 0 ∷ []) 2 ∷ []

abbrev pub zeros : List Call
zeros = block (pos 0 ∷ pos 0 ∷ pos 0 ∷ pos 0 ∷ []) 4 ∷ []

abbrev pub dropped : List ℤ
dropped =
    pos 0 ∷ pos 0 ∷ pos 0 ∷ negsuc 46996 ∷ pos 1091785 ∷ negsuc 1972186 ∷ pos 408156 ∷ negsuc 17475
    ∷ pos 413516 ∷ []

abbrev pub left : Voice
left = record {
  tuning = tuning 1 3 4500;
  G = 50000;
  Na = 3;
  state = negsuc 317112 ∷ [];
  last = pos 413516;
  waiting = none;
  pluck = silent;
}

pub record Withdrawing : Type 0 where
  pub withdrawn : Withdrawn o loud between zeros t
  pub with-ask :
      Gives (fresh o) (loud ++ ask t ∷ (between ++ withdraw ∷ zeros)) dropped
      (0 ∷ 0 ∷ 0 ∷ 0 ∷ 20 ∷ 0 ∷ 0 ∷ 0 ∷ []) (0 ∷ 0 ∷ 0 ∷ 0 ∷ 0 ∷ 0 ∷ 0 ∷ 0 ∷ []) left
  pub without-ask :
      Gives (fresh o) (loud ++ (between ++ zeros)) dropped
      (0 ∷ 0 ∷ 0 ∷ 21 ∷ 0 ∷ 0 ∷ []) (0 ∷ 0 ∷ 0 ∷ 0 ∷ 0 ∷ 0 ∷ []) left

-- ---- "An announced change acts as an ask that commits itself": Na 2, with a loss and a refused commit between
abbrev pub start : State
start = from (fresh (record { N = 1; L = 3; d = 4500; G = 60000; Na = 2 })) loud

abbrev pub mid : List Call
mid = block (pos 0 ∷ []) 1 ∷ loss 50000 ∷ commit ∷ block (negsuc 4 ∷ []) 1 ∷ []

abbrev pub slid : List ℤ
slid = pos 0 ∷ negsuc 46996 ∷ pos 1227185 ∷ negsuc 1846132 ∷ negsuc 239265 ∷ negsuc 74685 ∷ []

abbrev pub retuned : Voice
retuned = record {
  tuning = t;
  G = 50000;
  Na = 2;
  state = negsuc 179976 ∷ pos 452655 ∷ [];
  last = negsuc 74685;
  waiting = none;
  pluck = silent;
}

pub record Committing : Type 0 where
  pub itself : Itself start t mid zeros
  pub announced :
      Gives start (announce t ∷ (mid ++ zeros)) slid
      (0 ∷ 0 ∷ 0 ∷ 21 ∷ 0 ∷ 0 ∷ []) (0 ∷ 0 ∷ 0 ∷ 0 ∷ 0 ∷ 0 ∷ []) retuned
  pub asked-for :
      Gives start (ask t ∷ (mid ++ commit ∷ zeros)) slid
      (0 ∷ 0 ∷ 0 ∷ 20 ∷ 0 ∷ 0 ∷ 0 ∷ []) (0 ∷ 0 ∷ 0 ∷ 0 ∷ 0 ∷ 0 ∷ 0 ∷ []) retuned
