-- A pluck step by step, and a quiet voice that falls silent, at literal lists.
-- Statements alone: proofs/Sounds.antt has them from crate rule's `plucks` and `silence`.
use Rattle.std.specs.Prelude.{◌≡◌, List, [], ◌∷◌, ◌++◌, ℕ, ℤ, pos, negsuc, replicate}
use Rattle.rule.specs.Voice.{noise}
use Rattle.rule.specs.Calls.{Opening, Call, block, pluck}
use Rattle.rule.specs.History as History
use Rattle.rule.specs.State.{fresh, from, puts}
use Rattle.rule.specs.Silence.{Quiet, SilentFrom}

abbrev pub o : Opening
o = record { N = 1; L = 1; d = 4096; G = 32768; Na = 0 }

-- what the step adds that comes n steps after a pluck of amplitude 100, count 3 and seed 7
abbrev pub adds : ℕ → ℤ
adds n =
    noise (History.through (History.told (History.fresh o) (pluck 100 3 7)) (replicate n (pos 0))).voice.pluck

pub record Plucking : Type 0 where
  pub first : adds 0 ≡ negsuc 1711999
  pub second : adds 1 ≡ pos 2709800
  pub third : adds 2 ≡ pos 737200
  pub over : adds 3 ≡ pos 0

-- a sample of 2, and then nothing: 2 × (L + N + 1) samples later all is 0
abbrev pub two : List Call
two = block (pos 2 ∷ []) 1 ∷ []

abbrev pub zeros : List Call
zeros = block (replicate 9 (pos 0)) 9 ∷ []

pub record Fading : Type 0 where
  pub quiet : Quiet 2 (from (fresh o) two)
  pub silent : SilentFrom 6 o two zeros
  pub outputs :
      puts (fresh o) (two ++ zeros)
      ≡ pos 0 ∷ pos 0 ∷ pos 2 ∷ pos 0 ∷ pos 0 ∷ pos 0 ∷ pos 0 ∷ pos 0 ∷ pos 0 ∷ pos 0 ∷ []
