-- How many samples an announced change still takes, or an asked one until its commit is accepted; and what
-- that number says of the calls that come. proofs/Awaited.antt proves `Awaits`.
use Rattle.std.specs.Prelude.{◌≡◌, ◌↔◌, List, ℕ, ◌-◌, ◌<◌, ℤ, length}
use Rattle.std.proofs.Math.Option.{Option, none, some}
use Rattle.rule.specs.Voice.{Waiting, announced, asked, Voice}
use Rattle.rule.specs.Calls.{commit, number}
use Rattle.rule.specs.State.{State, block_after}
use Rattle.voice.specs.declared.Head.{Head}
use Rattle.voice.specs.Struct.{voice_of}
use Rattle.voice.specs.Valid.{Fit}

-- how many samples the eliminator lacks of Na; 0 where nothing waits
abbrev pub left : ℕ → Option Waiting → ℕ
left Na none = 0
left Na (some w) = Na - w.taken

abbrev pub awaited : Voice → ℕ
awaited v = left v.Na v.waiting

-- each sample takes one of them away
pub record Awaits : Type 0 where
  pub sample : (v : State) (xs : List ℤ)
      → awaited (block_after v xs).voice ≡ awaited v.voice - length xs
  -- an asked change is committed if and only if none is left
  pub ask : (v : Voice) (w : Waiting) → v.waiting ≡ some w → w.kind ≡ asked
      → (number v commit ≡ 0) ↔ (awaited v ≡ 0)
  -- an announced one that waits lacks some, so that it is in force as soon as none is left
  pub announce : (h : Head) → Fit h → (w : Waiting) → (voice_of h).waiting ≡ some w → w.kind ≡ announced
      → 0 < awaited (voice_of h)
