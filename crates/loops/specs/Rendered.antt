-- A buffer that is rendered in place, from the front: what is left to do makes what the whole block makes.
-- Definitions alone. Assumes nothing.
use Rattle.std.specs.Prelude.{◌≡◌, Bool, List, ◌++◌, ℕ, ◌≤◌, ℤ, pos, length, take, drop, replicate}
use Rattle.integer.specs.Rounding.{M}
use Rattle.samples.specs.Samples.{loudest}
use Rattle.rule.specs.State.{State, block_after, block_out}
use Rattle.voice.specs.declared.Head.{Head}
use Rattle.voice.specs.Struct.{state_of}
use Rattle.voice.specs.Valid.{Valid}
use Rattle.loops.specs.Fed.{fed_of}

-- xs are the inputs and v the voice at the start; b is the buffer and u the voice once i of them are rendered
pub record Rendered (xs : List ℤ) (v : State) (b : List ℤ) (u : State) (i : ℕ) : Type 0 where
  pub within : i ≤ length xs
  pub long : length b ≡ length xs
  pub left : block_after u (drop i b) ≡ block_after v xs
  pub out : take i b ++ block_out u (drop i b) ≡ block_out v xs
  pub quiet : loudest (drop i b) ≤ M

-- the head k and the line m are valid, and reached from h and l once i samples of the buffer b, which is then c,
-- are rendered
abbrev pub Went : Bool → List ℤ → Head → List ℤ → List ℤ → Head → List ℤ → ℕ → Type 0
Went fed b h l c k m i = Rendered (fed_of fed 0 b) (state_of h l) (fed_of fed i c) (state_of k m) i × Valid k m

-- the head k, the line m and the buffer c are what comes of the head h, the line l and the buffer b where 0 comes in
-- at each sample of it
pub record Unfed (b : List ℤ) (h : Head) (l : List ℤ) (c : List ℤ) (k : Head) (m : List ℤ) : Type 0 where
  pub after : state_of k m ≡ block_after (state_of h l) (replicate (length b) (pos 0))
  pub out : c ≡ block_out (state_of h l) (replicate (length b) (pos 0))
  pub valid : Valid k m
