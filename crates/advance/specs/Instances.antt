-- `Keeps` at two lists, with all that it asks: an announced change whose eliminator took as many samples as `least`
-- says, a sample after it took effect, and a commit with one more, at its first sample.
-- Statements alone: proofs/Instances.antt has them from `Keeps`.
use Rattle.std.specs.Prelude.{◌≡◌, List, [], ◌∷◌, ◌++◌, ℕ, ◌≤◌, ◌<◌, ℤ, pos, negsuc, nat_abs, ◌-ℤ◌, get_or, replicate}
use Rattle.rule.specs.Voice.{Tuning, tuning}
use Rattle.rule.specs.Calls.{Opening, Call, block, announce, ask, commit}
use Rattle.rule.specs.History.{steps, fresh, after, new}
use Rattle.rule.specs.State.{puts}
use Rattle.rule.specs.State as S
use Rattle.rule.specs.Demands.{Rules}
use Rattle.advance.specs.Least.{least_advance}

-- A4 in order 2, at 44,100 samples a second; Na 4
abbrev pub t : Tuning
t = tuning 2 2 7075

abbrev pub o : Opening
o = record { N = 1; L = 3; d = 4500; G = 60000; Na = 4 }

abbrev pub loud : List Call
loud = block (pos 8000000 ∷ negsuc 7999999 ∷ pos 8000000 ∷ []) 3 ∷ []

abbrev pub zeros : ℕ → List Call
zeros n = block (replicate n (pos 0)) n ∷ []

-- in force before step 7
abbrev pub announcing : List Call
announcing = loud ++ announce t ∷ zeros 6

-- in force before step 8: five samples were put out between
abbrev pub asking : List Call
asking = loud ++ ask t ∷ zeros 5

abbrev pub committing : List Call
committing = asking ++ commit ∷ zeros 2

-- of the list cs, whose change c after the calls pre is in force at step m: the eliminator took `taken` samples, the
-- voice puts out y, the new filter f, and they are within the distance that `least` was asked for
pub record Kept (cs pre : List Call) (c : Call) (post : List Call) (m wanted taken : ℕ) (y f : ℤ) : Type 0 where
  pub rules : Rules m (fresh o) cs pre c post
  pub to : rules.t ≡ t
  pub took : rules.a ≡ taken
  pub before : m < steps (after o cs)
  pub near : nat_abs (get_or (puts (S.fresh o) cs) m (pos 0) -ℤ new t (after o cs).s m) ≤ wanted
  pub voice : get_or (puts (S.fresh o) cs) m (pos 0) ≡ y
  pub filter : new t (after o cs).s m ≡ f

pub record Keeping : Type 0 where
  -- the least advance for 985,738 is 4; a distance of one less takes another two samples
  pub least : least_advance 2 7075 985738 ≡ record { refusal = 0; na = 4 }
  pub closer : least_advance 2 7075 985737 ≡ record { refusal = 0; na = 6 }
  pub announced : Kept announcing loud (announce t) (zeros 6) 8 985738 4 (pos 4143543) (pos 4176191)
  pub committed : Kept committing asking commit (zeros 2) 8 985738 5 (pos 4143543) (pos 4176191)
