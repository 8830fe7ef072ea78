-- Instances of demand 3 with all that it asks: an announced, an instant and a committed change of a line that
-- sounds, and its last sentence. proofs/Instances.antt has them from crate rule's theorem. Assumes nothing.
use Rattle.std.specs.Prelude.{◌≡◌, List, [], ◌∷◌, ◌++◌, ℕ, ◌≤◌, ◌<◌, ℤ, pos, negsuc, get_or}
use Rattle.thiran.specs.Coefficients.{norm}
use Rattle.rule.specs.Voice.{Tuning, tuning, A}
use Rattle.rule.specs.Calls.{Call, block, announce, instant, ask, commit, Opening}
use Rattle.rule.specs.History.{read, steps, call, after, new}
use Rattle.rule.specs.State.{fresh, puts}
use Rattle.rule.specs.Click.{Change, NoneBy, Figure}
use Rattle.rule.specs.OwnFigure.{OwnFigure}

-- order 2, Na 2
abbrev pub o : Opening
o = record { N = 2; L = 3; d = 8192; G = 60000; Na = 2 }

-- for the call c of a list, a change to t, at step m: what demand 3 asks, what it says, and the two outputs
-- that it compares, y of the voice and z of the new filter
module _ (pre : List Call) (c : Call) (post : List Call) where
  abbrev pub list : List Call
  list = pre ++ c ∷ post

  pub record Instance (t : Tuning) (a e m : ℕ) (y z : ℤ) : Type 0 where
    pub change : Change (after o pre) c t a e
    pub until : NoneBy m (call (after o pre) c) post
    pub since : e ≤ m
    pub before : m < steps (after o list)
    pub figure : Figure (puts (fresh o) list) (after o list).s t a e m
    pub own : OwnFigure (norm (A t)) (puts (fresh o) list) (after o list).s t a e m
    pub voice : get_or (puts (fresh o) list) m (pos 0) ≡ y
    pub filter : new t (after o list).s m ≡ z

-- a line that sounds, in blocks of three steps
abbrev pub loud : Call
loud = block (pos 1000000 ∷ negsuc 1999999 ∷ pos 500000 ∷ []) 3

abbrev pub zeros : Call
zeros = block (pos 0 ∷ pos 0 ∷ pos 0 ∷ []) 3

-- a line that sounds from step 2 on, at which the second copy of its change begins
abbrev pub quiet : Call
quiet = block (pos 0 ∷ pos 0 ∷ []) 2

abbrev pub late : Call
late = block (pos 5000 ∷ pos 7 ∷ pos 0 ∷ pos 0 ∷ []) 4

abbrev pub t : Tuning
t = tuning 2 1 9159

abbrev pub lately : List Call
lately = list (quiet ∷ []) (announce t) (late ∷ [])

pub record Instances : Type 0 where
  -- called before step 3, in force before step 5; an instant change is in force before step 6
  pub announced :
      Instance (loud ∷ []) (announce (tuning 2 2 9159)) (zeros ∷ instant (tuning 2 1 7000) ∷ zeros ∷ [])
      (tuning 2 2 9159) 2 5 5 (negsuc 2028822) (negsuc 1882984)
  -- that one, at the third step from there on
  pub instantly :
      Instance (loud ∷ announce (tuning 2 2 9159) ∷ zeros ∷ []) (instant (tuning 2 1 7000)) (zeros ∷ [])
      (tuning 2 1 7000) 2 6 8 (negsuc 1084744) (negsuc 1105079)
  -- L3: asked before step 3 and committed before step 6, when its eliminator has taken 3 samples
  pub committed :
      Instance (loud ∷ ask (tuning 2 2 9159) ∷ zeros ∷ []) commit (zeros ∷ [])
      (tuning 2 2 9159) 3 6 6 (pos 197680) (pos 198126)
  -- L6: "The bound is read with the order of the incoming filter": up to order 3, and from there down to order 1
  pub up :
      Instance (loud ∷ []) (announce (tuning 3 1 12000)) (zeros ∷ instant (tuning 1 2 3000) ∷ zeros ∷ [])
      (tuning 3 1 12000) 2 5 5 (pos 27118) (negsuc 2019808)
  pub down :
      Instance (loud ∷ announce (tuning 3 1 12000) ∷ zeros ∷ []) (instant (tuning 1 2 3000)) (zeros ∷ [])
      (tuning 1 2 3000) 2 6 8 (pos 6907) (pos 5711)
  -- asked for in order 2, committed to order 1
  pub committed-down :
      Instance (loud ∷ ask (tuning 1 2 3000) ∷ zeros ∷ []) commit (zeros ∷ [])
      (tuning 1 2 3000) 3 6 7 (pos 89535) (pos 90091)
  -- "It does not differ at all if everything the new filter read before the second copy began is zero"
  pub same : Instance (quiet ∷ []) (announce t) (late ∷ []) t 2 4 5 (pos 4886) (pos 4886)
  pub line : (after o lately).s ≡ pos 0 ∷ pos 0 ∷ pos 5000 ∷ pos 7 ∷ negsuc 325 ∷ pos 1910 ∷ []
  pub zero : (i : ℕ) → i < 2 → read (after o lately).s i 1 ≡ pos 0
  pub equal : get_or (puts (fresh o) lately) 5 (pos 0) ≡ new t (after o lately).s 5
