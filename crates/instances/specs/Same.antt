-- "It does not differ at all if everything the new filter read before the second copy began is zero", of lists whose
-- line sounds from there on: a commit in order 3, far from the opening, and an instant change.
-- Statements alone: proofs/Same.antt has them from crate rule's `Click`.
use Rattle.std.specs.Prelude.{◌≡◌, List, [], ◌∷◌, ◌++◌, ℕ, ◌-◌, ◌≤◌, ◌<◌, ℤ, pos, negsuc, get_or, replicate}
use Rattle.rule.specs.Voice.{Tuning, tuning}
use Rattle.rule.specs.Calls.{Call, block, ask, instant, commit, Opening}
use Rattle.rule.specs.History.{read, steps, call, after, new}
use Rattle.rule.specs.State.{fresh, puts}
use Rattle.rule.specs.Click.{Change, NoneBy}

-- for the call c of a list, a change to t, at step m: what demand 3 asks, and that the voice puts out y, which is the
-- new filter's
module _ (o : Opening) (pre : List Call) (c : Call) (post : List Call) where
  abbrev pub list : List Call
  list = pre ++ c ∷ post

  pub record Same (t : Tuning) (a e m : ℕ) (y : ℤ) : Type 0 where
    pub change : Change (after o pre) c t a e
    pub until : NoneBy m (call (after o pre) c) post
    pub since : e ≤ m
    pub before : m < steps (after o list)
    pub zero : (i : ℕ) → i < e - a → read (after o list).s i t.L ≡ pos 0
    pub equal : get_or (puts (fresh o) list) m (pos 0) ≡ new t (after o list).s m
    pub voice : get_or (puts (fresh o) list) m (pos 0) ≡ y

-- asked for before step 101, when the line was silent, and committed before step 104
abbrev pub low : Opening
low = record { N = 1; L = 5; d = 4500; G = 60000; Na = 2 }

abbrev pub asking : List Call
asking =
    block (replicate 101 (pos 0)) 101 ∷ ask (tuning 3 2 13000) ∷ block (pos 5000 ∷ pos 7 ∷ pos 0 ∷ []) 3 ∷ []

abbrev pub four : List Call
four = block (replicate 4 (pos 0)) 4 ∷ []

-- called before step 6, its second copy run from step 4 on
abbrev pub high : Opening
high = record { N = 2; L = 3; d = 8692; G = 60000; Na = 2 }

abbrev pub sounding : List Call
sounding = block (replicate 4 (pos 0)) 4 ∷ block (pos 5000 ∷ pos 7 ∷ []) 2 ∷ []

abbrev pub three : List Call
three = block (replicate 3 (pos 0)) 3 ∷ []

pub record Exact : Type 0 where
  pub committed : Same low asking commit four (tuning 3 2 13000) 3 104 106 (pos 4920)
  pub committed-line :
      (after low (list low asking commit four)).s
      ≡ replicate 101 (pos 0) ++ (pos 5000 ∷ pos 7 ∷ pos 0 ∷ pos 63 ∷ negsuc 212 ∷ pos 1974 ∷ pos 2545 ∷ [])
  pub instantly : Same high sounding (instant (tuning 1 1 3000)) three (tuning 1 1 3000) 2 6 7 (negsuc 401)
  pub instant-line :
      (after high (list high sounding (instant (tuning 1 1 3000)) three)).s
      ≡ replicate 4 (pos 0) ++ (pos 5000 ∷ pos 7 ∷ pos 2234 ∷ pos 2050 ∷ pos 1011 ∷ [])
