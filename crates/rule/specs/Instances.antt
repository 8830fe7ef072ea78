-- "It does not differ at all", at a list whose line sounds from the moment that the second copy begins: only what was
-- read before that is asked to be zero. A statement alone: proofs/Instances.antt has it from `Click`.
use Rattle.std.specs.Prelude.{◌≡◌, List, [], ◌∷◌, ℕ, ◌<◌, pos, negsuc, get_or}
use Rattle.rule.specs.Voice.{Tuning}
use Rattle.rule.specs.Calls.{Opening, Call, block, announce}
use Rattle.rule.specs.History.{read, after, new}
use Rattle.rule.specs.State.{fresh, puts}

abbrev pub o : Opening
o = record { N = 2; L = 2; d = 8192; G = 60000; Na = 2 }

abbrev pub post : List Call
post = block (pos 5000 ∷ pos 7 ∷ pos 0 ∷ pos 0 ∷ pos 0 ∷ []) 5 ∷ []

abbrev pub t : Tuning
t = record { N = 2; L = 1; d = 9159 }

-- called before step 2, at which its second copy begins; in force before step 4
abbrev pub cs : List Call
cs = block (pos 0 ∷ pos 0 ∷ []) 2 ∷ announce t ∷ post

pub record Instances : Type 0 where
  -- what is written: the new filter reads 0 before step 2, and 5,000 at step 3
  pub line : (after o cs).s ≡ pos 0 ∷ pos 0 ∷ pos 5000 ∷ pos 7 ∷ negsuc 325 ∷ pos 1910 ∷ pos 2612 ∷ []
  pub zero : (i : ℕ) → i < 2 → read (after o cs).s i 1 ≡ pos 0
  pub exactly : get_or (puts (fresh o) cs) 4 (pos 0) ≡ new t (after o cs).s 4
