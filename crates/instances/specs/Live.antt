-- L9 at lists, with all that it asks: a change from order 1 to order 3 with a loss, a pluck and refused calls
-- between, and one with Na 0; of a voice that no list is said to have reached, accepted and refused; and that with a
-- sample fewer between the outputs differ. Statements alone: proofs/Live.antt has them from crate rule's theorems.
use Rattle.std.specs.Prelude.{◌≡◌, List, [], ◌∷◌, ◌++◌, ℕ, ℤ, pos, negsuc, length, replicate}
use Rattle.std.proofs.Math.Option.{none}
use Rattle.rule.specs.Voice.{Tuning, tuning, Voice, silent}
use Rattle.rule.specs.Calls.{Opening, Call, block, loss, pluck, announce, instant, commit, withdraw}
use Rattle.rule.specs.State.{State, fresh, from, puts, numbers, counts}
use Rattle.rule.specs.Live.{without, announcing, living, Ahead, Live, Due, Meets}

-- what a list puts out, returns and counts, and the voice that it leaves
pub record Gives (v : State) (cs : List Call) (ys : List ℤ) (ns ks : List ℕ) (u : Voice) : Type 0 where
  pub outputs : puts v cs ≡ ys
  pub codes : numbers v cs ≡ ns
  pub runs : counts v cs ≡ ks
  pub voice : (from v cs).voice ≡ u

-- ---- from an opening: what L9 asks, what it says, and what both lists give
module _ (o : Opening) (pre : List Call) (to : Tuning) (mid post : List Call) where
  pub record Instance (ys : List ℤ) (ns ms ks js : List ℕ) (u : Voice) : Type 0 where
    pub ahead : Ahead o pre to mid
    pub live : Live o pre to mid post
    pub announced : Gives (fresh o) (announcing o pre to mid post) ys ns ks u
    pub instantly : Gives (fresh o) (living o pre to mid post) ys ms js u
    -- but for the change's own
    pub same_codes : without (length pre) ns ≡ without (length (pre ++ mid)) ms
    pub same_runs : without (length pre) ks ≡ without (length (pre ++ mid)) js

abbrev pub loud : List Call
loud = block (pos 1000000 ∷ negsuc 1999999 ∷ pos 500000 ∷ []) 3 ∷ []

abbrev pub zeros : List Call
zeros = block (pos 0 ∷ pos 0 ∷ pos 0 ∷ pos 0 ∷ []) 4 ∷ []

-- Na 2, from order 1 to order 3: two samples between, a loss and a pluck before them, a commit and a loss that are
-- refused among them
abbrev pub two : Opening
two = record { N = 1; L = 3; d = 4500; G = 60000; Na = 2 }

abbrev pub bass : Tuning
bass = tuning 3 2 13000

abbrev pub plucked : List Call
plucked = loss 50000 ∷ pluck 100 3 7 ∷ block (pos 0 ∷ []) 1 ∷ commit ∷ loss 65536 ∷ []

abbrev pub between : List Call
between = plucked ++ block (negsuc 4 ∷ []) 1 ∷ []

-- Na 0: no sample between
abbrev pub nothing : Opening
nothing = record { N = 2; L = 3; d = 8692; G = 60000; Na = 0 }

abbrev pub silently : List Call
silently = pluck 100 3 7 ∷ withdraw ∷ commit ∷ []

-- ---- a voice within its limits, as a stored one may be: Na 1
abbrev pub stored : State
stored = record {
  voice = record {
    tuning = tuning 2 3 8692;
    G = 60000;
    Na = 1;
    state = pos 900 ∷ negsuc 400 ∷ [];
    last = pos 70;
    waiting = none;
    pluck = silent;
  };
  line = pos 1000000 ∷ replicate 2111 (pos 0);
}

abbrev pub one : List Call
one = block (pos 5 ∷ []) 1 ∷ []

abbrev pub three : List Call
three = block (pos 0 ∷ pos 0 ∷ pos 0 ∷ []) 3 ∷ []

-- what L9 asks of it, what it says, and what both lists give
pub record Stored (to : Tuning) (ys : List ℤ) (ns ms ks js : List ℕ) (u : Voice) : Type 0 where
  pub due : Due stored to one
  pub meets : Meets stored to one three
  pub announced : Gives stored (announce to ∷ (one ++ three)) ys ns ks u
  pub instantly : Gives stored (one ++ instant to ∷ three) ys ms js u
  pub same_codes : without 0 ns ≡ without 1 ms
  pub same_runs : without 0 ks ≡ without 1 js

pub record Lives : Type 0 where
  pub orders :
      Instance two loud bass between zeros
      (pos 0 ∷ pos 0 ∷ pos 0 ∷ negsuc 46996 ∷ pos 1091785 ∷ pos 262431 ∷ negsuc 2087412 ∷ pos 531659
      ∷ negsuc 1953941 ∷ [])
      (0 ∷ 0 ∷ 0 ∷ 0 ∷ 0 ∷ 21 ∷ 4 ∷ 0 ∷ 0 ∷ [])
      (0 ∷ 0 ∷ 0 ∷ 0 ∷ 21 ∷ 4 ∷ 0 ∷ 0 ∷ 0 ∷ [])
      (0 ∷ 0 ∷ 0 ∷ 0 ∷ 0 ∷ 0 ∷ 0 ∷ 0 ∷ 0 ∷ [])
      (0 ∷ 0 ∷ 0 ∷ 0 ∷ 0 ∷ 0 ∷ 0 ∷ 2 ∷ 0 ∷ [])
      (record {
        tuning = bass;
        G = 50000;
        Na = 2;
        state = negsuc 575884 ∷ pos 1662181 ∷ pos 2889459 ∷ [];
        last = negsuc 1953941;
        waiting = none;
        pluck = silent;
      })
  pub at_once :
      Instance nothing loud (tuning 1 1 4400) silently zeros
      (pos 0 ∷ pos 0 ∷ pos 0 ∷ negsuc 17889 ∷ pos 560911 ∷ negsuc 1805974 ∷ pos 2887770 ∷ [])
      (0 ∷ 0 ∷ 0 ∷ 21 ∷ 21 ∷ 0 ∷ [])
      (0 ∷ 0 ∷ 21 ∷ 21 ∷ 0 ∷ 0 ∷ [])
      (0 ∷ 0 ∷ 0 ∷ 0 ∷ 0 ∷ 0 ∷ [])
      (0 ∷ 0 ∷ 0 ∷ 0 ∷ 0 ∷ 0 ∷ [])
      (record {
        tuning = tuning 1 1 4400;
        G = 60000;
        Na = 0;
        state = pos 270931 ∷ [];
        last = pos 2887770;
        waiting = none;
        pluck = silent;
      })
  -- one sample between, where Na is 2: the outputs differ from the first sample after it on
  pub fewer-announced :
      puts (fresh two) (announcing two loud bass plucked zeros)
      ≡ pos 0 ∷ pos 0 ∷ pos 0 ∷ negsuc 46996 ∷ pos 1091785 ∷ pos 262431 ∷ negsuc 2087412 ∷ pos 531659 ∷ []
  pub fewer-instant :
      puts (fresh two) (living two loud bass plucked zeros)
      ≡ pos 0 ∷ pos 0 ∷ pos 0 ∷ negsuc 46996 ∷ negsuc 178887 ∷ pos 1246466 ∷ negsuc 1959322 ∷ pos 505981 ∷ []
  pub accepted :
      Stored (tuning 1 1 4400) (negsuc 469 ∷ pos 998727 ∷ pos 19207 ∷ pos 440978 ∷ [])
      (0 ∷ 0 ∷ 0 ∷ []) (0 ∷ 0 ∷ 0 ∷ []) (0 ∷ 0 ∷ 0 ∷ []) (0 ∷ 1 ∷ 0 ∷ [])
      (record {
        tuning = tuning 1 1 4400;
        G = 60000;
        Na = 1;
        state = pos 482369 ∷ [];
        last = pos 440978;
        waiting = none;
        pluck = silent;
      })
  -- L 0: both refuse the change by 2
  pub refused :
      Stored (tuning 1 0 4400) (negsuc 469 ∷ pos 895 ∷ pos 10724 ∷ negsuc 77372 ∷ [])
      (2 ∷ 0 ∷ 0 ∷ []) (0 ∷ 2 ∷ 0 ∷ []) (0 ∷ 0 ∷ 0 ∷ []) (0 ∷ 0 ∷ 0 ∷ [])
      (record {
        tuning = tuning 2 3 8692;
        G = 60000;
        Na = 1;
        state = pos 78023 ∷ pos 999999 ∷ [];
        last = negsuc 77372;
        waiting = none;
        pluck = silent;
      })
