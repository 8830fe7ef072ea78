-- L9, "Live equals announced": a change announced Na samples before a moment, and the same change made then,
-- instantly: of any voice within its limits, and of lists from an opening. Statements alone: proofs/Live.antt
-- proves `Meet` and from it `Lives`, and Many.antt `AsMany`.
use Rattle.std.specs.Prelude.{◌≡◌, List, [], ◌∷◌, ◌++◌, ℕ, suc, length, take, drop}
use Rattle.std.proofs.Math.Option.{none}
use Rattle.rule.specs.Voice.{Tuning}
use Rattle.rule.specs.Calls.{Call, block, loss, pluck, prepare, announce, instant, commit, withdraw}
use Rattle.rule.specs.Calls.{Opening, number}
use Rattle.rule.specs.State.{State, fresh, from, puts, numbers, counts}
use Rattle.rule.specs.Valid.{Whole}

-- "with no other change or ask called between"; a commit or a withdrawal may be: both voices refuse it
abbrev pub NoChanges : List Call → Type 0
NoChanges [] = Unit {0}
NoChanges (block xs n ∷ cs) = NoChanges cs
NoChanges (loss G ∷ cs) = NoChanges cs
NoChanges (pluck a n z ∷ cs) = NoChanges cs
NoChanges (prepare k to ∷ cs) = ⊥
NoChanges (instant to ∷ cs) = ⊥
NoChanges (commit ∷ cs) = NoChanges cs
NoChanges (withdraw ∷ cs) = NoChanges cs

-- a list of numbers without the one at place k
abbrev pub without : ℕ → List ℕ → List ℕ
without k ns = take k ns ++ drop (suc k) ns

-- ---- "two equal voices": any voice v within its limits, whichever calls or stored bytes it comes from
module _ (v : State) (to : Tuning) (mid : List Call) where
  -- "with nothing waiting, announce a change Na samples before a moment": mid puts out Na samples, which may be 0
  pub record Due : Type 0 where
    pub whole : Whole v
    pub idle : v.voice.waiting ≡ none
    pub between : NoChanges mid
    pub many : length (puts v mid) ≡ v.voice.Na

  pub record Meets (post : List Call) : Type 0 where
    -- "then all their outputs agree, and the voices are equal from that moment on", line and all
    pub outputs : puts v (announce to ∷ (mid ++ post)) ≡ puts v (mid ++ instant to ∷ post)
    pub state : from v (announce to ∷ (mid ++ post)) ≡ from v (mid ++ instant to ∷ post)
    -- both accept the change, or both refuse it by one number
    pub code : number v.voice (announce to) ≡ number (from v mid).voice (instant to)
    -- all other calls return the same numbers, and the same counts
    pub codes : without 0 (numbers v (announce to ∷ (mid ++ post)))
        ≡ without (length mid) (numbers v (mid ++ instant to ∷ post))
    pub runs : without 0 (counts v (announce to ∷ (mid ++ post)))
        ≡ without (length mid) (counts v (mid ++ instant to ∷ post))

  abbrev pub Meet : Type 0
  Meet = Due → (post : List Call) → Meets post

-- ---- from an opening
-- the calls pre, mid and post, with a change announced before mid, or made instantly after it
module _ (o : Opening) (pre : List Call) (to : Tuning) (mid : List Call) where
  abbrev pub announcing : List Call → List Call
  announcing post = pre ++ announce to ∷ (mid ++ post)

  abbrev pub living : List Call → List Call
  living post = pre ++ (mid ++ instant to ∷ post)

  -- "with nothing waiting, announce a change Na samples before a moment": it is accepted, and mid puts out Na
  -- samples, which may be 0. "neither voice opened anew or replaced by another" need not be said: each call is
  -- made on the voice that the call before it left
  pub record Ahead : Type 0 where
    pub accepted : number (from (fresh o) pre).voice (announce to) ≡ 0
    pub between : NoChanges mid
    pub many : length (puts (from (fresh o) pre) mid) ≡ (from (fresh o) pre).voice.Na

  pub record Live (post : List Call) : Type 0 where
    -- "then all their outputs agree, and the voices are equal from that moment on", line and all
    pub outputs : puts (fresh o) (announcing post) ≡ puts (fresh o) (living post)
    pub state : from (fresh o) (announcing post) ≡ from (fresh o) (living post)
    -- the instant change is accepted; all other calls return the same numbers, and the same counts
    pub accepted : number (from (fresh o) (pre ++ mid)).voice (instant to) ≡ 0
    pub codes : without (length pre) (numbers (fresh o) (announcing post))
        ≡ without (length (pre ++ mid)) (numbers (fresh o) (living post))
    pub runs : without (length pre) (counts (fresh o) (announcing post))
        ≡ without (length (pre ++ mid)) (counts (fresh o) (living post))

  abbrev pub Lives : Type 0
  Lives = Ahead → (post : List Call) → Live post

-- which of the two voices puts out the Na samples is no matter: of any list all voices put out as many
abbrev pub AsMany : Type 0
AsMany = (cs : List Call) (v u : State) → length (puts v cs) ≡ length (puts u cs)
