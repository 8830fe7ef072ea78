-- The theorems of specs/Theorems.antt and specs/Refusals.antt with every hypothesis met: a voice with a pluck that
-- sounds and an asked change, its bytes written out, and what it puts out once it is loaded. Document 02, L10.
-- Statements alone: proofs/Instances.antt has them by the theorems.
use Rattle.std.specs.Prelude.{◌≡◌, true, List, [], ◌∷◌, ◌++◌, ℕ, ℤ, pos, negsuc, replicate}
use Rattle.rule.specs.Voice.{Tuning, tuning}
use Rattle.rule.specs.Calls.{Opening, Call, block, loss, pluck, ask, commit}
use Rattle.rule.specs.State.{State, fresh, from, puts}
use Rattle.rule.specs.History.{after, new}
use Rattle.rule.specs.Click.{Figure}
use Rattle.form.specs.Numbers.{numbers_of}
use Rattle.form.specs.Parts.{form, stored}
use Rattle.form.specs.Loads.{loads, shown, panel}
use Rattle.form.specs.Theorems.{Storable, Goes}

abbrev pub o : Opening
o = record { N = 1; L = 3; d = 4096; G = 65535; Na = 2 }

abbrev pub t : Tuning
t = tuning 2 5 8000

abbrev pub cs : List Call
cs = pluck 200 100 7 ∷ loss 60000 ∷ ask t ∷ []

abbrev pub v : State
v = from (fresh o) cs

-- the bit map; order, L, d; loss; advance; kind, order, L, d, taken and a state; amplitude, steps, noise state
abbrev pub bytes : List ℕ
bytes =
    103 ∷ 1 ∷ 0 ∷ 0 ∷ 0 ∷ 3 ∷ 0 ∷ 0 ∷ 0 ∷ 0 ∷ 16 ∷ 0 ∷ 0 ∷ 96 ∷ 234 ∷ 0 ∷ 0 ∷ 2 ∷ 0 ∷ 0 ∷ 0 ∷ 2 ∷ 0 ∷ 0 ∷ 0
    ∷ 2 ∷ 0 ∷ 0 ∷ 0 ∷ 5 ∷ 0 ∷ 0 ∷ 0 ∷ 64 ∷ 31 ∷ 0 ∷ 0 ∷ 0 ∷ 0 ∷ 0 ∷ 0 ∷ 0 ∷ 0 ∷ 0 ∷ 0 ∷ 0 ∷ 0 ∷ 0 ∷ 0
    ∷ 0 ∷ 0 ∷ 0 ∷ 0 ∷ 200 ∷ 0 ∷ 0 ∷ 0 ∷ 100 ∷ 0 ∷ 0 ∷ 0 ∷ 7 ∷ 0 ∷ 0 ∷ 0 ∷ []

-- six samples, the commit, and two samples of the new filter
abbrev pub post : List Call
post =
    block (pos 1000 ∷ pos 0 ∷ pos 0 ∷ pos 0 ∷ pos 0 ∷ pos 0 ∷ []) 6 ∷ commit ∷ block (pos 0 ∷ pos 0 ∷ []) 2 ∷ []

abbrev pub samples : List ℤ
samples =
    pos 0 ∷ pos 0 ∷ pos 0 ∷ pos 0 ∷ negsuc 3422999 ∷ pos 5419600 ∷ negsuc 129864 ∷ negsuc 3252381 ∷ []

pub record Instances : Type 0 where
  -- RoundTrip
  pub stored_is : stored v ≡ bytes
  pub storable : Storable v
  pub back : loads bytes ≡ record { refusal = 0; state = v }
  pub needless : loads (form (replicate 8 true) (numbers_of v)) ≡ record { refusal = 0; state = v }
  -- Shows: the tuning in force, not the one that waits
  pub shows : panel bytes ≡ shown 0 3 4096 60000
  -- Resumed: with the samples really taken by the ask
  pub goes : Goes o cs post (loads bytes).state
  pub puts_out : puts (loads bytes).state post ≡ samples
  pub figure : Figure samples (after o (cs ++ post)).s t 6 6 7
  pub new_filter : new t (after o (cs ++ post)).s 7 ≡ negsuc 3252381
  -- Refuses: G 65,536 at its place; a byte too many
  pub outside : (loads (2 ∷ 0 ∷ 0 ∷ 1 ∷ 0 ∷ [])).refusal ≡ 23
  pub too_long : (loads (2 ∷ 255 ∷ 255 ∷ 0 ∷ 0 ∷ 0 ∷ [])).refusal ≡ 22
