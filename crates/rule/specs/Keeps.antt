-- What each accepted call changes of a voice, that it keeps the rest, and how many steps it is.
-- Statements alone: proofs/Keeps.antt and Counts.antt prove them of every voice and history. Assumes nothing.
use Rattle.std.specs.Prelude.{◌≡◌, List, ℕ, ◌+◌, ◌<◌, ℤ, length}
use Rattle.std.proofs.Math.Option.{Option, none, some}
use Rattle.allpass.specs.Allpass.{run}
use Rattle.rule.specs.Voice.{Tuning, Kind, announced, asked, Waiting, Voice, A, rest}
use Rattle.rule.specs.History.{History, steps, through, call}
use Rattle.rule.specs.Calls.{Call, block, loss, pluck, announce, ask, prepare, instant, commit, withdraw}
use Rattle.rule.specs.Calls.{number, done, count, window}

-- in u the tuning t is in force, with the filter state q, and w waits
pub record InForce (u : Voice) (t : Tuning) (q : List ℤ) (w : Option Waiting) : Type 0 where
  pub tuning : u.tuning ≡ t
  pub state : u.state ≡ q
  pub waiting : u.waiting ≡ w

-- v and u agree in all else: what no change touches
pub record Retuned (v u : Voice) : Type 0 where
  pub loss : u.G ≡ v.G
  pub advance : u.Na ≡ v.Na
  pub last : u.last ≡ v.last
  pub pluck : u.pluck ≡ v.pluck

pub record Keeps (v : Voice) (r : ℕ → ℤ) : Type 0 where
  -- a block does nothing but its steps, a loss sets G alone, and a pluck the pluck alone:
  -- "A new pluck replaces the rest of the old one"
  pub steps_alone : (xs : List ℤ) (n : ℕ) → done v r (block xs n) ≡ v
  pub set_loss : (G : ℕ)
      → done v r (loss G)
      ≡ record {
        tuning = v.tuning;
        G = G;
        Na = v.Na;
        state = v.state;
        last = v.last;
        waiting = v.waiting;
        pluck = v.pluck;
      }
  pub set_pluck : (a n z : ℕ)
      → done v r (pluck a n z)
      ≡ record {
        tuning = v.tuning;
        G = v.G;
        Na = v.Na;
        state = v.state;
        last = v.last;
        waiting = v.waiting;
        pluck = record { amplitude = a; left = n; noise = z };
      }
  -- an announced change leaves the filter in force, and waits at rest; with Na 0 it takes effect, from rest
  pub announce_waits : (to : Tuning) → 0 < v.Na
      → InForce (done v r (announce to)) v.tuning v.state
      (some (record { kind = announced; tuning = to; taken = 0; state = rest to }))
  pub announce_now : (to : Tuning) → v.Na ≡ 0
      → InForce (done v r (announce to)) to (rest to) none
  -- L3: one that is asked for "waits even with Na 0"
  pub ask_waits : (to : Tuning)
      → InForce (done v r (ask to)) v.tuning v.state
      (some (record { kind = asked; tuning = to; taken = 0; state = rest to }))
  pub prepare_rest : (k : Kind) (to : Tuning) → Retuned v (done v r (prepare k to))
  -- L3: "committing switches before the next sample; withdrawing drops it"
  pub commit_now : (w : Waiting) → v.waiting ≡ some w
      → InForce (done v r commit) w.tuning w.state none
  pub commit_rest : Retuned v (done v r commit)
  pub withdraw_drops : InForce (done v r withdraw) v.tuning v.state none
  pub withdraw_rest : Retuned v (done v r withdraw)
  -- an instant change is in force, from the run of a resting eliminator over the last Na reads
  pub instant_now : (to : Tuning)
      → InForce (done v r (instant to)) to
      (run (A to) (rest to) (window r to.L v.Na)) none
  pub instant_rest : (to : Tuning) → Retuned v (done v r (instant to))
  -- "it also returns the number of samples run, which is Na"
  pub counted : (to : Tuning) → number v (instant to) ≡ 0
      → (count v r (instant to) ≡ length (window r to.L v.Na)) × (count v r (instant to) ≡ v.Na)

-- ---- "an accepted block of b samples is b steps, every other call and every refused one is none"
pub record NoStep (h u : History) : Type 0 where
  pub s : u.s ≡ h.s
  pub y : u.y ≡ h.y

pub record Counts (h : History) : Type 0 where
  -- the steps of a block take its inputs in turn
  pub block_runs : (xs : List ℤ) (n : ℕ) → number h.voice (block xs n) ≡ 0
      → call h (block xs n) ≡ through h xs
  pub block_steps : (xs : List ℤ) (n : ℕ) → number h.voice (block xs n) ≡ 0
      → steps (call h (block xs n)) ≡ steps h + length xs
  pub loss_none : (G : ℕ) → NoStep h (call h (loss G))
  pub pluck_none : (a n z : ℕ) → NoStep h (call h (pluck a n z))
  pub prepare_none : (k : Kind) (to : Tuning) → NoStep h (call h (prepare k to))
  pub instant_none : (to : Tuning) → NoStep h (call h (instant to))
  pub commit_none : NoStep h (call h commit)
  pub withdraw_none : NoStep h (call h withdraw)
  pub refused_none : (c : Call) → (number h.voice c ≡ 0 → ⊥) → call h c ≡ h
